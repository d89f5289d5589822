-- When a state is left, and what follows it then.
use Rattle.std.specs.Prelude.{◌≡◌, ℕ, ◌+◌, ◌<◌, ◌%◌, ◌^◌, Bool, false, not, ◌&&◌, ◌||◌, if◌then◌else◌, List, length, Option, Some, None, slice_get, slice_index}
use Rattle.hls_ints.specs.Residues.{bit_of}
use Rattle.bank_partition.specs.declared.banks.Spread.{Spread}
use Rattle.netlist.specs.declared.netlist.Signal.{Signal}
use Rattle.netlist.specs.declared.netlist.Module.{Module}
use Rattle.verilog_meaning.specs.Readings.{Reading, width}
use Rattle.circuit.specs.Modules.{Obeys}
use Rattle.operator_wires.specs.Gives.{Grows}
use Rattle.operator_wires.specs.Built.{Base, IsEarlier, Adds}
use Rattle.planned_block.specs.Advance.{any_below}
use Rattle.block_datapath.specs.declared.registers.Held.{Held}
use Rattle.block_datapath.specs.declared.registers.Registers.{Registers}
use Rattle.thread_slots.specs.declared.chains.Chains.{Chains}
use Rattle.thread_slots.specs.declared.inputs.Inputs.{Inputs}
use Rattle.thread_states.specs.declared.control.Edge.{Edge}
use Rattle.thread_slots.specs.Bits.{HasBit, HaveBits, MakesBits, is_in, AreBitsOf, AddsBits}

-- ---- what a cycle does, of cores that are open to be asked (raised), and that grant (grants)

module _ (raised grants : ℕ → Bool) (enabled : Bool) where
  -- core k is asked, and grants
  abbrev pub got : ℕ → Bool
  got k = (raised k && enabled) && grants k

  abbrev pub unmet : ℕ → Bool
  unmet k = raised k && not (got k)

  -- of n cores
  abbrev pub is_left : Bool → ℕ → Bool
  is_left waits n = enabled && not (waits || any_below unmet n)

abbrev pub counts_of : Option Spread → ℕ → Bool
counts_of None k = false
counts_of (Some s) k = is_in s k

-- ---- the state that follows

-- the state after a last one is 0, and after another one the next
pub record Follows (old new : List Signal) (state : Held) (is_last place : ℕ) : Type 0 where
  pub grows : Grows old new
  pub wide : (m : Module) → Grows new m.signals → width m place ≡ state.width
  pub shows : (m : Module) (r : Reading) (t : Bool) → Grows new m.signals → Obeys m r → width m state.register ≡ state.width → r.signal is_last ≡ bit_of t →
      r.signal place ≡ (if t then 0 else (r.signal state.register + 1) % 2 ^ state.width)

-- ---- grants that are remembered

-- a bit that is set where one before is, or a bank of the global grants, and the state stays
pub record RemembersOne (old new : List Signal) (mark : ℕ) (gots : List ℕ) (spread : Option Spread) (stay out : ℕ) : Type 0 where
  pub grows : Grows old new
  pub shows : (m : Module) (r : Reading) (s u : Bool) (t : ℕ → Bool) → Grows new m.signals → Obeys m r → HasBit m r mark s → HaveBits m r gots (length gots) t → HasBit m r stay u →
      HasBit m r out ((s || any_below (λ k. counts_of spread k && t k) (length gots)) && u)

-- so is bit number x made, of global x
pub record Remembered (granted gots : List ℕ) (spreads : List Spread) (stay : ℕ) (m : Module) (r : Reading) (x : ℕ) (t : Bool) : Type 0 where
  pub mark : Bool
  pub has_mark : HasBit m r (slice_index granted x) mark
  pub wins : ℕ → Bool
  pub has_wins : HaveBits m r gots (length gots) wins
  pub stays : Bool
  pub has_stays : HasBit m r stay stays
  pub is : t ≡ ((mark || any_below (λ k. counts_of (slice_get spreads x) k && wins k) (length gots)) && stays)

abbrev pub Remembers : List Signal → List Signal → List ℕ → List ℕ → List Spread → ℕ → ℕ → List ℕ → Type 0
Remembers old new granted gots spreads stay n nexts = MakesBits old new n nexts (Remembered granted gots spreads stay)

abbrev pub AddsMark : List Signal → List Signal → ℕ → List ℕ → ℕ → ℕ → Type 0
AddsMark old new mark gots stay out = (base : Base) → IsEarlier old base mark 1 → AreBitsOf base old gots → IsEarlier old base stay 1 → Adds base old new 1 out

abbrev pub AddsRemembered : List Signal → List Signal → List ℕ → List ℕ → ℕ → List ℕ → Type 0
AddsRemembered old new granted gots stay outs = (base : Base) → AreBitsOf base old granted → AreBitsOf base old gots → IsEarlier old base stay 1 → AddsBits base old new outs

-- ---- control

-- what is read: of each core whether it is open to be asked, and whether it grants; whether the state waits, and the enable
pub record Steers (m : Module) (r : Reading) (inputs : Inputs) (c : Chains) (opens : List ℕ) (raised grants : ℕ → Bool) (waits enabled : Bool) : Type 0 where
  pub has_opens : HaveBits m r opens (length opens) raised
  pub has_grants : HaveBits m r inputs.grants (length opens) grants
  pub has_waits : HasBit m r c.waits waits
  pub has_enable : HasBit m r inputs.enable enabled

pub record Controls (old new : List Signal) (registers : Registers) (inputs : Inputs) (c : Chains) (opens marks : List ℕ) (edge : Edge) : Type 0 where
  pub grows : Grows old new
  pub asks_count : length edge.asks ≡ length opens
  pub asks : (m : Module) (r : Reading) (raised : ℕ → Bool) (enabled : Bool) → Grows new m.signals → Obeys m r → HaveBits m r opens (length opens) raised →
      HasBit m r inputs.enable enabled →
      HaveBits m r edge.asks (length opens) (λ k. raised k && enabled)
  pub leave : (m : Module) (r : Reading) (raised grants : ℕ → Bool) (waits enabled : Bool) → Grows new m.signals → Obeys m r →
      Steers m r inputs c opens raised grants waits enabled →
      HasBit m r edge.leave (is_left raised grants enabled waits (length opens))
  pub moved : (m : Module) (r : Reading) (raised grants : ℕ → Bool) (waits enabled : Bool) → Grows new m.signals → Obeys m r →
      Steers m r inputs c opens raised grants waits enabled →
      HasBit m r edge.moved (is_left raised grants enabled waits (length opens) || any_below (got raised grants enabled) (length opens))
  pub granted_count : length edge.granted ≡ length marks
  pub granted : (m : Module) (r : Reading) (raised grants : ℕ → Bool) (waits enabled : Bool) (x : ℕ) (mark : Bool) → Grows new m.signals → Obeys m r →
      Steers m r inputs c opens raised grants waits enabled → x < length marks → HasBit m r (slice_index marks x) mark →
      HasBit m r (slice_index edge.granted x)
      ((mark || any_below (λ k. counts_of (slice_get registers.spreads x) k && got raised grants enabled k) (length opens)) && not
      (is_left raised grants enabled waits (length opens)))
  pub follows : Follows old new registers.state c.is_last edge.state
  pub beat : (m : Module) (r : Reading) (t : Bool) → Grows new m.signals → Obeys m r → HasBit m r registers.beat t → HasBit m r edge.beat (not t)
