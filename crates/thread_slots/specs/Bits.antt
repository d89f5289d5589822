-- Lists of bits.
use Rattle.std.specs.Prelude.{◌≡◌, ℕ, ◌+◌, ◌-◌, ◌<◌, ◌^◌, Bool, not, ◌&&◌, ◌||◌, nat_eq, nat_le, nat_lt, List, length, Some, slice_get, slice_index}
use Rattle.hls_ints.specs.Residues.{bit_of}
use Rattle.bank_partition.specs.declared.banks.Spread.{Spread}
use Rattle.verilog_tree.specs.declared.tree.BinaryOperator.TheVariants.{And}
use Rattle.netlist.specs.declared.netlist.Value.TheVariants.{Binary}
use Rattle.netlist.specs.declared.netlist.Source.TheVariants.{Assigned}
use Rattle.netlist.specs.declared.netlist.Signal.{Signal}
use Rattle.netlist.specs.declared.netlist.Module.{Module}
use Rattle.verilog_meaning.specs.Readings.{Reading, width}
use Rattle.circuit.specs.Modules.{Obeys}
use Rattle.operator_wires.specs.Gives.{Grows}
use Rattle.operator_wires.specs.Built.{Base, IsEarlier, AreWires, Adds}
use Rattle.planned_block.specs.Advance.{any_below}
use Rattle.thread_slots.specs.Slots.{StandsAt}

-- a signal of one bit shows this
pub record HasBit (m : Module) (r : Reading) (place : ℕ) (t : Bool) : Type 0 where
  pub wide : width m place ≡ 1
  pub shows : r.signal place ≡ bit_of t

-- so do the first n of a list
abbrev pub HaveBits : Module → Reading → List ℕ → ℕ → (ℕ → Bool) → Type 0
HaveBits m r places n t = (k : ℕ) → k < n → HasBit m r (slice_index places k) (t k)

-- ---- a bit of each

-- of what bit number k is made
pub record NotOf (bits : List ℕ) (m : Module) (r : Reading) (k : ℕ) (t : Bool) : Type 0 where
  pub bit : Bool
  pub has : HasBit m r (slice_index bits k) bit
  pub is : t ≡ not bit

pub record BothOf (left right : List ℕ) (m : Module) (r : Reading) (k : ℕ) (t : Bool) : Type 0 where
  pub one : Bool
  pub two : Bool
  pub has_one : HasBit m r (slice_index left k) one
  pub has_two : HasBit m r (slice_index right k) two
  pub is : t ≡ (one && two)

pub record WithOf (bits : List ℕ) (other : ℕ) (m : Module) (r : Reading) (k : ℕ) (t : Bool) : Type 0 where
  pub one : Bool
  pub two : Bool
  pub has_one : HasBit m r (slice_index bits k) one
  pub has_two : HasBit m r other two
  pub is : t ≡ (one && two)

pub record NumberOf (of : ℕ) (m : Module) (r : Reading) (k : ℕ) (t : Bool) : Type 0 where
  pub wide : width m of ≡ 64
  pub small : k < 2 ^ 64
  pub fits : r.signal of < 2 ^ 64
  pub is : t ≡ nat_eq (r.signal of) k

-- n signals are put behind others, each of which shows what it is made of
pub record MakesBits (old new : List Signal) (n : ℕ) (outs : List ℕ) (Made : Module → Reading → ℕ → Bool → Type 0) : Type 0 where
  pub grows : Grows old new
  pub count : length outs ≡ n
  pub shows : (m : Module) (r : Reading) (k : ℕ) (t : Bool) → Grows new m.signals → Obeys m r → k < n → Made m r k t → HasBit m r (slice_index outs k) t

-- one behind the other stand the first n of these bits with another one
pub record LaysWith (old new : List Signal) (bits : List ℕ) (other n : ℕ) (outs : List ℕ) : Type 0 where
  pub grows : Grows old new
  pub long : length new ≡ length old + n
  pub places : (k : ℕ) → k < n → slice_index outs k ≡ length old + k
  pub count : length outs ≡ n
  pub each : (k x : ℕ) → k < n → slice_get bits k ≡ Some x → StandsAt new (length old + k) 1 (Assigned (Binary And x other))

-- ---- one bit of all

-- a bit that is set where a first one is, or one of the first n that count
pub record MakesAny (old new : List Signal) (first : ℕ) (bits : List ℕ) (counts : ℕ → Bool) (n out : ℕ) : Type 0 where
  pub grows : Grows old new
  pub shows : (m : Module) (r : Reading) (s : Bool) (t : ℕ → Bool) → Grows new m.signals → Obeys m r → HasBit m r first s → HaveBits m r bits n t →
      HasBit m r out (s || any_below (λ k. counts k && t k) n)

-- a bit that is set where another one is, and where this one is if it counts
pub record EitherIf (old new : List Signal) (any bit : ℕ) (counts : Bool) (out : ℕ) : Type 0 where
  pub grows : Grows old new
  pub shows : (m : Module) (r : Reading) (s t : Bool) → Grows new m.signals → Obeys m r → HasBit m r any s → HasBit m r bit t → HasBit m r out (s || (counts && t))

-- whether a bank is one of those of a global
abbrev pub is_in : Spread → ℕ → Bool
is_in s k = nat_le s.first k && nat_lt (k - s.first) s.count

-- ---- how they are put together

abbrev pub AreBitsOf : Base → List Signal → List ℕ → Type 0
AreBitsOf base signals places = (k x : ℕ) → slice_get places k ≡ Some x → IsEarlier signals base x 1

pub record AddsBits (base : Base) (old new : List Signal) (outs : List ℕ) : Type 0 where
  pub wires : AreWires base old new
  pub stand : AreBitsOf base new outs

module _ (old new : List Signal) where
  abbrev pub AddsNots : List ℕ → List ℕ → Type 0
  AddsNots bits outs = (base : Base) → AreBitsOf base old bits → AddsBits base old new outs

  abbrev pub AddsBoths : List ℕ → List ℕ → List ℕ → Type 0
  AddsBoths left right outs = (base : Base) → AreBitsOf base old left → AreBitsOf base old right → length left ≡ length right → AddsBits base old new outs

  abbrev pub AddsWiths : List ℕ → ℕ → List ℕ → Type 0
  AddsWiths bits other outs = (base : Base) → AreBitsOf base old bits → IsEarlier old base other 1 → AddsBits base old new outs

  abbrev pub AddsNumbers : ℕ → List ℕ → Type 0
  AddsNumbers of outs = (base : Base) → IsEarlier old base of 64 → AddsBits base old new outs

  abbrev pub AddsAny : ℕ → List ℕ → ℕ → Type 0
  AddsAny first bits out = (base : Base) → AreBitsOf base old bits → IsEarlier old base first 1 → Adds base old new 1 out

  abbrev pub EitherAdds : ℕ → ℕ → ℕ → Type 0
  EitherAdds any bit out = (base : Base) → IsEarlier old base any 1 → IsEarlier old base bit 1 → Adds base old new 1 out
