-- The multiplexers of the operands of units.
use Rattle.std.specs.Prelude.{◌≡◌, ◌≢◌, ℕ, ◌<◌, ◌≤◌, Bool, true, false, List, length, Option, Some, None, slice_get, ℤ}
use Rattle.hls_ints.specs.Residues.{residue_of}
use Rattle.hls_ints.specs.Types.{IntegerType, width_of}
use Rattle.netlist.specs.declared.netlist.Signal.{Signal}
use Rattle.netlist.specs.declared.netlist.Module.{Module}
use Rattle.verilog_meaning.specs.Readings.{Reading}
use Rattle.circuit.specs.Modules.{Obeys}
use Rattle.operator_wires.specs.Gives.{Grows}
use Rattle.operator_wires.specs.Built.{Base, IsEarlier, AreWires}
use Rattle.block_datapath.specs.Chains.{next_number, is_set}
use Rattle.unit_datapath.specs.declared.inputs.UnitInputs.{UnitInputs}

-- an operation has given unit x operands
abbrev pub is_begun : Option Bool → Bool
is_begun (Some t) = t
is_begun None = false

abbrev pub IsBegun : UnitInputs → ℕ → Type 0
IsBegun c x = is_begun (slice_get c.begun x) ≡ true

-- so many units
pub record AreAsMany (n : ℕ) (c : UnitInputs) : Type 0 where
  pub begun : length c.begun ≡ n
  pub lefts : length c.lefts ≡ n
  pub rights : length c.rights ≡ n

-- unit x gets the same, if it is begun
pub record SameInputs (r : Reading) (before after : UnitInputs) (x : ℕ) : Type 0 where
  pub begun : IsBegun before x → IsBegun after x
  pub left : IsBegun before x → next_number r after.lefts x ≡ next_number r before.lefts x
  pub right : IsBegun before x → next_number r after.rights x ≡ next_number r before.rights x

-- unit x is begun, and gets these values
pub record GetsOperands (r : Reading) (c : UnitInputs) (x : ℕ) (ty : IntegerType) (a b : ℤ) : Type 0 where
  pub begun : IsBegun c x
  pub left : next_number r c.lefts x ≡ residue_of (width_of ty) a
  pub right : next_number r c.rights x ≡ residue_of (width_of ty) b

-- ---- how they are put together

-- so many places stand, each w bits wide
pub record ArePlaces (signals : List Signal) (base : Base) (w n : ℕ) (places : List ℕ) : Type 0 where
  pub count : length places ≡ n
  pub each : (x y : ℕ) → slice_get places x ≡ Some y → IsEarlier signals base y w

pub record AreInputs (signals : List Signal) (base : Base) (w n : ℕ) (c : UnitInputs) : Type 0 where
  pub lefts : ArePlaces signals base w n c.lefts
  pub rights : ArePlaces signals base w n c.rights

pub record AddsInputs (base : Base) (old new : List Signal) (w n : ℕ) (c : UnitInputs) : Type 0 where
  pub wires : AreWires base old new
  pub inputs : AreInputs new base w n c

-- ---- links

pub record BeginsInputs (old new : List Signal) (n w : ℕ) (c : UnitInputs) : Type 0 where
  pub grows : Grows old new
  pub many : AreAsMany n c
  pub wired : (base : Base) → base.first ≤ length old → 1 ≤ w → w ≤ 64 → AddsInputs base old new w n c

-- where a bit is set a unit gets what two signals show; all else that is begun stays
pub record LinksUnit (old new : List Signal) (before after : UnitInputs) (unit w here left right : ℕ) : Type 0 where
  pub grows : Grows old new
  pub many : (n : ℕ) → AreAsMany n before → AreAsMany n after
  pub set : (m : Module) (r : Reading) (n : ℕ) → Grows new m.signals → Obeys m r → AreAsMany n before → unit < n → is_set r here ≡ true →
      IsBegun after unit × (next_number r after.lefts unit ≡ r.signal left) × (next_number r after.rights unit ≡ r.signal right)
  pub rests : (m : Module) (r : Reading) (x n : ℕ) → Grows new m.signals → Obeys m r → AreAsMany n before → x < n → (is_set r here ≡ true → x ≢ unit) → SameInputs r before after x
  pub wired : (base : Base) (n : ℕ) → AreInputs old base w n before → IsEarlier old base here 1 → IsEarlier old base left w → IsEarlier old base right w →
      AddsInputs base old new w n after

-- the same of a unit that is begun
abbrev pub LinksBegun : List Signal → List Signal → UnitInputs → UnitInputs → ℕ → ℕ → ℕ → ℕ → ℕ → Type 0
LinksBegun old new before after unit w here left right = IsBegun before unit → LinksUnit old new before after unit w here left right
