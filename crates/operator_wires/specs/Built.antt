-- How a module is put together: under which name, how wide and driven by what each signal stands, and what wires read.
use Rattle.std.specs.Prelude.{◌≡◌, ℕ, ◌<◌, ◌≤◌, Bool, true, false, if◌then◌else◌, List, [], ◌∷◌, ◌++◌, length, Option, Some, None, slice_get, codes}
use Rattle.hls_ints.specs.Types.{IntegerType, width_of}
use Rattle.c_program.specs.declared.tree.BinaryOperator.{BinaryOperator}
use Rattle.operator_words.specs.Shown.{IsRight}
use Rattle.netlist.specs.declared.netlist.Value.{Value}
use Rattle.netlist.specs.declared.netlist.Value.TheVariants.{Select}
use Rattle.netlist.specs.declared.netlist.Source.{Source}
use Rattle.netlist.specs.declared.netlist.Source.TheVariants.{Assigned}
use Rattle.netlist.specs.declared.netlist.Signal.{Signal}
use Rattle.netlist.specs.declared.netlist.Memory.{Memory}
use Rattle.circuit.specs.Names.{numbered}
use Rattle.circuit.specs.Modules.{FitsValue}
use Rattle.operator_wires.specs.declared.wires.Role.{Role}
use Rattle.operator_wires.specs.declared.wires.Role.TheVariants as role
use Rattle.operator_wires.specs.declared.words.Word.{Word}
use Rattle.operator_wires.specs.Gives.{Grows}

-- ---- names

abbrev pub stem_of : Role → List ℕ
stem_of role.Clock = codes "clk"
stem_of role.Enable = codes "en"
stem_of role.Need = codes "need"
stem_of role.Done = codes "done"
stem_of role.Beat = codes "beat"
stem_of role.Grant = codes "grant"
stem_of role.Told = codes "told"
stem_of role.Ask = codes "ask"
stem_of role.Field = codes "field"
stem_of role.Stage = codes "stage"
stem_of role.State = codes "state"
stem_of role.Granted = codes "granted"
stem_of role.Variable = codes "variable"
stem_of role.Kept = codes "kept"
stem_of role.Wire = codes "w"

-- a module has one signal of it, whose name has no number
abbrev pub is_single : Role → Bool
is_single role.Clock = true
is_single role.Enable = true
is_single role.Need = true
is_single role.Done = true
is_single role.Beat = true
is_single _ = false

-- the name of the signal at a place
abbrev pub name_at : Role → ℕ → List ℕ
name_at role place = if is_single role then stem_of role else numbered (stem_of role) place

-- there is one more signal, at this place, which this drives
pub record Lays (old new : List Signal) (role : Role) (w : ℕ) (out : Bool) (driver : Source) (place : ℕ) : Type 0 where
  pub last : place ≡ length old
  pub signal : Signal
  pub is : new ≡ old ++ signal ∷ []
  pub named : signal.name ≡ name_at role (length old)
  pub wide : signal.width ≡ w
  pub flag : signal.is_output ≡ out
  pub drives : signal.source ≡ driver

-- ---- what wires read

-- what wires stand on: so many first signals, of which they read none, and the memories that they may read, by number
pub record Base : Type 0 where
  pub first : ℕ
  pub memory : ℕ → Option Memory

-- no memory is read
abbrev pub no_memory : ℕ → Option Memory
no_memory j = None

-- signal y, which is not one of the first of the base, is w bits wide
pub record IsEarlier (signals : List Signal) (base : Base) (y w : ℕ) : Type 0 where
  pub signal : Signal
  pub listed : slice_get signals y ≡ Some signal
  pub wide : signal.width ≡ w
  pub after : base.first ≤ y
  pub low : 1 ≤ w
  pub high : w ≤ 64

-- what a select reads has more than one bit (IEEE 1364-2005, 5.2.1: a scalar has no bits to select)
abbrev pub SelectsOf : (ℕ → ℕ → Type 0) → Value → Type 0
SelectsOf P (Select x high low) = (v : ℕ) × P x v × (1 < v)
SelectsOf P _ = Unit {0}

-- a right side of w bits that a wire behind these signals may have
pub record IsRightSide (signals : List Signal) (base : Base) (w : ℕ) (right : Value) : Type 0 where
  pub room : base.first ≤ length signals
  pub low : 1 ≤ w
  pub high : w ≤ 64
  pub fits : FitsValue (IsEarlier signals base) base.memory w right
  pub selects : SelectsOf (IsEarlier signals base) right

module _ (signals : List Signal) (base : Base) (x : ℕ) where
  -- an earlier signal that signal x may read
  pub record IsRead (y w : ℕ) : Type 0 where
    pub earlier : IsEarlier signals base y w
    pub before : y < x

  -- signal x is a wire
  pub record IsWire (s : Signal) : Type 0 where
    pub named : s.name ≡ numbered (codes "w") x
    pub inner : s.is_output ≡ false
    pub low : 1 ≤ s.width
    pub high : s.width ≤ 64
    pub right : Value
    pub drives : s.source ≡ Assigned right
    pub fits : FitsValue IsRead base.memory s.width right
    pub selects : SelectsOf IsRead right

-- THE SIGNALS BEHIND others are wires, each of which reads earlier signals of right widths, and none of the first of the base
pub record AreWires (base : Base) (old new : List Signal) : Type 0 where
  pub grows : Grows old new
  pub each : (x : ℕ) (s : Signal) → length old ≤ x → slice_get new x ≡ Some s → IsWire new base x s

-- wires are added, and the signal at a place is w bits wide
pub record Adds (base : Base) (old new : List Signal) (w place : ℕ) : Type 0 where
  pub wires : AreWires base old new
  pub stands : IsEarlier new base place w

-- ---- words of types

-- a signal as wide as a type stands for a word
pub record StandsAs (signals : List Signal) (base : Base) (ty : IntegerType) (word : Word) : Type 0 where
  pub says : word.width ≡ width_of ty
  pub sign : word.signed ≡ ty.signed
  pub stands : IsEarlier signals base word.place (width_of ty)

-- wires are added, and there is a word of this type
pub record AddsWord (base : Base) (old new : List Signal) (ty : IntegerType) (out : Word) : Type 0 where
  pub wires : AreWires base old new
  pub word : StandsAs new base ty out

-- and there is a right operand of an operator at type ty
pub record AddsRight (base : Base) (old new : List Signal) (operator : BinaryOperator) (ty : IntegerType) (out : Word) : Type 0 where
  pub kind : IntegerType
  pub is_right : IsRight operator ty kind
  pub adds : AddsWord base old new kind out
