-- One module without instances: the reading that its registers, its memory words and numbers of its inputs settle to.
use Rattle.std.specs.Prelude.{◌≡◌, ℕ, zero, suc, ◌%◌, ◌^◌, ◌<◌, Bool, false, List, [], ◌∷◌, length, Option, Some, None, slice_get, nat_eq, if◌then◌else◌}
use Rattle.netlist.specs.declared.netlist.Source.{Source}
use Rattle.netlist.specs.declared.netlist.Source.TheVariants.{Input, Register, Assigned, Port}
use Rattle.netlist.specs.declared.netlist.Signal.{Signal}
use Rattle.netlist.specs.declared.netlist.Memory.{Memory}
use Rattle.netlist.specs.declared.netlist.Effect.{Effect}
use Rattle.netlist.specs.declared.netlist.Effect.TheVariants.{Set, Store, Write}
use Rattle.netlist.specs.declared.netlist.Action.{Action}
use Rattle.netlist.specs.declared.netlist.Module.{Module}
use Rattle.verilog_meaning.specs.Readings.{Reading, value}
use Rattle.verilog_meaning.specs.Cycles.{IsRegister}
use Rattle.circuit.specs.Rows.{EachOf}
use Rattle.circuit.specs.Modules.{Obeys, Agree, Has, IsLeaf}

-- the numbers of a reading's registers and memory words fit: it is a state
pub record IsSlot (m : Module) (s : Reading) : Type 0 where
  pub registers : (x : ℕ) (t : Signal) → slice_get m.signals x ≡ Some t → IsRegister t.source → s.signal x < 2 ^ t.width
  pub words : (j k : ℕ) (t : Memory) → slice_get m.memories j ≡ Some t → k < length t.initial → s.word j k < 2 ^ t.width

-- two readings that a module obeys agree on each signal that is not late, where they have the same registers and words and
-- the same inputs that are not late
abbrev pub EarlyIsDecided : Type 0
EarlyIsDecided =
    (m : Module) (inputs : ℕ) (late : ℕ → Bool) → IsLeaf m inputs late → (r q : Reading) → Obeys m r → Obeys m q → Agree m r q → ((x : ℕ) → x < inputs → late x ≡ false
    → r.signal x ≡ q.signal x) → (x w : ℕ) → Has m x w → late x ≡ false → r.signal x ≡ q.signal x

-- ---- signals from the first place on: an input has the number that it is given, modulo 2 to its width, a register that of
-- the state, and any other signal what its right side gives it from the signals before it

module _ (m : Module) (given : ℕ → ℕ) (s : Reading) where
  abbrev pub number_from : (ℕ → ℕ) → ℕ → ℕ → Source → ℕ
  number_from before x w Input = given x % 2 ^ w
  number_from before x w (Register n) = s.signal x
  number_from before x w (Assigned v) = value m (record { signal = before; word = s.word }) v
  number_from before x w (Port i p) = 0

  abbrev pub number_at : (ℕ → ℕ) → ℕ → Option Signal → ℕ
  number_at before x None = 0
  number_at before x (Some t) = number_from before x t.width t.source

  -- the first n signals, and 0 from there on
  abbrev pub filled : ℕ → ℕ → ℕ
  filled zero x = 0
  filled (suc n) x = if nat_eq x n then number_at (filled n) x (slice_get m.signals x) else filled n x

  unfoldable pub settled_reading : Reading
  settled_reading = record { signal = λ x. number_at (filled x) x (slice_get m.signals x); word = s.word }

-- ---- what statements read

abbrev pub effect_operands : Effect → List ℕ
effect_operands (Set x y) = y ∷ []
effect_operands (Store j x y) = x ∷ y ∷ []
effect_operands (Write text arguments) = []

-- no condition of an action and no number that it sets is that of the clock, which is the first input
abbrev pub IsUnclocked : Action → Type 0
IsUnclocked a = EachOf (λ x. 0 < x) a.conditions × EachOf (λ x. 0 < x) (effect_operands a.effect)

-- every state settles, whatever its inputs are given, to a reading of it that the module obeys
abbrev pub StateSettles : Type 0
StateSettles =
    (m : Module) (inputs : ℕ) (late : ℕ → Bool) → IsLeaf m inputs late → (given : ℕ → ℕ) (s : Reading) → IsSlot m s
    → Obeys m (settled_reading m given s) × Agree m s (settled_reading m given s)
