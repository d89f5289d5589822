-- One module by itself: its equations, its state, and what its signals read.
use Rattle.std.specs.Prelude.{◌≡◌, ℕ, ◌+◌, ◌-◌, ◌*◌, ◌^◌, ◌<◌, ◌≤◌, Bool, true, not, ◌&&◌, nat_lt, List, [], ◌∷◌, length, Option, Some, slice_get}
use Rattle.verilog_tree.specs.declared.tree.BinaryOperator.{BinaryOperator}
use Rattle.verilog_tree.specs.declared.tree.BinaryOperator.TheVariants.{Equal, Less, ShiftLeft, ShiftRight}
use Rattle.netlist.specs.declared.netlist.Value.{Value}
use Rattle.netlist.specs.declared.netlist.Value.TheVariants.{Copy, Constant, BitwiseNot, Binary, SignedLess, ArithmeticShiftRight, Conditional, Division, SignedDivision}
use Rattle.netlist.specs.declared.netlist.Value.TheVariants.{MemoryRead, Select, Concatenation, Replication}
use Rattle.netlist.specs.declared.netlist.Source.{Source}
use Rattle.netlist.specs.declared.netlist.Source.TheVariants.{Input, Register, Assigned, Port}
use Rattle.netlist.specs.declared.netlist.Signal.{Signal}
use Rattle.netlist.specs.declared.netlist.Memory.{Memory}
use Rattle.netlist.specs.declared.netlist.Argument.{Argument}
use Rattle.netlist.specs.declared.netlist.Argument.TheVariants.{Unsigned, Signed}
use Rattle.netlist.specs.declared.netlist.Effect.{Effect}
use Rattle.netlist.specs.declared.netlist.Effect.TheVariants.{Set, Store, Write}
use Rattle.netlist.specs.declared.netlist.Action.{Action}
use Rattle.netlist.specs.declared.netlist.Module.{Module}
use Rattle.verilog_meaning.specs.Readings.{Reading, value}
use Rattle.verilog_meaning.specs.Cycles.{IsRegister}
use Rattle.circuit.specs.Rows.{EachOf}

-- a reading meets the module's own equations, and its numbers fit
pub record Obeys (m : Module) (r : Reading) : Type 0 where
  pub equations : (x : ℕ) (s : Signal) (v : Value) → slice_get m.signals x ≡ Some s → s.source ≡ Assigned v → r.signal x ≡ value m r v
  pub within : (x : ℕ) (s : Signal) → slice_get m.signals x ≡ Some s → r.signal x < 2 ^ s.width

-- two readings are the same at the registers and memory words of a module
pub record Agree (m : Module) (h g : Reading) : Type 0 where
  pub registers : (x : ℕ) (s : Signal) → slice_get m.signals x ≡ Some s → IsRegister s.source → h.signal x ≡ g.signal x
  pub words : (j k : ℕ) (s : Memory) → slice_get m.memories j ≡ Some s → k < length s.initial → h.word j k ≡ g.word j k

-- signal x of a module is an input port
pub record HasInput (m : Module) (x : ℕ) : Type 0 where
  pub signal : Signal
  pub listed : slice_get m.signals x ≡ Some signal
  pub is : signal.source ≡ Input

-- signal x of a module is declared with this width
pub record Has (m : Module) (x w : ℕ) : Type 0 where
  pub signal : Signal
  pub listed : slice_get m.signals x ≡ Some signal
  pub wide : signal.width ≡ w

-- signal x of a module is a register of this width
pub record HasRegister (m : Module) (x w : ℕ) : Type 0 where
  pub signal : Signal
  pub listed : slice_get m.signals x ≡ Some signal
  pub wide : signal.width ≡ w
  pub is : IsRegister signal.source

-- ---- widths: what each right side asks of its operands, where its target has a width (IEEE 1364-2005, 5.4.1)

-- P y w: operand y has width w
module _ (P : ℕ → ℕ → Type 0) where
  abbrev pub FitsBinary : BinaryOperator → ℕ → ℕ → ℕ → Type 0
  FitsBinary Equal w x y = (w ≡ 1) × ((v : ℕ) × P x v × P y v)
  FitsBinary Less w x y = (w ≡ 1) × ((v : ℕ) × P x v × P y v)
  FitsBinary ShiftLeft w x y = P x w × ((v : ℕ) × P y v)
  FitsBinary ShiftRight w x y = P x w × ((v : ℕ) × P y v)
  FitsBinary _ w x y = P x w × P y w

  -- parts side by side
  abbrev pub FitsParts : List ℕ → ℕ → Type 0
  FitsParts [] w = w ≡ 0
  FitsParts (x ∷ xs) w = (v : ℕ) × (rest : ℕ) × P x v × FitsParts xs rest × (w ≡ v + rest)

  abbrev pub FitsValue : (ℕ → Option Memory) → ℕ → Value → Type 0
  FitsValue memory w (Copy x) = P x w
  FitsValue memory w (Constant n) = n < 2 ^ w
  FitsValue memory w (BitwiseNot x) = P x w
  FitsValue memory w (Binary operator x y) = FitsBinary operator w x y
  FitsValue memory w (SignedLess x y) = (w ≡ 1) × ((v : ℕ) × P x v × P y v)
  FitsValue memory w (ArithmeticShiftRight x y) = P x w × ((v : ℕ) × P y v)
  FitsValue memory w (Conditional c x y) = P c 1 × P x w × P y w
  FitsValue memory w (Division operator x y) = P x w × P y w
  FitsValue memory w (SignedDivision operator x y) = P x w × P y w
  FitsValue memory w (MemoryRead j x) = (s : Memory) × (memory j ≡ Some s) × (s.width ≡ w) × ((v : ℕ) × P x v × (length s.initial < 2 ^ v))
  FitsValue memory w (Select x high low) = (low ≤ high) × (high + 1 - low ≡ w) × ((v : ℕ) × P x v × (high < v))
  FitsValue memory w (Concatenation xs) = FitsParts xs w
  FitsValue memory w (Replication n x) = (v : ℕ) × P x v × (n * v ≡ w)

-- ---- statements: a register and a memory word take numbers of their widths, and conditions are bits

abbrev pub FitsArgument : Module → Argument → Type 0
FitsArgument m (Unsigned x) = (w : ℕ) × Has m x w
FitsArgument m (Signed x) = (w : ℕ) × Has m x w

abbrev pub FitsEffect : Module → Effect → Type 0
FitsEffect m (Set x y) = (w : ℕ) × HasRegister m x w × Has m y w
FitsEffect m (Store j x y) = (s : Memory) × (slice_get m.memories j ≡ Some s) × Has m y s.width × ((w : ℕ) × Has m x w)
FitsEffect m (Write text arguments) = EachOf (FitsArgument m) arguments

abbrev pub FitsAction : Module → Action → Type 0
FitsAction m a = EachOf (λ x. Has m x 1) a.conditions × FitsEffect m a.effect

abbrev pub FitsMemory : Memory → Type 0
FitsMemory s = EachOf (λ n. n < 2 ^ s.width) s.initial

-- from a place on, and before another
abbrev pub is_between : ℕ → ℕ → ℕ → Bool
is_between from until x = not (nat_lt x from) && nat_lt x until

-- ---- order: what a signal reads stands before it, and only late signals read late ones

pub record Reads (m : Module) (late : ℕ → Bool) (x y w : ℕ) : Type 0 where
  pub has : Has m y w
  pub before : y < x
  pub in_time : late y ≡ true → late x ≡ true

-- of a module whose first places are inputs
abbrev pub IsSoundSource : Module → ℕ → (ℕ → Bool) → ℕ → ℕ → Source → Type 0
IsSoundSource m inputs late x w Input = x < inputs
IsSoundSource m inputs late x w (Register n) = n < 2 ^ w
IsSoundSource m inputs late x w (Assigned v) = FitsValue (Reads m late x) (λ j. slice_get m.memories j) w v
IsSoundSource m inputs late x w (Port i p) = ⊥

abbrev pub IsSound : Module → ℕ → (ℕ → Bool) → ℕ → Signal → Type 0
IsSound m inputs late x s = IsSoundSource m inputs late x s.width s.source

-- a module without instances, whose inputs stand first, each signal of which reads earlier ones of right widths, whose
-- statements fit, and whose initial constants do; only signals that are late read late ones
pub record IsLeaf (m : Module) (inputs : ℕ) (late : ℕ → Bool) : Type 0 where
  pub alone : m.instances ≡ []
  pub first : (x : ℕ) → x < inputs → HasInput m x
  pub sound : (x : ℕ) (s : Signal) → slice_get m.signals x ≡ Some s → IsSound m inputs late x s
  pub acts : EachOf (FitsAction m) m.actions
  pub begins : EachOf FitsMemory m.memories
