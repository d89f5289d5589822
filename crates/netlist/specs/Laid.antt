-- A netlist that a text can tell: its names tell its parts apart, the signals of a module stand in the order of a
-- text's declarations, and each place that it speaks of is one of its module.
use Rattle.std.specs.Prelude.{◌≡◌, ℕ, ◌+◌, ◌-◌, ◌<◌, ◌≤◌, Bool, true, false, if◌then◌else◌, List, [], ◌∷◌, ◌++◌, length, map, filter, take, Option, Some, option_map, slice_get}
use Rattle.netlist.specs.declared.netlist.Value.{Value}
use Rattle.netlist.specs.declared.netlist.Value.TheVariants as v
use Rattle.netlist.specs.declared.netlist.Source.{Source}
use Rattle.netlist.specs.declared.netlist.Source.TheVariants as source
use Rattle.netlist.specs.declared.netlist.Signal.{Signal}
use Rattle.netlist.specs.declared.netlist.Memory.{Memory}
use Rattle.netlist.specs.declared.netlist.Argument.{Argument}
use Rattle.netlist.specs.declared.netlist.Argument.TheVariants as a
use Rattle.netlist.specs.declared.netlist.Effect.{Effect}
use Rattle.netlist.specs.declared.netlist.Effect.TheVariants as effect
use Rattle.netlist.specs.declared.netlist.Action.{Action}
use Rattle.netlist.specs.declared.netlist.Instance.{Instance}
use Rattle.netlist.specs.declared.netlist.Module.{Module}
use Rattle.netlist.specs.declared.netlist.Netlist.{Netlist}
use Rattle.netlist.specs.NetlistOf.{Name, Kind, InputPort, OutputPort, PlainWire, Reg, is_output_port}

-- each of a list, at its place
abbrev pub EachAt : {A : Type 0} → List A → (ℕ → A → Type 0) → Type 0
EachAt {A} xs P = (k : ℕ) (x : A) → slice_get xs k ≡ Some x → P k x

-- no name stands at two places
abbrev pub AreApart : List Name → Type 0
AreApart names = (i j : ℕ) (x : Name) → slice_get names i ≡ Some x → slice_get names j ≡ Some x → i ≡ j

-- ---- inputs, wires and registers, outputs

-- what a signal is declared as
abbrev pub kind_by : Source → Bool → Kind
kind_by source.Input out = InputPort
kind_by (source.Register n) out = Reg
kind_by (source.Assigned right) out = if out then OutputPort else PlainWire
kind_by (source.Port i port) out = if out then OutputPort else PlainWire

abbrev pub kind_of : Signal → Kind
kind_of s = kind_by s.source s.is_output

abbrev pub is_input_port : Kind → Bool
is_input_port InputPort = true
is_input_port _ = false

abbrev pub is_inner : Kind → Bool
is_inner InputPort = false
is_inner OutputPort = false
is_inner PlainWire = true
is_inner Reg = true

abbrev pub input_signals : Module → List Signal
input_signals m = filter (λ (s : Signal). is_input_port (kind_of s)) m.signals

abbrev pub inner_signals : Module → List Signal
inner_signals m = filter (λ (s : Signal). is_inner (kind_of s)) m.signals

abbrev pub output_signals : Module → List Signal
output_signals m = filter (λ (s : Signal). is_output_port (kind_of s)) m.signals

-- the place of the first output port
abbrev pub first_output : Module → ℕ
first_output m = length m.signals - length (output_signals m)

-- ---- names

abbrev pub signal_names : Module → List Name
signal_names m = map (λ (s : Signal). s.name) m.signals

abbrev pub memory_names : Module → List Name
memory_names m = map (λ (x : Memory). x.name) m.memories

abbrev pub instance_names : Module → List Name
instance_names m = map (λ (n : Instance). n.name) m.instances

-- the names that a module declares
abbrev pub declared_names : Module → List Name
declared_names m = signal_names m ++ memory_names m ++ instance_names m

abbrev pub module_names : List Module → List Name
module_names modules = map (λ (m : Module). m.name) modules

-- ---- places

-- the signals that a right side reads
abbrev pub operands : Value → List ℕ
operands (v.Copy x) = x ∷ []
operands (v.Constant n) = []
operands (v.BitwiseNot x) = x ∷ []
operands (v.Binary operator x y) = x ∷ y ∷ []
operands (v.SignedLess x y) = x ∷ y ∷ []
operands (v.ArithmeticShiftRight x y) = x ∷ y ∷ []
operands (v.Conditional c x y) = c ∷ x ∷ y ∷ []
operands (v.Division operator x y) = x ∷ y ∷ []
operands (v.SignedDivision operator x y) = x ∷ y ∷ []
operands (v.MemoryRead j x) = x ∷ []
operands (v.Select x high low) = x ∷ []
operands (v.Concatenation xs) = xs
operands (v.Replication n x) = x ∷ []

-- the memories that it reads
abbrev pub memories_read : Value → List ℕ
memories_read (v.MemoryRead j x) = j ∷ []
memories_read _ = []

abbrev pub argument_place : Argument → ℕ
argument_place (a.Unsigned x) = x
argument_place (a.Signed x) = x

-- the signals that an effect reads or sets
abbrev pub effect_signals : Effect → List ℕ
effect_signals (effect.Set x y) = x ∷ y ∷ []
effect_signals (effect.Store j x y) = x ∷ y ∷ []
effect_signals (effect.Write text arguments) = map argument_place arguments

abbrev pub memories_stored : Effect → List ℕ
memories_stored (effect.Store j x y) = j ∷ []
memories_stored _ = []

abbrev pub AreSignals : Module → List ℕ → Type 0
AreSignals m xs = EachAt xs (λ k x. x < length m.signals)

abbrev pub AreMemories : Module → List ℕ → Type 0
AreMemories m js = EachAt js (λ k j. j < length m.memories)

-- ---- a module, behind those before it

-- signal x is what this port of instance i drives
pub record IsDriven (before : List Module) (m : Module) (x i port : ℕ) : Type 0 where
  pub instance : Instance
  pub of : Module
  pub output : ℕ
  pub stands : slice_get m.instances i ≡ Some instance
  pub earlier : slice_get before instance.of ≡ Some of
  pub port_is : port ≡ first_output of + output
  pub tied : slice_get instance.outputs output ≡ Some x

-- an input and a register are no outputs
abbrev pub IsSource : List Module → Module → ℕ → Bool → Source → Type 0
IsSource before m x out source.Input = out ≡ false
IsSource before m x out (source.Register n) = out ≡ false
IsSource before m x out (source.Assigned right) = AreSignals m (operands right) × AreMemories m (memories_read right)
IsSource before m x out (source.Port i port) = IsDriven before m x i port

pub record IsLaidSignal (before : List Module) (m : Module) (x : ℕ) (s : Signal) : Type 0 where
  pub low : 1 ≤ s.width
  pub high : s.width ≤ 64
  pub drives : IsSource before m x s.is_output s.source

pub record IsLaidMemory (x : Memory) : Type 0 where
  pub low : 1 ≤ x.width
  pub high : x.width ≤ 64
  pub words : 1 ≤ length x.initial

pub record IsLaidAction (m : Module) (a : Action) : Type 0 where
  pub conditions : AreSignals m a.conditions
  pub signals : AreSignals m (effect_signals a.effect)
  pub memories : AreMemories m (memories_stored a.effect)

abbrev pub source_at : Module → ℕ → Option Source
source_at m x = option_map (λ (s : Signal). s.source) (slice_get m.signals x)

-- instance i: its module stands earlier, each port of that module is connected, and each output drives the signal that it is
-- connected to
pub record IsLaidInstance (before : List Module) (m : Module) (i : ℕ) (n : Instance) : Type 0 where
  pub of : Module
  pub earlier : slice_get before n.of ≡ Some of
  pub inputs : length n.inputs ≡ length (input_signals of)
  pub outputs : length n.outputs ≡ length (output_signals of)
  pub input_places : AreSignals m n.inputs
  pub drives : EachAt n.outputs (λ j x. source_at m x ≡ Some (source.Port i (first_output of + j)))

pub record IsLaidModule (before : List Module) (m : Module) : Type 0 where
  pub names : AreApart (declared_names m)
  pub order : m.signals ≡ input_signals m ++ inner_signals m ++ output_signals m
  pub signals : EachAt m.signals (IsLaidSignal before m)
  pub memories : EachAt m.memories (λ j. IsLaidMemory)
  pub actions : EachAt m.actions (λ k. IsLaidAction m)
  pub instances : EachAt m.instances (IsLaidInstance before m)

pub record IsLaid (n : Netlist) : Type 0 where
  pub names : AreApart (module_names n.modules)
  pub modules : EachAt n.modules (λ k. IsLaidModule (take k n.modules))
