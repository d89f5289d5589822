-- A net of leaf modules in one outermost module, whose signals can be put in stages.
-- The early signals of an instance have one stage, and its late ones another that is no earlier. A wire of the outermost
-- module comes a stage after the instance that drives it, and a stage before the input that it is connected to.
use Rattle.std.specs.Prelude.{◌≡◌, ℕ, ◌^◌, ◌<◌, ◌≤◌, Bool, if◌then◌else◌, List, [], ◌∷◌, Some, slice_get}
use Rattle.netlist.specs.declared.netlist.Source.{Source}
use Rattle.netlist.specs.declared.netlist.Source.TheVariants.{Input, Register, Assigned, Port}
use Rattle.netlist.specs.declared.netlist.Signal.{Signal}
use Rattle.netlist.specs.declared.netlist.Module.{Module}
use Rattle.verilog_meaning.specs.Cycles.{module_at, instance_at, connected}
use Rattle.circuit.specs.Rows.{EachOf}
use Rattle.circuit.specs.Modules.{Has, FitsValue, FitsAction, FitsMemory, IsLeaf}

pub record Stages : Type 0 where
  pub wire : ℕ → ℕ
  pub early : ℕ → ℕ
  pub late : ℕ → ℕ
  pub is_late : ℕ → ℕ → Bool

module _ (modules : List Module) (top : Module) (stages : Stages) where
  -- the stage of signal x of instance j
  abbrev pub port_stage : ℕ → ℕ → ℕ
  port_stage j x = if stages.is_late j x then stages.late j else stages.early j

  -- wire x of the outermost module reads wire y of a width
  pub record ReadsWire (x y w : ℕ) : Type 0 where
    pub has : Has top y w
    pub before : y < x
    pub staged : stages.wire y ≤ stages.wire x

  -- it is driven by port q of instance j
  pub record ReadsPort (x j q w : ℕ) : Type 0 where
    pub holder : Module
    pub stands : module_at modules top (j ∷ []) ≡ Some holder
    pub has : Has holder q w
    pub staged : port_stage j q < stages.wire x

  abbrev pub IsStagedSource : ℕ → ℕ → Source → Type 0
  IsStagedSource x w Input = Unit {0}
  IsStagedSource x w (Register n) = n < 2 ^ w
  IsStagedSource x w (Assigned v) = FitsValue (ReadsWire x) (λ j. slice_get top.memories j) w v
  IsStagedSource x w (Port j q) = ReadsPort x j q w

  -- input x of instance j is connected to a wire of its width
  pub record IsConnected (j x w : ℕ) : Type 0 where
    pub has : Has top (connected modules top (instance_at modules top [] j) x) w
    pub staged : stages.wire (connected modules top (instance_at modules top [] j) x) < port_stage j x

  pub record IsStaged : Type 0 where
    pub rises : (j : ℕ) → stages.early j ≤ stages.late j
    pub wires : (x : ℕ) (s : Signal) → slice_get top.signals x ≡ Some s → IsStagedSource x s.width s.source
    pub leaves : (j : ℕ) (m : Module) → module_at modules top (j ∷ []) ≡ Some m → (inputs : ℕ) × IsLeaf m inputs (stages.is_late j)
    pub connects : (j : ℕ) (m : Module) (x : ℕ) (s : Signal) → module_at modules top (j ∷ []) ≡ Some m → slice_get m.signals x ≡ Some s → s.source ≡ Input → IsConnected j x s.width
    pub acts : EachOf (FitsAction top) top.actions
    pub begins : EachOf FitsMemory top.memories
