-- What the stores of a block and of all stages put into the memories.
use Rattle.std.specs.Prelude.{◌≡◌, ◌≢◌, ℕ, ◌<◌, ◌≤◌, List, [], ◌++◌, length, Option, Some, slice_get, ℤ}
use Rattle.hls_ints.specs.Types.{IntegerType}
use Rattle.block_ir.specs.declared.block.Block.{Block}
use Rattle.block_ir.specs.declared.code.Act.{Act}
use Rattle.block_ir.specs.declared.code.Stage.{Stage}
use Rattle.block_ir.specs.declared.code.Stage.TheVariants as stage
use Rattle.block_ir.specs.declared.plan.BlockPlan.{BlockPlan}
use Rattle.block_ir.specs.declared.plan.StagePlan.{StagePlan}
use Rattle.block_ir.specs.declared.plan.StagePlan.TheVariants as planned
use Rattle.block_ir.specs.declared.plan.Planned.{Planned}
use Rattle.interleaving.specs.Memory.{Location}
use Rattle.planned_block.specs.Slot.{Slot, value_now}
use Rattle.plan_blocks.specs.View.{planned_view, plan_view}
use Rattle.block_ir.specs.declared.code.ThreadCode.{ThreadCode}
use Rattle.netlist.specs.declared.netlist.Signal.{Signal}
use Rattle.netlist.specs.declared.netlist.Module.{Module}
use Rattle.verilog_meaning.specs.Readings.{Reading}
use Rattle.circuit.specs.Modules.{Obeys}
use Rattle.operator_wires.specs.Gives.{Grows}
use Rattle.block_datapath.specs.declared.registers.Registers.{Registers}
use Rattle.block_datapath.specs.Operations.{SeesSlot, IsRight, IsFed}
use Rattle.block_datapath.specs.Leave.{HasStage, IsInStage}
use Rattle.thread_slots.specs.Slots.{KnowsStage}
use Rattle.thread_slots.specs.declared.stores.Store.{Store}
use Rattle.thread_slots.specs.Cells.{cells_first, PutsCells, AreOff}

-- ---- a block at a stage, and all stages

module _ (globals : List IntegerType) (code : ThreadCode) (registers : Registers) where
  -- in a reading of a state of a block at stage l its operations are stored
  abbrev pub PutsBlock : List Signal → ℕ → Block → BlockPlan → List Store → Type 0
  PutsBlock new l b p stores =
      (bank : Location → ℕ) (m : Module) (r : Reading) (q : Slot) (wire : ℕ → ℤ) → Grows new m.signals → Obeys m r → IsRight globals code registers b p
      → KnowsStage code registers m r → IsInStage globals code registers l b p m r q → SeesSlot globals code registers b p m r q → IsFed globals code registers b p bank m r q wire
      → PutsCells code r stores (cells_first b.operations p.starts q.state q.variables (value_now (planned_view b) (plan_view b p) q wire) (length b.operations))

  -- in a reading of another stage nothing is
  abbrev pub RestsOutside : List Signal → ℕ → List Store → Type 0
  RestsOutside new l stores = (m : Module) (r : Reading) → Grows new m.signals → Obeys m r → HasStage registers l m r → r.signal registers.stage.register ≢ l → AreOff r stores

  pub record StoresBlock (l : ℕ) (b : Block) (p : BlockPlan) (old new : List Signal) (before after : List Store) : Type 0 where
    pub added : List Store
    pub grows : Grows old new
    pub more : after ≡ before ++ added
    pub rests : RestsOutside new l added
    pub puts : PutsBlock new l b p added

  -- a stage by its plan; an act stores nothing
  pub record StoresStage (l : ℕ) (s : Stage) (plan : Option StagePlan) (old new : List Signal) (before after : List Store) : Type 0 where
    pub added : List Store
    pub grows : Grows old new
    pub more : after ≡ before ++ added
    pub rests : RestsOutside new l added
    pub acts : (a : Act) (next : ℕ) → s ≡ stage.Act a next → added ≡ []
    pub runs : (b : Block) (p : BlockPlan) → s ≡ stage.Run b → plan ≡ Some (planned.Run p) → PutsBlock new l b p added

  -- THE FIRST n STAGES
  pub record StoresFirst (plan : Planned) (old new : List Signal) (before after : List Store) (n : ℕ) : Type 0 where
    pub added : List Store
    pub grows : Grows old new
    pub more : after ≡ before ++ added
    pub still : (m : Module) (r : Reading) → Grows new m.signals → Obeys m r → KnowsStage code registers m r → n ≤ length code.stages
        → ((k : ℕ) → k < n → r.signal registers.stage.register ≢ k) → AreOff r added
    pub acts : (m : Module) (r : Reading) (k : ℕ) (a : Act) (next : ℕ) → Grows new m.signals → Obeys m r → KnowsStage code registers m r → n ≤ length code.stages → k < n
        → slice_get code.stages k ≡ Some (stage.Act a next) → r.signal registers.stage.register ≡ k → AreOff r added
    pub runs : (k : ℕ) (b : Block) (p : BlockPlan) → k < n → n ≤ length code.stages → slice_get code.stages k ≡ Some (stage.Run b) → slice_get plan.stages k ≡ Some (planned.Run p)
        → PutsBlock new k b p added
