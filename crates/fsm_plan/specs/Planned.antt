-- THE PLANNED CODE: in each block the starts are the least solution of its constraints; in order of start and then of operation, each
-- operation has the least unit of its kind that no operation at work in the same states has; each value has the row that left-edge packing
-- gives it. A code has at most one such plan.
use Rattle.std.specs.Prelude.{◌≡◌, ℕ, ◌+◌, ◌<◌, ◌≤◌, ◌^◌, List, [], ◌∷◌, length, slice_index, take, max, ◌⊎◌}
use Rattle.std.specs.List.{AllByRecursion}
use Rattle.block_ir.specs.declared.block.Block.{Block}
use Rattle.block_ir.specs.declared.code.Stage.{Stage}
use Rattle.block_ir.specs.declared.code.Stage.TheVariants as stage
use Rattle.block_ir.specs.declared.code.ThreadCode.{ThreadCode}
use Rattle.block_ir.specs.declared.plan.BlockPlan.{BlockPlan}
use Rattle.block_ir.specs.declared.plan.StagePlan.{StagePlan}
use Rattle.block_ir.specs.declared.plan.StagePlan.TheVariants as planned
use Rattle.block_ir.specs.declared.plan.Planned.{Planned}
use Rattle.planned_block.specs.Plan.{KeepsOrders}
use Rattle.planned_block.specs.Table.{sequential}
use Rattle.plan_blocks.specs.View.{planned_view, plan_view}
use Rattle.plan_blocks.specs.Alike.{IsInOrder}
use Rattle.plan_conditions.specs.Right.{IsRightPlan}
use Rattle.op_graph.specs.declared.node.Node.{Node}
use Rattle.op_graph.specs.Graph.{nodes_of}
use Rattle.op_graph.specs.Table.{MeetsTable}
use Rattle.unit_binding.specs.Units.{AreUnits}
use Rattle.register_binding.specs.Used.{is_used_at_end}
use Rattle.register_binding.specs.Registers.{AreRegisters, RegistersBelow, live_at}

-- starts of the operations of a block and of its end: they meet the table, and no solution is earlier anywhere
pub record AreLeastStarts (nodes : List Node) (starts : List ℕ) : Type 0 where
  pub count : length starts ≡ length nodes + 1
  pub meets : MeetsTable nodes (slice_index starts)
  pub least : (t : ℕ → ℕ) → MeetsTable nodes t → (i : ℕ) → i < length nodes + 1 → slice_index starts i ≤ t i

-- the plan of a block; one without operations takes one state
pub record IsPlannedBlock (b : Block) (p : BlockPlan) : Type 0 where
  pub starts : List ℕ
  pub least : AreLeastStarts (nodes_of b.operations) starts
  pub starts_are : p.starts ≡ take (length b.operations) starts
  pub states : p.states ≡ max 1 (slice_index starts (length b.operations))
  pub units : AreUnits (nodes_of b.operations) starts p.units
  pub registers : AreRegisters (nodes_of b.operations) starts (is_used_at_end b) p.registers

-- the greatest number of values of the block that live in one state, from these starts
pub record IsGreatestLive (b : Block) (starts : List ℕ) (count : ℕ) : Type 0 where
  pub most : (p : ℕ) → live_at (nodes_of b.operations) starts (is_used_at_end b) p ≤ count
  pub some : (p : ℕ) × (live_at (nodes_of b.operations) starts (is_used_at_end b) p ≡ count)

-- the plan of a stage whose greatest use of registers this is
pub record IsPlannedRun (b : Block) (p : BlockPlan) (count : ℕ) : Type 0 where
  pub plan : IsPlannedBlock b p
  pub greatest : IsGreatestLive b plan.starts count
  pub below : RegistersBelow p.registers count

-- so many registers serve the stage, and no more are used in a state of it than `count`
abbrev pub IsPlannedStage : ℕ → Stage → StagePlan → Type 0
IsPlannedStage registers (stage.Run b) (planned.Run p) = (count : ℕ) × IsPlannedRun b p count × (count ≤ registers)
IsPlannedStage registers (stage.Act a next) planned.Act = Unit {0}
IsPlannedStage registers (stage.Run b) planned.Act = ⊥
IsPlannedStage registers (stage.Act a next) (planned.Run p) = ⊥

abbrev pub EachPlanned : ℕ → List Stage → List StagePlan → Type 0
EachPlanned registers [] [] = Unit {0}
EachPlanned registers (s ∷ ss) (p ∷ ps) = IsPlannedStage registers s p × EachPlanned registers ss ps
EachPlanned registers [] (p ∷ ps) = ⊥
EachPlanned registers (s ∷ ss) [] = ⊥

-- some state of a stage uses so many registers
abbrev pub StageReaches : ℕ → Stage → StagePlan → Type 0
StageReaches registers (stage.Run b) (planned.Run p) = IsPlannedRun b p registers
StageReaches registers (stage.Act a next) planned.Act = ⊥
StageReaches registers (stage.Run b) planned.Act = ⊥
StageReaches registers (stage.Act a next) (planned.Run p) = ⊥

abbrev pub SomeReaches : ℕ → List Stage → List StagePlan → Type 0
SomeReaches registers [] ps = ⊥
SomeReaches registers (s ∷ ss) [] = ⊥
SomeReaches registers (s ∷ ss) (p ∷ ps) = StageReaches registers s p ⊎ SomeReaches registers ss ps

-- THE PLANNED CODE: the registers are as many as some state uses, and no state uses more
pub record IsPlanned (code : ThreadCode) (p : Planned) : Type 0 where
  pub each : EachPlanned p.registers code.stages p.stages
  pub reached : (p.registers ≡ 0) ⊎ SomeReaches p.registers code.stages p.stages

-- A BLOCK HAS AT MOST ONE PLAN
abbrev pub PlansAgree : Type 0
PlansAgree = (b : Block) (p q : BlockPlan) → IsPlannedBlock b p → IsPlannedBlock b q → p ≡ q

-- A CODE HAS AT MOST ONE PLAN
abbrev pub CodePlansAgree : Type 0
CodePlansAgree = (code : ThreadCode) (p q : Planned) → IsPlanned code p → IsPlanned code q → p ≡ q

-- ---- codes that are planned: the operations of a block have numbers of 32 bits

abbrev pub IsNumbered : Stage → Type 0
IsNumbered (stage.Run b) = length b.operations < 2 ^ 32
IsNumbered (stage.Act a next) = Unit {0}

abbrev pub IsNumberedCode : ThreadCode → Type 0
IsNumberedCode code = AllByRecursion IsNumbered code.stages

-- ---- laws of planned blocks and codes

-- THE PLAN KEEPS THE ORDERS of every block in order, as plans see it
abbrev pub PlanKeepsOrders : Type 0
PlanKeepsOrders = (b : Block) (p : BlockPlan) → IsPlannedBlock b p → IsInOrder b → KeepsOrders (planned_view b) (plan_view b p)

-- NO PLAN IS LONGER than the operations one after another, and a block has a state
abbrev pub PlanIsShort : Type 0
PlanIsShort = (b : Block) (p : BlockPlan) → IsPlannedBlock b p → (0 < p.states) × (p.states ≤ (sequential (planned_view b)).states)

-- A PLANNED CODE IS RIGHT for a machine
abbrev pub PlannedIsRight : Type 0
PlannedIsRight = (code : ThreadCode) (p : Planned) → IsPlanned code p → IsRightPlan code p
