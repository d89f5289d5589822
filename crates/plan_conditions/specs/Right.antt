-- What a machine asks of the plan of a code, whatever made the plan.
use Rattle.std.specs.Prelude.{◌≡◌, ℕ, ◌<◌, ◌≤◌, ◌^◌, ◌⊎◌, true, false, List, [], ◌∷◌, length, Some, slice_get, slice_index}
use Rattle.op_graph.specs.Block.{Block as CodeBlock}
use Rattle.op_graph.specs.Stage.{Stage}
use Rattle.op_graph.specs.Stage.TheVariants as stage
use Rattle.op_graph.specs.ThreadCode.{ThreadCode}
use Rattle.op_graph.specs.BlockPlan.{BlockPlan}
use Rattle.op_graph.specs.StagePlan.{StagePlan}
use Rattle.op_graph.specs.StagePlan.TheVariants as planned
use Rattle.op_graph.specs.Planned.{Planned}
use Rattle.plan_blocks.specs.Block.{Block, operation_at, size, Uses}
use Rattle.plan_blocks.specs.Plan.{Plan, is_simple, last_state, KeepsOrders}
use Rattle.plan_blocks.specs.Table.{MeetsTable, sequential}
use Rattle.plan_blocks.specs.View.{planned_view, plan_view, register_at}
use Rattle.plan_blocks.specs.Alike.{IsInOrder}
use Rattle.op_graph.specs.Graph.{nodes_of, kind_at, same_kind}

-- what takes more than logic works on values that were there in an earlier state, so that registers hold them
abbrev pub WorksFromRegisters : Block → Plan → Type 0
WorksFromRegisters b p =
    (j k : ℕ) → k < size b → is_simple (operation_at b k).kind ≡ false → Uses (operation_at b k) j → last_state b p j < p.start k

-- two operations that share a functional unit are never at work in one state
abbrev pub AreUnitsApart : CodeBlock → BlockPlan → Type 0
AreUnitsApart b p =
    (j k : ℕ) → j < k → k < length b.operations → same_kind (kind_at (nodes_of b.operations) j) (kind_at (nodes_of b.operations) k) ≡ true →
    slice_index p.units j ≡ slice_index p.units k →
    (last_state (planned_view b) (plan_view b p) j < slice_index p.starts k) ⊎ (last_state (planned_view b) (plan_view b p) k < slice_index p.starts j)

-- what a machine asks of the plan of a block, where it has so many registers
pub record IsRight (registers : ℕ) (b : CodeBlock) (p : BlockPlan) : Type 0 where
  pub keeps : IsInOrder b → KeepsOrders (planned_view b) (plan_view b p)
  pub registered : IsInOrder b → WorksFromRegisters (planned_view b) (plan_view b p)
  pub units : IsInOrder b → AreUnitsApart b p
  pub some : 0 < p.states
  -- no longer than the operations one after another
  pub short : p.states ≤ (sequential (planned_view b)).states
  pub below : (k r : ℕ) → k < length b.operations → register_at p.registers k ≡ Some r → r < registers

-- the plan of a stage; a block of 2 ^ 32 operations or more, whose values have no names, may have any plan
abbrev pub IsRightStage : ℕ → Stage → StagePlan → Type 0
IsRightStage registers (stage.Run b) (planned.Run p) = length b.operations < 2 ^ 32 → IsRight registers b p
IsRightStage registers (stage.Act a next) planned.Act = Unit {0}
IsRightStage registers (stage.Run b) planned.Act = ⊥
IsRightStage registers (stage.Act a next) (planned.Run p) = ⊥

abbrev pub EachRight : ℕ → List Stage → List StagePlan → Type 0
EachRight registers [] [] = Unit {0}
EachRight registers (s ∷ ss) (p ∷ ps) = IsRightStage registers s p × EachRight registers ss ps
EachRight registers [] (p ∷ ps) = ⊥
EachRight registers (s ∷ ss) [] = ⊥

-- A RIGHT PLAN of a code: for each stage one
abbrev pub IsRightPlan : ThreadCode → Planned → Type 0
IsRightPlan code p = EachRight p.registers code.stages p.stages

-- ---- laws

-- THE TABLE gives values to registers in time
abbrev pub TableGivesRegisters : Type 0
TableGivesRegisters = (b : Block) (p : Plan) → MeetsTable b p → WorksFromRegisters b p

-- each block of the code has a plan that is right
abbrev pub RightPlansAreThere : Type 0
RightPlansAreThere =
    (code : ThreadCode) (p : Planned) → IsRightPlan code p → (l : ℕ) (b : CodeBlock) → slice_get code.stages l ≡ Some (stage.Run b) → length b.operations < 2 ^ 32 →
    (q : BlockPlan) × (slice_get p.stages l ≡ Some (planned.Run q)) × IsRight p.registers b q
