-- The plan of one stage.
use Rattle.std.specs.Prelude.{◌≡◌, ℕ, ◌^◌, ◌<◌, length}
use Rattle.block_ir.specs.declared.code.Stage.{Stage}
use Rattle.block_ir.specs.declared.code.Stage.TheVariants as stage
use Rattle.block_ir.specs.declared.plan.StagePlan.{StagePlan}
use Rattle.block_ir.specs.declared.plan.StagePlan.TheVariants as planned
use Rattle.fsm_plan.specs.Planned.{IsPlannedRun}

-- the plan of the stage, whose greatest use of registers this is
abbrev pub IsPlannedAlone : Stage → StagePlan → ℕ → Type 0
IsPlannedAlone (stage.Run b) (planned.Run p) count = length b.operations < 2 ^ 32 → IsPlannedRun b p count
IsPlannedAlone (stage.Act a next) planned.Act count = count ≡ 0
IsPlannedAlone (stage.Run b) planned.Act count = ⊥
IsPlannedAlone (stage.Act a next) (planned.Run p) count = ⊥
