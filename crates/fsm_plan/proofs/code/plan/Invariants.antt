use Rattle.std.proofs.Common.{take}
use Rattle.std.specs.List.{AllByRecursion}
use Rattle.fsm_plan.specs.Planned.{IsNumbered}
use Rattle.fsm_plan.proofs.StageLists.{SoFar}
use Rattle.fsm_plan.proofs.code.plan.Given as goal

abbrev pub invariant-loop-stage : goal.invariant-loop-stage
invariant-loop-stage l = AllByRecursion IsNumbered l.stage-items → SoFar l.registers (take l.stage-index l.stage-items) l.stages
