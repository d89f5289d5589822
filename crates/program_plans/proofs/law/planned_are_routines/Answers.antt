use Rattle.program_plans.proofs.PlansInOrder.{planned_are_routines}
use Rattle.program_plans.proofs.law.planned_are_routines.Goals as goal

pub returns : goal.returns
returns c = planned_are_routines c.least_plans.ensures.planned_is_right
