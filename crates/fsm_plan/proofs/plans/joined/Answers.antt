use Rattle.fsm_plan.proofs.Parts.{next_joined}
use Rattle.fsm_plan.proofs.plans.joined.Goals as goal

pub loop-part-preserved : goal.loop-part-preserved
loop-part-preserved c = next_joined c.loop-part.yielded c.in-Some.part c.in_ok-part.part c.loop-part.plans c.append.new.self c.in_ok-part.was c.loop-part.invariant c.in_ok-append.ensures
