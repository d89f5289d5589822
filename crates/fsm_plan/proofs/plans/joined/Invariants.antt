use Rattle.fsm_plan.specs.Shares.{AreJoined}
use Rattle.fsm_plan.proofs.plans.joined.Given as goal

abbrev pub invariant-loop-part : goal.invariant-loop-part
invariant-loop-part l = AreJoined l.yielded l.plans
