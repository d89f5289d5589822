use Rattle.std.proofs.Common.{take}
use Rattle.fsm_plan.specs.Plans.{ArePlanned}
use Rattle.fsm_plan.proofs.plans.plan_each.Given as goal

abbrev pub invariant-loop-code : goal.invariant-loop-code
invariant-loop-code l = ArePlanned (take l.code-index l.codes) l.plans
