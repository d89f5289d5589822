use Rattle.std.proofs.Common.{arith, rules}
use Rattle.fsm_plan.proofs.Lists.{none_planned, next_planned, all_planned}
use Rattle.fsm_plan.proofs.plans.plan_each.Goals as goal

pub loop-code-init : goal.loop-code-init
loop-code-init c = none_planned c.args.codes.now _ (search rules)

pub loop-code-preserved : goal.loop-code-preserved
loop-code-preserved c =
    next_planned c.args.codes.now c.loop-code.code-index c.code-item.result _ c.loop-code.plans _ c.loop-code-test.true c.code-item.is c.loop-code.invariant c.in_ok-planned.ensures
    c.in_ok-push.ensures.ok

pub returns : goal.returns
returns c = all_planned c.args.codes.now _ _ (omega (arith, c.loop-code-test.false)) c.loop-code.invariant
