use Rattle.std.proofs.Common.{arith, length, rules, subst, sym, refl}
use Rattle.std.specs.List.{AllByRecursion}
use Rattle.std.proofs.lemmas.Option.{slice_get_read}
use Rattle.fsm_plan.specs.Planned.{IsNumbered}
use Rattle.fsm_plan.proofs.StageLists.{next_stage, planned_code, none_yet}
use Rattle.fsm_plan.proofs.code.plan.Goals as goal

pub loop-stage-preserved : goal.loop-stage-preserved
loop-stage-preserved c = λ all.
    next_stage c.as_slice-stage-items.result.now c.loop-stage.stage-index c.loop-stage.registers _ c.in_ok-planned.planned.registers c.stage-item.result _ c.loop-stage.stages _
    (slice_get_read c.as_slice-stage-items.result.now (length c.as_slice-stage-items.result.now) c.loop-stage.stage-index c.stage-item.result refl c.loop-stage-test.true c.stage-item.is)
    all (c.loop-stage.invariant all) c.in_ok-planned.ensures c.greater-registers.ensures c.in_ok-push.ensures.ok

pub returns : goal.returns
returns c = λ all.
    planned_code c.args.code.now _ c.as_slice-stage-items.result.now c.loop-stage.stage-index
    (c.loop-stage.invariant (subst (AllByRecursion IsNumbered) (sym c.as_slice-stage-items.ensures) all))
    (omega (arith, c.loop-stage-test.false)) c.as_slice-stage-items.ensures

pub loop-stage-init : goal.loop-stage-init
loop-stage-init c = λ all. none_yet c.as_slice-stage-items.result.now _ (search rules)
