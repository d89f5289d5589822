use Rattle.code_merge.proofs.Counted.{tallied_next, tallied_none, tallied_all}
use Rattle.code_merge.proofs.follow.counts.Goals as goal

pub loop-stage-preserved : goal.loop-stage-preserved
loop-stage-preserved c =
    tallied_next c.args.stages.now c.loop-stage.stage-index c.stage-item.result c.loop-stage.counts c.count_stage.new.counts c.loop-stage-test.true c.stage-item.is
    c.count_stage.ensures
    c.loop-stage.invariant

pub loop-stage-init : goal.loop-stage-init
loop-stage-init c = tallied_none _ _ c.in_ok-counts.ensures

pub returns : goal.returns
returns c = tallied_all c.args.stages.now c.loop-stage.stage-index c.loop-stage.counts c.loop-stage-test.false c.loop-stage.invariant
