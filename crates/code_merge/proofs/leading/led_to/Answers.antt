use Rattle.code_merge.proofs.Marks.{marked_none, marked_more, marked_all}
use Rattle.code_merge.proofs.leading.led_to.Goals as goal

pub loop-stage-preserved : goal.loop-stage-preserved
loop-stage-preserved c =
    marked_more c.args.stages.now c.loop-stage.stage-index c.stage-item.result c.loop-stage.led c.mark_next.new.led c.loop-stage-test.true c.stage-item.is
    c.mark_next.ensures c.loop-stage.invariant

pub loop-stage-init : goal.loop-stage-init
loop-stage-init c = marked_none _ _ c.in_ok-led.ensures

pub returns : goal.returns
returns c = marked_all c.args.stages.now c.loop-stage.stage-index c.loop-stage.led c.loop-stage-test.false c.loop-stage.invariant
