use Rattle.block_datapath.proofs.OperationValues.{item_is}
use Rattle.thread_slots.proofs.LaidRegisters.{stages_more}
use Rattle.thread_slots.proofs.slots.kept_widths.Goals as goal

pub loop-number-preserved : goal.loop-number-preserved
loop-number-preserved c = record {
  widths =
      stages_more c.args.globals.now c.args.code.now c.args.planned.now c.loop-number.number c.stage-item.result c.loop-number.widths c.widen_stage.new.widths
      c.loop-number.invariant.widths
      (item_is c.as_slice-stage-items.result.now c.args.code.now.stages c.loop-number.number c.stage-item.result c.loop-number-test.true c.stage-item.is
      c.as_slice-stage-items.ensures)
      c.widen_stage.ensures.room;
  fit = c.widen_stage.ensures.fit c.loop-number.invariant.fit;
}
