use Rattle.std.proofs.Common.{◌∙◌, ap, arith}
use Rattle.hls_ints.specs.Types.{IntegerType, width_of}
use Rattle.block_datapath.proofs.OperationValues.{item_is}
use Rattle.thread_slots.proofs.LaidRegisters.{operations_more}
use Rattle.thread_slots.proofs.slots.widen.Goals as goal

pub loop-number-preserved : goal.loop-number-preserved
loop-number-preserved c = record {
  room =
      operations_more c.args.globals.now c.args.code.now c.args.block.now c.args.plan.now c.args.widths.now c.loop-number.widths c.widen_value.new.widths c.loop-number.number
      c.from-width.result
      c.operation-item.result c.loop-number.invariant.room
      (item_is c.as_slice-operation-items.result.now c.args.block.now.operations c.loop-number.number c.operation-item.result c.loop-number-test.true c.operation-item.is
      c.as_slice-operation-items.ensures)
      (c.from-width.ensures ∙ c.bits.ensures.value ∙ ap (λ (t : IntegerType). width_of t) c.value_type.ensures) c.widen_value.ensures.more c.widen_value.ensures.room;
  fit = λ all. c.widen_value.ensures.fit (let same = c.from-width.ensures in let most = c.bits.ensures.at_most in omega arith) (c.loop-number.invariant.fit all);
}
