use Rattle.std.proofs.Common.{refl}
use Rattle.block_datapath.proofs.OperationValues.{item_is}
use Rattle.thread_asks.proofs.FieldValues.{values_none, values_more}
use Rattle.thread_asks.proofs.fields.ask_values.Goals as goal

pub loop-number-preserved : goal.loop-number-preserved
loop-number-preserved c =
    values_more c.args.wires.now.signals c.loop-number.wires.signals c.ask_value.new.wires.signals c.args.code.now c.args.registers.now c.args.at c.args.fields.now
    c.loop-number.fields
    c.ask_value.new.fields c.args.values.now c.loop-number.number c.index-values-number.result c.loop-number.invariant
    (item_is c.args.values.now c.args.values.now c.loop-number.number c.index-values-number.result c.loop-number-test.true c.index-values-number.is refl) c.in_ok-ask_value.ensures

pub loop-number-init : goal.loop-number-init
loop-number-init c = values_none c.args.wires.now.signals c.args.code.now c.args.registers.now c.args.at c.args.fields.now c.args.values.now
