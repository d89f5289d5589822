use Rattle.std.proofs.Common.{List, subst}
use Rattle.std.specs.Prelude.{IfOk}
use Rattle.hls_ints.specs.Types.{IntegerType}
use Rattle.block_datapath.specs.Seen.{Converts}
use Rattle.block_datapath.specs.Wired.{AreConverted}
use Rattle.loop_datapath.proofs.AheadOperands.{operand_shown}
use Rattle.loop_datapath.proofs.AheadWires.{operand_wired}
use Rattle.loop_datapath.proofs.operands.operand_ahead.Goals as goal

pub returns-clause-shows : goal.returns-clause-shows
returns-clause-shows c =
    operand_shown c.args.registers.now c.args.times.now c.args.words.now c.args.at c.args.types.now c.args.turn.now c.all_converted.result c.args.wires.now.signals
    c.source_ahead.new.wires.signals c.all_converted.new.wires.signals c.args.depth c.args.operand.now c.in_ok-word.word c.in_ok-word.ensures.shows
    (subst (λ (ts : List IntegerType). IfOk c.all_converted.result (Converts c.source_ahead.new.wires.signals c.all_converted.new.wires.signals c.in_ok-word.word ts))
    c.as_slice.ensures c.all_converted.ensures.shows)

pub returns-clause-wired : goal.returns-clause-wired
returns-clause-wired c =
    operand_wired c.args.types.now c.args.registers.now c.args.words.now c.all_converted.result c.args.wires.now.signals c.source_ahead.new.wires.signals
    c.all_converted.new.wires.signals c.args.operand.now c.in_ok-word.word c.in_ok-word.ensures.wired
    (subst (λ (ts : List IntegerType). IfOk c.all_converted.result (AreConverted c.source_ahead.new.wires.signals c.all_converted.new.wires.signals c.in_ok-word.word ts))
    c.as_slice.ensures c.all_converted.ensures.wired)
