use Rattle.std.proofs.Common.{List, subst}
use Rattle.std.specs.Prelude.{IfOk}
use Rattle.hls_ints.specs.Types.{IntegerType}
use Rattle.block_datapath.specs.Seen.{Converts}
use Rattle.block_datapath.specs.Wired.{AreConverted}
use Rattle.block_datapath.proofs.OperandWords.{operand_shown}
use Rattle.block_datapath.proofs.BlockWires.{operand_wired}
use Rattle.block_datapath.proofs.operands.operand_word.Goals as goal

pub returns-clause-shows : goal.returns-clause-shows
returns-clause-shows c =
    operand_shown c.all_converted.result c.args.wires.now.signals c.source_word.new.wires.signals c.all_converted.new.wires.signals c.args.registers.now c.args.types.now
    c.args.values.now
    c.args.state c.args.operand.now c.in_ok-word.word c.in_ok-word.ensures.shows
    (subst (λ (ts : List IntegerType). IfOk c.all_converted.result (Converts c.source_word.new.wires.signals c.all_converted.new.wires.signals c.in_ok-word.word ts))
    c.as_slice.ensures
    c.all_converted.ensures.shows)

pub returns-clause-wired : goal.returns-clause-wired
returns-clause-wired c =
    operand_wired c.all_converted.result c.args.wires.now.signals c.source_word.new.wires.signals c.all_converted.new.wires.signals c.args.types.now c.args.registers.now
    c.args.values.now
    c.args.operand.now c.in_ok-word.word c.in_ok-word.ensures.wired
    (subst (λ (ts : List IntegerType). IfOk c.all_converted.result (AreConverted c.source_word.new.wires.signals c.all_converted.new.wires.signals c.in_ok-word.word ts))
    c.as_slice.ensures
    c.all_converted.ensures.wired)
