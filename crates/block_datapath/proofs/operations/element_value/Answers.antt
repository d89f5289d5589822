use Rattle.std.proofs.Common.{List, subst}
use Rattle.hls_ints.specs.Types.{IntegerType}
use Rattle.block_datapath.specs.Seen.{ShowsOperand}
use Rattle.block_datapath.specs.Wired.{IsSourced}
use Rattle.block_datapath.proofs.OperationWords.{element_given}
use Rattle.block_datapath.proofs.BlockWires.{element_wired}
use Rattle.thread_promise.specs.Types.{operand_type}
use Rattle.block_datapath.proofs.operations.element_value.Goals as goal

pub returns-clause-shows : goal.returns-clause-shows
returns-clause-shows c =
    element_given c.read_array.result c.args.wires.now.signals c.operand_word.new.wires.signals c.read_array.new.wires.signals c.args.code.now c.args.registers.now
    c.args.values.now
    c.args.start c.args.array c.args.index.now c.in_ok-word.word
    (subst (λ (ts : List IntegerType). ShowsOperand c.args.wires.now.signals c.operand_word.new.wires.signals c.args.registers.now ts c.args.values.now c.args.start
    c.args.index.now c.in_ok-word.word)
    c.as_slice-types.ensures c.in_ok-word.ensures.shows)
    c.read_array.ensures.shows

pub returns-clause-wired : goal.returns-clause-wired
returns-clause-wired c =
    element_wired c.read_array.result c.args.wires.now.signals c.operand_word.new.wires.signals c.read_array.new.wires.signals c.args.code.now c.args.registers.now
    c.args.values.now c.args.array
    (operand_type c.args.index.now) c.in_ok-word.word
    (subst (λ (ts : List IntegerType). IsSourced c.args.wires.now.signals c.operand_word.new.wires.signals ts c.args.registers.now c.args.values.now (operand_type c.args.index.now)
    c.in_ok-word.word) c.as_slice-types.ensures c.in_ok-word.ensures.wired)
    c.read_array.ensures.wired
