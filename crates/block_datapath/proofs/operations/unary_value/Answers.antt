use Rattle.std.proofs.Common.{List, subst}
use Rattle.hls_ints.specs.Types.{IntegerType}
use Rattle.block_datapath.specs.Seen.{ShowsOperand}
use Rattle.block_datapath.specs.Wired.{IsSourced}
use Rattle.block_datapath.proofs.OperationWords.{unary_given}
use Rattle.block_datapath.proofs.BlockWires.{unary_wired}
use Rattle.operator_wires.specs.Shown.{unary_result}
use Rattle.thread_promise.specs.Types.{operand_type}
use Rattle.block_datapath.proofs.operations.unary_value.Goals as goal

pub returns-clause-shows : goal.returns-clause-shows
returns-clause-shows c =
    unary_given c.unary.result c.args.wires.now.signals c.operand_word.new.wires.signals c.unary.new.self.signals c.args.code.now c.args.registers.now c.args.values.now c.args.last
    c.args.operator c.args.ty c.args.operand.now c.in_ok-word.word
    (subst (λ (ts : List IntegerType). ShowsOperand c.args.wires.now.signals c.operand_word.new.wires.signals c.args.registers.now ts c.args.values.now c.args.last
    c.args.operand.now
    c.in_ok-word.word)
    c.as_slice-types.ensures c.in_ok-word.ensures.shows)
    c.unary.ensures.shows

pub returns-clause-wired : goal.returns-clause-wired
returns-clause-wired c =
    unary_wired c.unary.result c.args.wires.now.signals c.operand_word.new.wires.signals c.unary.new.self.signals c.args.code.now.variables c.args.registers.now c.args.values.now
    (operand_type c.args.operand.now) (unary_result c.args.operator c.args.ty) c.in_ok-word.word
    (subst (λ (ts : List IntegerType). IsSourced c.args.wires.now.signals c.operand_word.new.wires.signals ts c.args.registers.now c.args.values.now
    (operand_type c.args.operand.now)
    c.in_ok-word.word) c.as_slice-types.ensures c.in_ok-word.ensures.wired)
    c.unary.ensures.wired
