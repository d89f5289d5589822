use Rattle.std.proofs.Common.{List, subst}
use Rattle.hls_ints.specs.Types.{IntegerType}
use Rattle.block_datapath.specs.Seen.{ShowsOperand}
use Rattle.block_datapath.specs.Wired.{IsSourced}
use Rattle.block_datapath.proofs.OperationWords.{binary_given}
use Rattle.block_datapath.proofs.BlockWires.{binary_wired}
use Rattle.operator_wires.specs.Shown.{binary_result}
use Rattle.thread_promise.specs.Types.{operand_type}
use Rattle.block_datapath.proofs.operations.binary_value.Goals as goal

pub returns-clause-shows : goal.returns-clause-shows
returns-clause-shows c =
    binary_given c.binary_word.result c.args.wires.now.signals c.operand_word.new.wires.signals c.operand_word-2.new.wires.signals c.binary_word.new.self.signals
    c.args.code.now c.args.registers.now c.args.values.now c.args.last c.args.operator c.args.ty c.args.left.now c.args.right.now c.in_ok-first.first c.in_ok-second.second
    (subst (λ (ts : List IntegerType). ShowsOperand c.args.wires.now.signals c.operand_word.new.wires.signals c.args.registers.now ts c.args.values.now c.args.last c.args.left.now
    c.in_ok-first.first)
    c.as_slice-types.ensures c.in_ok-first.ensures.shows)
    (subst (λ (ts : List IntegerType).
    ShowsOperand c.operand_word.new.wires.signals c.operand_word-2.new.wires.signals c.args.registers.now ts c.args.values.now c.args.last c.args.right.now c.in_ok-second.second)
    c.as_slice-types.ensures c.in_ok-second.ensures.shows)
    c.binary_word.ensures.shows

pub returns-clause-wired : goal.returns-clause-wired
returns-clause-wired c =
    binary_wired c.binary_word.result c.args.wires.now.signals c.operand_word.new.wires.signals c.operand_word-2.new.wires.signals c.binary_word.new.self.signals
    c.args.code.now.variables
    c.args.registers.now c.args.values.now (operand_type c.args.left.now) (operand_type c.args.right.now) (binary_result c.args.operator c.args.ty)
    c.in_ok-first.first c.in_ok-second.second
    (subst (λ (ts : List IntegerType). IsSourced c.args.wires.now.signals c.operand_word.new.wires.signals ts c.args.registers.now c.args.values.now (operand_type c.args.left.now)
    c.in_ok-first.first) c.as_slice-types.ensures c.in_ok-first.ensures.wired)
    (subst (λ (ts : List IntegerType). IsSourced c.operand_word.new.wires.signals c.operand_word-2.new.wires.signals ts c.args.registers.now c.args.values.now (operand_type
    c.args.right.now) c.in_ok-second.second) c.as_slice-types.ensures c.in_ok-second.ensures.wired)
    c.binary_word.ensures.wired
