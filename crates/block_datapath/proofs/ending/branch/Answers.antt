use Rattle.block_datapath.specs.Wired.{IsSourced}
use Rattle.block_datapath.proofs.BlockEnd.{branch_shown}
use Rattle.block_datapath.proofs.LinkWires.{branch_wired}
use Rattle.std.proofs.Common.{List, subst}
use Rattle.hls_ints.specs.Types.{IntegerType}
use Rattle.thread_promise.specs.Types.{operand_type}
use Rattle.block_datapath.proofs.ending.branch.Goals as goal

pub returns-clause-shows : goal.returns-clause-shows
returns-clause-shows c =
    branch_shown c.choice.result c.args.registers.now c.args.code.now c.args.values.now c.args.state c.args.wires.now.signals c.operand_word.new.wires.signals
    c.is_zero.new.self.signals
    c.stage_number.new.wires.signals c.stage_number-2.new.wires.signals c.choice.new.self.signals c.args.test.now c.args.nonzero c.args.zero c.in_ok-word.word
    c.in_ok-is_zero.is_zero
    c.in_ok-if_zero.if_zero c.in_ok-if_nonzero.if_nonzero c.as_slice-types.result.now c.as_slice-types.ensures c.in_ok-word.ensures.shows c.in_ok-is_zero.ensures.shows
    c.in_ok-if_nonzero.ensures.shows c.in_ok-if_zero.ensures.shows c.choice.ensures.shows

pub returns-clause-wired : goal.returns-clause-wired
returns-clause-wired c =
    let ty = operand_type c.args.test.now in
    branch_wired c.choice.result c.args.wires.now.signals c.operand_word.new.wires.signals c.is_zero.new.self.signals c.stage_number.new.wires.signals
    c.stage_number-2.new.wires.signals
    c.choice.new.self.signals c.args.code.now
    c.args.registers.now c.args.values.now ty c.in_ok-word.word c.in_ok-is_zero.is_zero c.in_ok-if_nonzero.if_nonzero c.in_ok-if_zero.if_zero
    (subst (λ (ts : List IntegerType). IsSourced c.args.wires.now.signals c.operand_word.new.wires.signals ts c.args.registers.now c.args.values.now ty c.in_ok-word.word)
    c.as_slice-types.ensures c.in_ok-word.ensures.wired)
    c.in_ok-is_zero.ensures.wired c.in_ok-if_nonzero.ensures.wired c.in_ok-if_zero.ensures.wired c.choice.ensures.wired
