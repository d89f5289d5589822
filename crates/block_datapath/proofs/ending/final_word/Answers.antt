use Rattle.std.proofs.Common.{List, refl, subst}
use Rattle.block_datapath.specs.Wired.{IsSourced, IsOwnAdded}
use Rattle.block_datapath.proofs.BlockEnd.{final_made}
use Rattle.block_datapath.proofs.LinkWires.{final_wired}
use Rattle.hls_ints.specs.Types.{IntegerType}
use Rattle.thread_promise.specs.Types.{operand_type}
use Rattle.block_datapath.proofs.ending.final_word.Goals as goal

pub returns-clause-shows : goal.returns-clause-shows
returns-clause-shows c =
    final_made c.args.registers.now c.args.code.now c.args.values.now c.args.state c.args.wires.now.signals c.operand_word.new.wires.signals c.own_word.new.wires.signals
    c.args.finish.now
    c.in_ok-word.word (record { variable = c.args.finish.now.variable; word = c.in_ok-own.own }) c.as_slice-types.result.now c.as_slice-types.ensures c.in_ok-word.ensures.shows
    c.in_ok-own.ensures.shows refl

pub returns-clause-wired : goal.returns-clause-wired
returns-clause-wired c =
    let ty = operand_type c.args.finish.now.value in
    final_wired c.args.wires.now.signals c.operand_word.new.wires.signals c.own_word.new.wires.signals c.args.code.now c.args.registers.now c.args.values.now
    c.args.finish.now.variable ty
    c.in_ok-word.word c.in_ok-own.own
    (subst (λ (ts : List IntegerType). IsSourced c.args.wires.now.signals c.operand_word.new.wires.signals ts c.args.registers.now c.args.values.now ty c.in_ok-word.word)
    c.as_slice-types.ensures c.in_ok-word.ensures.wired)
    (subst (λ (ts : List IntegerType). IsOwnAdded c.operand_word.new.wires.signals c.own_word.new.wires.signals ts c.args.finish.now.variable c.in_ok-word.word c.in_ok-own.own)
    c.as_slice-types.ensures
    c.in_ok-own.ensures.wired)
