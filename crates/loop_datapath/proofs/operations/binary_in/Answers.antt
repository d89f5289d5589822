use Rattle.std.proofs.Common.{List, subst}
use Rattle.hls_ints.specs.Types.{IntegerType}
use Rattle.thread_promise.specs.Types.{operand_type}
use Rattle.loop_datapath.specs.Ahead.{ShowsOperandIn}
use Rattle.loop_datapath.specs.Wired.{IsWordIn}
use Rattle.operator_wires.specs.Shown.{binary_result}
use Rattle.loop_datapath.proofs.LoopOperations.{binary_given}
use Rattle.loop_datapath.proofs.RoundWires.{binary_wired}
use Rattle.loop_datapath.proofs.operations.binary_in.Goals as goal

pub returns-clause-shows : goal.returns-clause-shows
returns-clause-shows c =
    binary_given c.args.code.now c.args.registers.now c.args.turn.now c.args.times.now c.args.words.now c.args.rounds.now c.args.time.stage c.args.time.phase c.binary_word.result
    c.args.wires.now.signals c.operand_in.new.wires.signals c.operand_in-2.new.wires.signals c.binary_word.new.self.signals c.args.operator c.args.ty c.args.left.now c.args.right.now
    c.in_ok-first.first c.in_ok-second.second
    (subst (λ (ts : List IntegerType). ShowsOperandIn c.args.wires.now.signals c.operand_in.new.wires.signals c.args.registers.now ts c.args.turn.now c.args.times.now c.args.words.now
    c.args.rounds.now
    c.args.time.stage c.args.time.phase c.args.left.now c.in_ok-first.first)
    c.as_slice-types.ensures c.in_ok-first.ensures.shows)
    (subst (λ (ts : List IntegerType). ShowsOperandIn c.operand_in.new.wires.signals c.operand_in-2.new.wires.signals c.args.registers.now ts c.args.turn.now c.args.times.now
    c.args.words.now c.args.rounds.now
    c.args.time.stage c.args.time.phase c.args.right.now c.in_ok-second.second)
    c.as_slice-types.ensures c.in_ok-second.ensures.shows)
    c.binary_word.ensures.shows

pub returns-clause-wired : goal.returns-clause-wired
returns-clause-wired c =
    binary_wired c.args.code.now.variables c.args.registers.now c.args.words.now c.args.rounds.now c.binary_word.result c.args.wires.now.signals c.operand_in.new.wires.signals
    c.operand_in-2.new.wires.signals
    c.binary_word.new.self.signals c.args.times.now.stages (operand_type c.args.left.now) (operand_type c.args.right.now) (binary_result c.args.operator c.args.ty)
    c.in_ok-first.first c.in_ok-second.second
    (subst (λ (ts : List IntegerType). IsWordIn c.args.wires.now.signals c.operand_in.new.wires.signals ts c.args.registers.now c.args.words.now c.args.rounds.now c.args.times.now.stages
    (operand_type c.args.left.now) c.in_ok-first.first)
    c.as_slice-types.ensures c.in_ok-first.ensures.wired)
    (subst (λ (ts : List IntegerType). IsWordIn c.operand_in.new.wires.signals c.operand_in-2.new.wires.signals ts c.args.registers.now c.args.words.now c.args.rounds.now
    c.args.times.now.stages
    (operand_type c.args.right.now) c.in_ok-second.second)
    c.as_slice-types.ensures c.in_ok-second.ensures.wired)
    c.binary_word.ensures.wired
