use Rattle.std.proofs.Common.{List, subst}
use Rattle.hls_ints.specs.Types.{IntegerType}
use Rattle.thread_promise.specs.Types.{operand_type}
use Rattle.loop_datapath.specs.Ahead.{ShowsOperandIn}
use Rattle.loop_datapath.specs.Wired.{IsWordIn}
use Rattle.operator_wires.specs.Shown.{unary_result}
use Rattle.loop_datapath.proofs.LoopOperations.{unary_given}
use Rattle.loop_datapath.proofs.RoundWires.{unary_wired}
use Rattle.loop_datapath.proofs.operations.unary_in.Goals as goal

pub returns-clause-shows : goal.returns-clause-shows
returns-clause-shows c =
    unary_given c.args.code.now c.args.registers.now c.args.turn.now c.args.times.now c.args.words.now c.args.rounds.now c.args.time.stage c.args.time.phase c.unary.result
    c.args.wires.now.signals c.operand_in.new.wires.signals c.unary.new.self.signals c.args.operator c.args.ty c.args.operand.now c.in_ok-word.word
    (subst (λ (ts : List IntegerType). ShowsOperandIn c.args.wires.now.signals c.operand_in.new.wires.signals c.args.registers.now ts c.args.turn.now c.args.times.now c.args.words.now
    c.args.rounds.now
    c.args.time.stage c.args.time.phase c.args.operand.now c.in_ok-word.word)
    c.as_slice-types.ensures c.in_ok-word.ensures.shows)
    c.unary.ensures.shows

pub returns-clause-wired : goal.returns-clause-wired
returns-clause-wired c =
    unary_wired c.args.code.now.variables c.args.registers.now c.args.words.now c.args.rounds.now c.unary.result c.args.wires.now.signals c.operand_in.new.wires.signals
    c.unary.new.self.signals
    c.args.times.now.stages (operand_type c.args.operand.now) (unary_result c.args.operator c.args.ty) c.in_ok-word.word
    (subst (λ (ts : List IntegerType). IsWordIn c.args.wires.now.signals c.operand_in.new.wires.signals ts c.args.registers.now c.args.words.now c.args.rounds.now c.args.times.now.stages
    (operand_type c.args.operand.now) c.in_ok-word.word)
    c.as_slice-types.ensures c.in_ok-word.ensures.wired)
    c.unary.ensures.wired
