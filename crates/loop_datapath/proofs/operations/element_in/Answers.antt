use Rattle.std.proofs.Common.{List, subst}
use Rattle.hls_ints.specs.Types.{IntegerType}
use Rattle.thread_promise.specs.Types.{operand_type}
use Rattle.loop_datapath.specs.Ahead.{ShowsOperandIn}
use Rattle.loop_datapath.specs.Wired.{IsWordIn}
use Rattle.loop_datapath.proofs.LoopOperations.{element_given}
use Rattle.loop_datapath.proofs.RoundWires.{element_wired}
use Rattle.loop_datapath.proofs.operations.element_in.Goals as goal

pub returns-clause-shows : goal.returns-clause-shows
returns-clause-shows c =
    element_given c.args.code.now c.args.registers.now c.args.turn.now c.args.times.now c.args.words.now c.args.rounds.now c.args.time.stage c.args.time.phase c.read_array.result
    c.args.wires.now.signals c.operand_in.new.wires.signals c.read_array.new.wires.signals c.args.array c.args.index.now c.in_ok-word.word
    (subst (λ (ts : List IntegerType). ShowsOperandIn c.args.wires.now.signals c.operand_in.new.wires.signals c.args.registers.now ts c.args.turn.now c.args.times.now c.args.words.now
    c.args.rounds.now
    c.args.time.stage c.args.time.phase c.args.index.now c.in_ok-word.word)
    c.as_slice-types.ensures c.in_ok-word.ensures.shows)
    c.read_array.ensures.shows

pub returns-clause-wired : goal.returns-clause-wired
returns-clause-wired c =
    element_wired c.args.code.now c.args.registers.now c.args.words.now c.args.rounds.now c.args.times.now.stages c.read_array.result c.args.wires.now.signals c.operand_in.new.wires.signals
    c.read_array.new.wires.signals c.args.array (operand_type c.args.index.now) c.in_ok-word.word
    (subst (λ (ts : List IntegerType). IsWordIn c.args.wires.now.signals c.operand_in.new.wires.signals ts c.args.registers.now c.args.words.now c.args.rounds.now c.args.times.now.stages
    (operand_type c.args.index.now) c.in_ok-word.word)
    c.as_slice-types.ensures c.in_ok-word.ensures.wired)
    c.read_array.ensures.wired
