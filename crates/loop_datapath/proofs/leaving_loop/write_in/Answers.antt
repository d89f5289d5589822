use Rattle.std.proofs.Common.{ℕ, List, subst}
use Rattle.thread_promise.specs.Types.{operand_type}
use Rattle.loop_datapath.specs.Ahead.{ShowsOperandIn}
use Rattle.loop_datapath.specs.Wired.{IsWordIn}
use Rattle.loop_datapath.proofs.LoopWrites.{write_shown, write_wired}
use Rattle.loop_datapath.proofs.leaving_loop.write_in.Goals as goal

pub returns-clause-shows : goal.returns-clause-shows
returns-clause-shows c =
    let types = c.as_slice-types.result.now in
    write_shown c.args.code.now c.args.registers.now c.args.turn.now c.args.times.now c.args.words.now types c.as_slice-types.ensures c.args.bits.now c.args.states.now
    c.args.time c.args.array c.args.index.now c.args.value.now c.args.wires.now.signals c.operand_in.new.wires.signals c.operand_in-2.new.wires.signals c.both.new.self.signals
    c.phase.result c.stage-runs.result c.in_ok-condition.condition c.in_ok-index.index c.in_ok-value.value c.phase.ensures c.stage-runs.ensures
    (subst (λ (rounds : List ℕ). ShowsOperandIn c.args.wires.now.signals c.operand_in.new.wires.signals c.args.registers.now types c.args.turn.now c.args.times.now c.args.words.now
    rounds c.args.time.stage c.args.time.phase c.args.index.now c.in_ok-index.index) c.as_slice-rounds.ensures c.in_ok-index.ensures.shows)
    (subst (λ (rounds : List ℕ). ShowsOperandIn c.operand_in.new.wires.signals c.operand_in-2.new.wires.signals c.args.registers.now types c.args.turn.now c.args.times.now
    c.args.words.now rounds c.args.time.stage c.args.time.phase c.args.value.now c.in_ok-value.value) c.as_slice-rounds.ensures c.in_ok-value.ensures.shows)
    c.in_ok-condition.ensures.shows

pub returns-clause-wired : goal.returns-clause-wired
returns-clause-wired c =
    let types = c.as_slice-types.result.now in
    write_wired c.args.code.now c.args.registers.now c.args.turn.now c.args.times.now c.args.words.now types c.as_slice-types.ensures c.args.bits.now c.args.states.now
    c.args.time c.args.array c.args.index.now c.args.value.now c.args.wires.now.signals c.operand_in.new.wires.signals c.operand_in-2.new.wires.signals c.both.new.self.signals
    c.phase.result c.stage-runs.result c.in_ok-condition.condition (operand_type c.args.index.now) (operand_type c.args.value.now) c.in_ok-index.index c.in_ok-value.value
    c.phase.ensures c.stage-runs.ensures
    (subst (λ (rounds : List ℕ). IsWordIn c.args.wires.now.signals c.operand_in.new.wires.signals types c.args.registers.now c.args.words.now rounds c.args.times.now.stages
    (operand_type c.args.index.now) c.in_ok-index.index) c.as_slice-rounds.ensures c.in_ok-index.ensures.wired)
    (subst (λ (rounds : List ℕ). IsWordIn c.operand_in.new.wires.signals c.operand_in-2.new.wires.signals types c.args.registers.now c.args.words.now rounds
    c.args.times.now.stages (operand_type c.args.value.now) c.in_ok-value.value) c.as_slice-rounds.ensures c.in_ok-value.ensures.wired)
    c.in_ok-condition.ensures.wired
