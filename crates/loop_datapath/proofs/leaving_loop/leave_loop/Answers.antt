use Rattle.std.proofs.Common.{◌-◌, ◌∙◌, ap}
use Rattle.loop_datapath.specs.States.{phase_bit}
use Rattle.loop_datapath.proofs.LeftLoops.{loop_left}
use Rattle.loop_datapath.proofs.LoopLinks.{loop_linked}
use Rattle.loop_datapath.proofs.leaving_loop.leave_loop.Goals as goal

pub returns-clause-shows : goal.returns-clause-shows
returns-clause-shows c =
    loop_left c.args.globals.now c.args.code.now c.args.registers.now c.args.stage c.args.turn.now c.args.comparison c.args.times.now
    c.args.wires.now.signals c.loop_states.new.wires.signals c.loop_words.new.wires.signals c.stage_bits.new.wires.signals
    c.set_loop_finals.new.wires.signals c.keep_chains.new.wires.signals c.keep_stages.new.wires.signals
    c.not.new.self.signals c.both.new.self.signals c.both-2.new.self.signals
    c.args.variables.now c.set_loop_finals.new.variables c.args.kept.now c.keep_chains.new.nexts c.keep_stages.new.nexts c.in_ok-words.words c.as_slice-given.result.now
    c.in_ok-states.states c.in_ok-bits.bits c.as_slice-rounds.result.now c.phase-end.result c.in_ok-stops.stops c.in_ok-last.last c.in_ok-again.again
    c.as_slice-rounds.ensures c.as_slice-given.ensures (c.phase-end.ensures ∙ ap (phase_bit c.in_ok-states.states) c.saturating_sub.ensures)
    c.in_ok-states.ensures.shows c.in_ok-words.ensures.shows c.in_ok-bits.ensures.shows c.in_ok-set_loop_finals.ensures.shows c.in_ok-keep_chains.ensures.shows
    c.in_ok-keep_stages.ensures.shows c.in_ok-stops.ensures.shows c.in_ok-last.ensures.shows c.in_ok-again.ensures.shows

pub returns-clause-wired : goal.returns-clause-wired
returns-clause-wired c =
    loop_linked c.args.code.now c.args.registers.now c.args.stage c.args.times.now
    c.args.wires.now.signals c.loop_states.new.wires.signals c.loop_words.new.wires.signals c.stage_bits.new.wires.signals
    c.set_loop_finals.new.wires.signals c.keep_chains.new.wires.signals c.keep_stages.new.wires.signals
    c.not.new.self.signals c.both.new.self.signals c.both-2.new.self.signals
    c.args.variables.now c.set_loop_finals.new.variables c.args.kept.now c.keep_chains.new.nexts c.keep_stages.new.nexts c.in_ok-words.words c.as_slice-given.result.now
    c.in_ok-states.states c.in_ok-bits.bits c.as_slice-rounds.result.now c.phase-end.result (c.args.times.now.interval - 1) c.in_ok-stops.stops c.in_ok-last.last c.in_ok-again.again
    c.as_slice-rounds.ensures c.as_slice-given.ensures (c.phase-end.ensures ∙ ap (phase_bit c.in_ok-states.states) c.saturating_sub.ensures)
    c.in_ok-states.ensures.shows.round_count c.in_ok-bits.ensures.shows.count
    c.in_ok-states.ensures.wired c.in_ok-words.ensures.wired c.in_ok-bits.ensures.wired c.in_ok-set_loop_finals.ensures.wired c.in_ok-keep_chains.ensures.wired
    c.in_ok-keep_stages.ensures.wired c.in_ok-stops.ensures.wired c.in_ok-last.ensures.wired c.in_ok-again.ensures.wired
