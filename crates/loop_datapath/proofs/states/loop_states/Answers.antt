use Rattle.loop_datapath.proofs.StateBits.{loop_told, loop_wired}
use Rattle.loop_datapath.proofs.states.loop_states.Goals as goal

pub returns-clause-shows : goal.returns-clause-shows
returns-clause-shows c =
    loop_told c.args.registers.now c.args.stage c.args.times.now c.args.wires.now.signals c.at_stage.new.wires.signals c.constant.new.self.signals
    c.state_bits.new.wires.signals c.phase_bits.new.wires.signals c.round_bits.new.wires.signals c.any_state.new.wires.signals c.in_ok-at.at c.in_ok-never.never c.in_ok-last.last
    c.state_count-count.result c.saturating_sub.result c.in_ok-states.states c.as_slice-bits.result.now c.in_ok-phases.phases c.in_ok-rounds.rounds c.state_count-count.ensures
    c.saturating_sub.ensures c.as_slice-bits.ensures
    c.in_ok-at.ensures.shows c.in_ok-never.ensures.shows c.in_ok-states.ensures.shows
    c.in_ok-phases.ensures.shows c.in_ok-rounds.ensures.shows c.in_ok-last.ensures.shows

pub returns-clause-wired : goal.returns-clause-wired
returns-clause-wired c =
    loop_wired c.args.registers.now c.args.stage c.args.times.now c.args.wires.now.signals c.at_stage.new.wires.signals c.constant.new.self.signals
    c.state_bits.new.wires.signals c.phase_bits.new.wires.signals c.round_bits.new.wires.signals c.any_state.new.wires.signals c.in_ok-at.at c.in_ok-never.never c.in_ok-last.last
    c.state_count-count.result c.in_ok-states.states c.as_slice-bits.result.now c.in_ok-phases.phases c.in_ok-rounds.rounds c.state_count-count.ensures
    c.as_slice-bits.ensures c.in_ok-at.ensures.wired c.in_ok-never.ensures.wired c.in_ok-states.ensures.wired
    c.in_ok-phases.ensures.wired c.in_ok-rounds.ensures.wired c.in_ok-last.ensures.wired
