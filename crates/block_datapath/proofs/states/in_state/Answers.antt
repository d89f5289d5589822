use Rattle.block_datapath.proofs.ConditionalChains.{state_single, state_answer}
use Rattle.block_datapath.proofs.LinkWires.{single_state, known_state, state_wired, unknown_state}
use Rattle.block_datapath.proofs.states.in_state.Goals as goal

pub returns-then-moment-le1-clause-shows : goal.returns-then-moment-le1-clause-shows
returns-then-moment-le1-clause-shows c = state_single c.args.wires.now.signals c.args.registers.now c.args.moment c.if-moment-le1.true

pub returns-then-moment-le1-clause-wired : goal.returns-then-moment-le1-clause-wired
returns-then-moment-le1-clause-wired c =
    single_state c.args.wires.now.signals c.args.registers.now c.args.moment

pub returns-in_ok-state-clause-shows : goal.returns-in_ok-state-clause-shows
returns-in_ok-state-clause-shows c =
    state_answer c.both.result c.args.wires.now.signals c.is_number.new.self.signals c.both.new.self.signals c.args.registers.now c.args.moment c.in_ok-state.state
    c.in_ok-state.ensures.shows c.both.ensures.shows

pub returns-in_ok-state-clause-wired : goal.returns-in_ok-state-clause-wired
returns-in_ok-state-clause-wired c =
    known_state c.both.result c.args.wires.now.signals c.both.new.self.signals c.args.registers.now c.args.moment c.if-moment.true
    (state_wired c.both.result c.args.wires.now.signals c.is_number.new.self.signals c.both.new.self.signals c.args.registers.now c.args.moment c.in_ok-state.state
    c.in_ok-state.ensures.wired c.both.ensures.wired)

pub returns-else-moment-clause-wired : goal.returns-else-moment-clause-wired
returns-else-moment-clause-wired c =
    unknown_state c.constant.result c.args.wires.now.signals c.constant.new.self.signals c.args.registers.now c.args.moment c.constant.ensures.wired
