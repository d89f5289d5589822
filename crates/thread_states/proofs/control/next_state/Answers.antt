use Rattle.operator_wires.specs.Built.{Base, IsEarlier, Adds}
use Rattle.std.proofs.Common.{arith}
use Rattle.operator_wires.proofs.MadeWords.{of_ok}
use Rattle.operator_wires.proofs.BuiltWires.{room_of, longer}
use Rattle.thread_states.proofs.ControlWires.{state_wired}
use Rattle.thread_states.proofs.control.next_state.Goals as goal

pub returns-clause-wired : goal.returns-clause-wired
returns-clause-wired c =
    let state = c.args.registers.now.state in
    of_ok c.choice.result
    (λ place. (base : Base) → IsEarlier c.constant-2.new.self.signals base c.args.is_last 1 → IsEarlier c.constant-2.new.self.signals base c.in_ok-first.first state.width
    → IsEarlier c.constant-2.new.self.signals base c.in_ok-following.following state.width
    → Adds base c.constant-2.new.self.signals c.choice.new.self.signals state.width place)
    (λ place. (base : Base) → IsEarlier c.args.wires.now.signals base state.register state.width → IsEarlier c.args.wires.now.signals base c.args.is_last 1
    → Adds base c.args.wires.now.signals c.choice.new.self.signals state.width place)
    (λ place t base here last.
    let room = room_of c.args.wires.now.signals base state.register state.width here in
    let one = longer c.args.wires.now.signals c.constant.new.self.signals c.in_ok-one.ensures.shows.grows in
    let two = longer c.constant.new.self.signals c.binary.new.self.signals c.in_ok-following.ensures.shows.grows in
    state_wired base c.args.wires.now.signals c.constant.new.self.signals c.binary.new.self.signals c.constant-2.new.self.signals c.choice.new.self.signals state c.args.is_last
    c.in_ok-one.one
    c.in_ok-following.following c.in_ok-first.first place (c.in_ok-one.ensures.wired base) (λ p q. c.in_ok-following.ensures.wired base (p, q)) (c.in_ok-first.ensures.wired base)
    (t base)
    here last room (omega arith)) c.choice.ensures.wired
