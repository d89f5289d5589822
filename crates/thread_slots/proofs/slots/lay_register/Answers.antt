use Rattle.thread_slots.proofs.SlotWires.{register_behind}
use Rattle.thread_slots.proofs.slots.lay_register.Goals as goal

pub returns-clause-wired : goal.returns-clause-wired
returns-clause-wired c = λ inputs many fits low high.
    register_behind inputs c.args.wires.now.signals c.register.new.self.signals c.args.role c.args.width c.args.initial c.in_ok-register.register c.in_ok-register.ensures.laid many fits
    low high
