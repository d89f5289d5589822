use Rattle.operator_wires.proofs.MadeWords.{on_two}
use Rattle.thread_slots.specs.Links.{WaitsAt}
use Rattle.thread_states.specs.Acts.{Idles}
use Rattle.thread_states.proofs.ActLinks.{idle_made}
use Rattle.thread_states.proofs.Taken.{Keeps}
use Rattle.thread_states.proofs.acts.idle.Goals as goal

pub returns : goal.returns
returns c =
    on_two c.wait.result (WaitsAt c.at_stage.new.wires.signals c.wait.new.wires.signals c.args.chains.now c.wait.new.self c.in_ok-at.at)
    (Keeps c.at_stage.new.wires.signals c.wait.new.wires.signals c.args.chains.now c.wait.new.self c.in_ok-at.at)
    (Idles c.args.registers.now c.args.number c.args.wires.now.signals c.wait.new.wires.signals c.args.chains.now c.wait.new.self)
    (λ t u.
    idle_made c.args.wires.now.signals c.at_stage.new.wires.signals c.wait.new.wires.signals c.args.registers.now c.args.number c.in_ok-at.at c.args.chains.now
    c.wait.new.self c.in_ok-at.ensures.shows t c.in_ok-at.ensures.wired u)
    c.wait.ensures.waits c.wait.ensures.wired
