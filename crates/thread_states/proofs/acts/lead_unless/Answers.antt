use Rattle.operator_wires.proofs.MadeWords.{on_two}
use Rattle.thread_slots.specs.Links.{WaitsAt}
use Rattle.thread_states.specs.Acts.{LeadsUnless}
use Rattle.thread_states.proofs.ActLinks.{unless_made}
use Rattle.thread_states.proofs.Taken.{Keeps}
use Rattle.thread_states.proofs.acts.lead_unless.Goals as goal

pub returns : goal.returns
returns c =
    on_two c.wait.result (WaitsAt c.lead.new.wires.signals c.wait.new.wires.signals c.lead.new.self c.wait.new.self c.in_ok-stays.stays)
    (Keeps c.lead.new.wires.signals c.wait.new.wires.signals c.lead.new.self c.wait.new.self c.in_ok-stays.stays)
    (LeadsUnless c.args.registers.now c.args.from c.args.to c.args.barred c.args.wires.now.signals c.wait.new.wires.signals c.args.chains.now c.wait.new.self)
    (λ t u.
    unless_made c.args.wires.now.signals c.at_stage.new.wires.signals c.constant.new.self.signals c.args.registers.now c.args.from c.args.to c.in_ok-at.at
    c.in_ok-target.target c.in_ok-at.ensures.shows c.in_ok-target.ensures.shows c.in_ok-at.ensures.wired c.in_ok-target.ensures.wired c.args.chains.now c.args.barred
    c.in_ok-stays.stays c.both.new.self.signals c.lead.new.wires.signals c.wait.new.wires.signals c.lead.new.self c.wait.new.self c.in_ok-stays.ensures.shows
    c.in_ok-stays.ensures.wired c.in_ok-lead.ensures.leads c.in_ok-lead.ensures.wired t u)
    c.wait.ensures.waits c.wait.ensures.wired
