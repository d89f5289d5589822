use Rattle.operator_wires.proofs.MadeWords.{on_two}
use Rattle.thread_slots.specs.Links.{LeadsTo}
use Rattle.thread_states.specs.Acts.{LeadsFrom}
use Rattle.thread_states.proofs.ActLinks.{lead_made}
use Rattle.thread_states.proofs.Taken.{Leads}
use Rattle.thread_states.proofs.acts.lead_to.Goals as goal

pub returns : goal.returns
returns c =
    on_two c.lead.result (LeadsTo c.constant.new.self.signals c.lead.new.wires.signals c.args.chains.now c.lead.new.self c.in_ok-at.at c.in_ok-target.target)
    (Leads c.constant.new.self.signals c.lead.new.wires.signals c.args.registers.now c.args.chains.now c.lead.new.self c.in_ok-at.at c.in_ok-target.target)
    (LeadsFrom c.args.registers.now c.args.from c.args.to c.args.wires.now.signals c.lead.new.wires.signals c.args.chains.now c.lead.new.self)
    (λ t u.
    lead_made c.args.wires.now.signals c.at_stage.new.wires.signals c.constant.new.self.signals c.args.registers.now c.args.from c.args.to c.in_ok-at.at
    c.in_ok-target.target c.in_ok-at.ensures.shows c.in_ok-target.ensures.shows c.in_ok-at.ensures.wired c.in_ok-target.ensures.wired c.args.chains.now
    c.lead.new.wires.signals c.lead.new.self t u)
    c.lead.ensures.leads c.lead.ensures.wired
