use Rattle.std.proofs.Common.{refl}
use Rattle.thread_slots.specs.declared.requests.Request.{Request}
use Rattle.thread_slots.proofs.RequestLinks.{request_wanted, request_linked}
use Rattle.thread_slots.proofs.requests.Request.want.Goals as goal

pub returns-clause-asks : goal.returns-clause-asks
returns-clause-asks c =
    let before = c.args.self.now in
    let after : Request = record before { wants = c.in_ok-wants.wants } in
    request_wanted c.args.wires.now.signals c.either.new.self.signals before after c.args.condition c.in_ok-wants.ensures.shows refl

pub returns-clause-wired : goal.returns-clause-wired
returns-clause-wired c =
    let before = c.args.self.now in
    let after : Request = record before { wants = c.in_ok-wants.wants } in
    request_linked c.args.wires.now.signals c.either.new.self.signals before after c.args.condition c.in_ok-wants.ensures.wired
