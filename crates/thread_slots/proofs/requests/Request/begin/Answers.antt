use Rattle.std.proofs.Common.{◌∙◌}
use Rattle.thread_slots.proofs.RequestLinks.{begins_request}
use Rattle.thread_slots.proofs.requests.Request.begin.Goals as goal

pub returns : goal.returns
returns c =
    begins_request c.args.wires.now.signals c.constant.new.self.signals c.constant-2.new.self.signals c.zeros.new.wires.signals c.args.width c.args.values c.as_slice.result.now
    (record { wants = c.in_ok-wants.wants; object = c.in_ok-object.object; fields = c.in_ok-fields.fields }) (c.as_slice.ensures ∙ c.in_ok-widths.ensures)
    c.in_ok-wants.ensures.shows c.in_ok-object.ensures.shows.grows c.in_ok-fields.ensures.shows c.in_ok-wants.ensures.wired c.in_ok-object.ensures.wired
    c.in_ok-fields.ensures.wired
