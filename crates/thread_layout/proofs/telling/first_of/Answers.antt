use Rattle.thread_layout.proofs.Tellings.{first_none, first_more}
use Rattle.thread_layout.proofs.telling.first_of.Goals as goal

pub loop-number-init : goal.loop-number-init
loop-number-init c = first_none c.args.places.now c.new-first.result c.new-first.ensures

pub loop-number-preserved : goal.loop-number-preserved
loop-number-preserved c =
    first_more c.args.places.now c.loop-number.number c.place_at.result c.loop-number.first c.push.new.self c.loop-number.invariant c.place_at.ensures c.in_ok-push.ensures.ok
