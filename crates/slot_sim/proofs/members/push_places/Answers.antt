use Rattle.slot_sim.proofs.CollectedParts.{pushed}
use Rattle.slot_sim.proofs.members.push_places.Goals as goal

pub loop-number-preserved : goal.loop-number-preserved
loop-number-preserved c =
    pushed _ c.loop-number.places.items c.push.new.self.items c.args.start c.loop-number.number c.args.instances.now c.in_ok-further.field-0 c.loop-number-test.true c.loop-number.invariant
    c.in_ok-further.ensures c.in_ok-push.ensures.items
