use Rattle.slot_sim.specs.Members.{AreCollected}
use Rattle.slot_sim.proofs.members.collected.Given as goal

abbrev pub invariant-loop-number : goal.invariant-loop-number
invariant-loop-number l = AreCollected l.modules l.parts l.first l.number l.places.items
