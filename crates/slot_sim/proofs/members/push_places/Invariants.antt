use Rattle.std.proofs.Common.{◌≡◌, ◌+◌, ◌++◌, drop}
use Rattle.slot_sim.specs.Members.{places_from}
use Rattle.slot_sim.proofs.members.push_places.Given as goal

abbrev pub invariant-loop-number : goal.invariant-loop-number
invariant-loop-number l = l.initial.places.items ++ places_from l.start l.instances ≡ l.places.items ++ places_from (l.start + l.number) (drop l.number l.instances)
