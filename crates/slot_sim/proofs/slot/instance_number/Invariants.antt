use Rattle.std.proofs.Common.{◌≡◌, ◌+◌, drop}
use Rattle.slot_sim.specs.Slots.{place_named}
use Rattle.slot_sim.proofs.slot.instance_number.Given as goal

abbrev pub invariant-loop-number : goal.invariant-loop-number
invariant-loop-number l = place_named l.name l.instances ≡ l.number + place_named l.name (drop l.number l.instances)
