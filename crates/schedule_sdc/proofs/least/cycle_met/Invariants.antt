use Rattle.std.proofs.Common.{◌*◌, ◌-◌, ◌^◌}
use Rattle.std.specs.List.{sum}
use Rattle.schedule_sdc.specs.History.{IsSound, IsShallow}
use Rattle.schedule_sdc.proofs.Rounds.{InRound}
use Rattle.schedule_sdc.specs.Relaxed.{AreEarly}
use Rattle.schedule_sdc.proofs.least.cycle_met.Given as goal

abbrev pub invariant-rounds : goal.invariant-rounds
invariant-rounds l = record {
  sound : IsSound l.list l.places l.starts.items l.last.items l.steps.items;
  shallow : IsShallow l.places l.steps.items;
  early : AreEarly l.list l.places l.starts.items;
}

abbrev pub decreases-rounds : goal.decreases-rounds
decreases-rounds l = l.places * (l.places * 2 ^ 63) - sum l.starts.items

abbrev pub invariant-loop-c : goal.invariant-loop-c
invariant-loop-c l = InRound l.list l.places l.starts.items l.last.items l.steps.items l.raised l.initial.starts.items l.c-index
