use Rattle.std.proofs.Common.{◌≡◌, ◌<◌, ◌≤◌, ◌+◌, length}
use Rattle.schedule_sdc.specs.History.{at}
use Rattle.schedule_sdc.proofs.Seen.{unseen, AreBehind}
use Rattle.schedule_sdc.proofs.cycle.place_met_twice.Given as goal

abbrev pub invariant-loop-later : goal.invariant-loop-later
invariant-loop-later l = record {
  within : l.here < length l.steps;
  seen_length : length l.seen.items ≡ l.places;
  left : unseen l.seen.items + (at l.steps l.top).depth ≤ (at l.steps l.here).depth + l.places;
  behind : AreBehind l.steps l.seen.items l.here;
}

abbrev pub decreases-loop-later : goal.decreases-loop-later
decreases-loop-later l = l.here
