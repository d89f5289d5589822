use Rattle.std.proofs.Common.{◌≡◌, length}
use Rattle.schedule_sdc.specs.Relaxed.{AreEarly}
use Rattle.schedule_sdc.proofs.relax.settle.Given as goal

abbrev pub invariant-loop-round : goal.invariant-loop-round
invariant-loop-round l = record {
  count : length l.starts.items ≡ l.places;
  early : AreEarly l.list l.places l.starts.items;
}
