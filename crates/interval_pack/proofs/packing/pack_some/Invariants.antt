use Rattle.interval_pack.proofs.ChosenIntervals.{AreChosen}
use Rattle.interval_pack.proofs.packing.pack_some.Given as goal

abbrev pub invariant-loop-i : goal.invariant-loop-i
invariant-loop-i l = AreChosen l.intervals l.i l.chosen.items l.solid.items
