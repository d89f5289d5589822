use Rattle.std.proofs.Common.{drop}
use Rattle.net_names.specs.Tables.{names_of, AreFirstPlaces}
use Rattle.net_names.proofs.places.Places.of.Given as goal

abbrev pub invariant-loop-place : goal.invariant-loop-place
invariant-loop-place l = AreFirstPlaces l.places.entries l.place (names_of (drop l.place l.fn.names))
