use Rattle.std.proofs.Common.{◌<◌}
use Rattle.race_check.specs.First.{row, NoneWith}
use Rattle.race_check.proofs.race.race_with.Given as goal

abbrev pub invariant-loop-second : goal.invariant-loop-second
invariant-loop-second l = (l.first < l.second) × NoneWith (row l.footprints) l.first l.second
