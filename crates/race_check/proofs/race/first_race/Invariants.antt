use Rattle.race_check.specs.First.{row, NoneBelow}
use Rattle.race_check.proofs.race.first_race.Given as goal

abbrev pub invariant-loop-first : goal.invariant-loop-first
invariant-loop-first l = NoneBelow (row l.footprints) l.first
