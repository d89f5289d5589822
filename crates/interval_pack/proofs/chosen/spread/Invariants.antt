use Rattle.interval_pack.specs.Chosen.{IsSpread}
use Rattle.interval_pack.proofs.chosen.spread.Given as goal

abbrev pub invariant-loop-a : goal.invariant-loop-a
invariant-loop-a l = IsSpread l.a l.chosen l.row l.fn.rows.items l.rows.items
