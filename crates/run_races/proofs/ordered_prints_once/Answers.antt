-- The proof stands in proofs/CleanRuns.
use Rattle.run_races.proofs.CleanRuns.{ordered_prints_once}
use Rattle.run_races.proofs.ordered_prints_once.Goals as goal

pub returns : goal.returns
returns c = ordered_prints_once
