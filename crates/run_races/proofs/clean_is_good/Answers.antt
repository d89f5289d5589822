-- The proof stands in proofs/CleanRuns.
use Rattle.run_races.proofs.CleanRuns.{clean_is_good}
use Rattle.run_races.proofs.clean_is_good.Goals as goal

pub returns : goal.returns
returns c = clean_is_good
