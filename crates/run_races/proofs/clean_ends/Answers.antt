-- The proof stands in proofs/CleanRuns.
use Rattle.run_races.proofs.CleanRuns.{clean_ends}
use Rattle.run_races.proofs.clean_ends.Goals as goal

pub returns : goal.returns
returns c = clean_ends
