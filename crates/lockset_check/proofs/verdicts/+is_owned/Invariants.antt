use Rattle.std.proofs.Common.{length}
use Rattle.lockset_check.proofs.verdicts.+is_owned.Given as goal

abbrev pub decreases-is_owned : goal.decreases-is_owned
decreases-is_owned l = length l.owners.now
