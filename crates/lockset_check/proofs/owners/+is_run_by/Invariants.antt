use Rattle.std.proofs.Common.{length}
use Rattle.lockset_check.proofs.owners.+is_run_by.Given as goal

abbrev pub decreases-is_run_by : goal.decreases-is_run_by
decreases-is_run_by l = length l.objects.now
