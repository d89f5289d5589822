use Rattle.std.proofs.Common.{◌+◌, ◌*◌, length}
use Rattle.hardware_threads.proofs.run.+fn-work_beside-join+arg2+fn-work_beside-join+arg3+work_beside.Given as goal

abbrev pub decreases-join+arg2 : goal.decreases-join+arg2
decreases-join+arg2 g l = 2 * length l.left.now + 1

abbrev pub decreases-join+arg3 : goal.decreases-join+arg3
decreases-join+arg3 g l = 2 * length l.right.now + 1

abbrev pub decreases-work_beside : goal.decreases-work_beside
decreases-work_beside g l = 2 * length l.seats.now
