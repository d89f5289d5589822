use Rattle.std.proofs.Common.{length}
use Rattle.run_check.proofs.elements.+are_ordered.Given as goal

abbrev pub decreases-are_ordered : goal.decreases-are_ordered
decreases-are_ordered l = length l.accesses.now
