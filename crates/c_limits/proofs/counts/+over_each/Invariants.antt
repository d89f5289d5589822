use Rattle.std.proofs.Common.{length}
use Rattle.c_limits.proofs.counts.+over_each.Given as goal

abbrev pub decreases-over_each : goal.decreases-over_each
decreases-over_each l = length l.functions.now
