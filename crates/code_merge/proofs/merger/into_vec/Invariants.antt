use Rattle.std.proofs.Common.{◌≡◌, ◌++◌, length, reverse}
use Rattle.code_merge.proofs.merger.into_vec.Given as goal

abbrev pub invariant-loop-stage : goal.invariant-loop-stage
invariant-loop-stage l = l.fn.stages ≡ l.rest ++ reverse l.last_first.items

abbrev pub decreases-loop-stage : goal.decreases-loop-stage
decreases-loop-stage l = length l.rest
