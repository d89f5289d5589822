use Rattle.std.proofs.Common.{take, length}
use Rattle.code_merge.proofs.Counted.{Tallied}
use Rattle.code_merge.proofs.follow.counts.Given as goal

abbrev pub invariant-loop-stage : goal.invariant-loop-stage
invariant-loop-stage l = Tallied (length l.stages) (take l.stage-index l.stages) l.counts
