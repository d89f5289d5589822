use Rattle.std.proofs.Common.{arith}
use Rattle.std.proofs.lemmas.Grind.{common_steps}
use Rattle.c_limits.proofs.counts.push_above.Goals as goal

pub loop-f-preserved : goal.loop-f-preserved
loop-f-preserved c = grind (arith, common_steps)
