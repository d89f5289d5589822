use Rattle.std.proofs.Common.{arith}
use Rattle.std.proofs.lemmas.Grind.{common_steps}
use Rattle.race_check.proofs.conflict.touches.Goals as goal

pub loop-access-preserved : goal.loop-access-preserved
loop-access-preserved c = grind (arith, common_steps)
