use Rattle.std.proofs.Common.{arith}
use Rattle.std.proofs.lemmas.Grind.{common_steps}
use Rattle.global_naming.proofs.naming.count.Goals as goal

pub loop-runner-preserved : goal.loop-runner-preserved
loop-runner-preserved c = grind (arith, common_steps)
