use Rattle.std.proofs.Common.{arith}
use Rattle.std.proofs.lemmas.Grind.{common_steps}
use Rattle.sim_values.proofs.sizes.inner_size.Goals as goal

pub loop-instance-preserved : goal.loop-instance-preserved
loop-instance-preserved c = grind (arith, common_steps)
