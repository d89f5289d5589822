use Rattle.std.proofs.Common.{arith}
use Rattle.std.proofs.lemmas.Grind.{common_steps}
use Rattle.sim_values.proofs.sizes.word_count.Goals as goal

pub loop-memory-preserved : goal.loop-memory-preserved
loop-memory-preserved c = grind (arith, common_steps)
