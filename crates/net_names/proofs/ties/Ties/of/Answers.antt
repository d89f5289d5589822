use Rattle.std.proofs.Common.{arith}
use Rattle.std.proofs.lemmas.Grind.{common_steps}
use Rattle.net_names.proofs.ties.Ties.of.Goals as goal

pub loop-tie-preserved : goal.loop-tie-preserved
loop-tie-preserved c = grind (arith, common_steps)
