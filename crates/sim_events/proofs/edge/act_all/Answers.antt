use Rattle.std.proofs.Common.{arith}
use Rattle.std.proofs.lemmas.Grind.{common_steps}
use Rattle.sim_events.proofs.edge.act_all.Goals as goal

pub loop-row-preserved : goal.loop-row-preserved
loop-row-preserved c = record { next = grind (arith, common_steps); words = grind (arith, common_steps) }
