use Rattle.std.proofs.Common.{arith}
use Rattle.std.proofs.lemmas.Grind.{common_steps}
use Rattle.sim_layout.proofs.print.put_module.Goals as goal

pub loop-action-preserved : goal.loop-action-preserved
loop-action-preserved c = record {
  left = grind (arith, common_steps);
  narrow = grind (arith, common_steps);
  kept = grind (arith, common_steps);
}
