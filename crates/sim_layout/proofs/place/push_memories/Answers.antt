use Rattle.std.proofs.Common.{arith}
use Rattle.std.proofs.lemmas.Grind.{common_steps}
use Rattle.sim_layout.proofs.place.push_memories.Goals as goal

pub loop-memory-preserved : goal.loop-memory-preserved
loop-memory-preserved c = record {
  starts = grind (arith, common_steps);
  words = grind (arith, common_steps);
}
