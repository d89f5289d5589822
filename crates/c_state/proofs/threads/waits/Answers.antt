use Rattle.std.proofs.Common.{arith}
use Rattle.std.proofs.lemmas.Grind.{common_steps}
use Rattle.c_state.proofs.threads.waits.Goals as goal

pub loop-barrier-preserved : goal.loop-barrier-preserved
loop-barrier-preserved c = grind (arith, common_steps)
