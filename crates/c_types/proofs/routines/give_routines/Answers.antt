use Rattle.std.proofs.Common.{arith}
use Rattle.std.proofs.lemmas.Grind.{common_steps}
use Rattle.c_types.proofs.routines.give_routines.Goals as goal

pub loop-creation-preserved : goal.loop-creation-preserved
loop-creation-preserved c = grind (arith, common_steps)
