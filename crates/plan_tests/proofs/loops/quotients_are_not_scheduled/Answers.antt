use Rattle.std.proofs.Common.{refl, lit<, arith}
use Rattle.plan_tests.proofs.LoopUses.{are_carried}
use Rattle.plan_tests.proofs.loops.quotients_are_not_scheduled.Goals as goal

pub pipeline-requires-clause-carried : goal.pipeline-requires-clause-carried
pipeline-requires-clause-carried g c =
    rw c.handed.ensures
    (are_carried 10 _ (lit< tt, lit< tt, refl, tt) (omega arith))
