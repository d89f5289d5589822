use Rattle.std.proofs.Common.{refl, lit<, arith}
use Rattle.plan_tests.proofs.LoopUses.{are_carried}
use Rattle.plan_tests.proofs.loops.sums_are_scheduled.Goals as goal

pub pipeline-requires-clause-carried : goal.pipeline-requires-clause-carried
pipeline-requires-clause-carried g c =
    rw (c.handed.ensures, c.handed-2.ensures, c.handed-3.ensures, c.handed-4.ensures, c.handed-5.ensures)
    (are_carried 7 _ (lit< tt, lit< tt, refl, (lit< tt, lit< tt, refl, (lit< tt, lit< tt, refl, (lit< tt, lit< tt, refl, (lit< tt, lit< tt, refl, tt))))) (omega arith))

pub pipeline-requires-2-clause-carried : goal.pipeline-requires-2-clause-carried
pipeline-requires-2-clause-carried g c =
    rw (c.handed.ensures, c.handed-2.ensures, c.handed-3.ensures, c.handed-4.ensures, c.handed-5.ensures)
    (are_carried 7 _ (lit< tt, lit< tt, refl, (lit< tt, lit< tt, refl, (lit< tt, lit< tt, refl, (lit< tt, lit< tt, refl, (lit< tt, lit< tt, refl, tt))))) (omega arith))
