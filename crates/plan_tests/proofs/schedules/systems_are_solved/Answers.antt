use Rattle.std.proofs.Common.{lit<}
use Rattle.schedule_sdc.proofs.GapSums.{sums_fit}
use Rattle.plan_tests.proofs.schedules.systems_are_solved.Goals as goal

pub solve-requires-clause-fits : goal.solve-requires-clause-fits
solve-requires-clause-fits g c = sums_fit _ _ (lit< tt)

pub solve-requires-2-clause-fits : goal.solve-requires-2-clause-fits
solve-requires-2-clause-fits g c = sums_fit _ _ (lit< tt)
