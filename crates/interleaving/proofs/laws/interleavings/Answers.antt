-- The laws stand in the files of proofs.
use Rattle.interleaving.proofs.AnyOrder.{comes_first}
use Rattle.interleaving.proofs.Commutation.{runs_commute}
use Rattle.interleaving.proofs.FollowedRuns.{runs_follow_one}
use Rattle.interleaving.proofs.Headline.{done_where_ended, runs_as_one}
use Rattle.interleaving.proofs.KeptLag.{keeps_lag, flights_apart}
use Rattle.interleaving.proofs.Order.{order_in_cycle}
use Rattle.interleaving.proofs.PaidMoves.{pays_for_moves}
use Rattle.interleaving.proofs.Races.{first_conflict}
use Rattle.interleaving.proofs.laws.interleavings.Goals as goal

pub returns-clause-first_conflict : goal.returns-clause-first_conflict
returns-clause-first_conflict g c = λ P law. first_conflict P law

pub returns-clause-runs_commute : goal.returns-clause-runs_commute
returns-clause-runs_commute g c = λ P law. runs_commute P law

pub returns-clause-any_order : goal.returns-clause-any_order
returns-clause-any_order g c = λ m. comes_first m

pub returns-clause-order_in_cycle : goal.returns-clause-order_in_cycle
returns-clause-order_in_cycle g c = order_in_cycle g.H.HardwareOfCores.source g.H.HardwareOfCores.hardware

pub returns-clause-runs_follow_one : goal.returns-clause-runs_follow_one
returns-clause-runs_follow_one g c =
    runs_follow_one g.M.RelatedMachine.cycle g.M.RelatedMachine.counts g.M.RelatedMachine.still g.M.RelatedMachine.Related

pub returns-clause-keeps_lag : goal.returns-clause-keeps_lag
returns-clause-keeps_lag g c = λ good. let M = g.R.Refined.refinement in (keeps_lag M.source M.hardware M.threaded good M.planned, flights_apart M.source M.hardware M.threaded good M.planned)

pub returns-clause-pays_for_moves : goal.returns-clause-pays_for_moves
returns-clause-pays_for_moves g c = λ good. let M = g.R.Refined.refinement in pays_for_moves M.source M.hardware M.threaded good M.planned M.T M.B M.left M.timed

pub returns-clause-done_where_ended : goal.returns-clause-done_where_ended
returns-clause-done_where_ended g c = λ is_over marks law. done_where_ended g.R.Refined.refinement.source g.R.Refined.refinement.hardware is_over marks law

pub returns-clause-runs_as_one : goal.returns-clause-runs_as_one
returns-clause-runs_as_one g c = runs_as_one g.R.Refined.refinement
