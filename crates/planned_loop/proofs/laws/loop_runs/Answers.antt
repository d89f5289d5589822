-- The law stands in proofs/Runs.
use Rattle.planned_loop.proofs.WholeRuns.{loop_runs}
use Rattle.planned_loop.proofs.laws.loop_runs.Goals as goal

pub returns : goal.returns
returns g c = loop_runs g.P.Threaded.source g.P.Threaded.Starts g.P.Threaded.Exits
