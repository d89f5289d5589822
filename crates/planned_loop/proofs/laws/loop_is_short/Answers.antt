-- The law stands in proofs/Runs.
use Rattle.planned_loop.proofs.WholeRuns.{loop_is_short}
use Rattle.planned_loop.proofs.laws.loop_is_short.Goals as goal

pub returns : goal.returns
returns c = loop_is_short
