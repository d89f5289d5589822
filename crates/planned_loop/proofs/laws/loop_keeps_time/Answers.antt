-- The law stands in proofs/Time.
use Rattle.planned_loop.proofs.IterationTimes.{loop_keeps_time}
use Rattle.planned_loop.proofs.laws.loop_keeps_time.Goals as goal

pub returns : goal.returns
returns c = loop_keeps_time
