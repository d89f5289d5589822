-- The law stands in proofs/Resting.
use Rattle.planned_loop.proofs.PaidSteps.{loop_rests}
use Rattle.planned_loop.proofs.laws.loop_rests.Goals as goal

pub returns : goal.returns
returns g c = loop_rests g.P.Threaded.source g.P.Threaded.Starts g.P.Threaded.Exits
