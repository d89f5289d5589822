-- The law stands in proofs/Round.
use Rattle.planned_loop.proofs.RoundEnds.{loop_goes_on}
use Rattle.planned_loop.proofs.laws.loop_goes_on.Goals as goal

pub returns : goal.returns
returns c = loop_goes_on
