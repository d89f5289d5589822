-- The law stands in proofs/Round.
use Rattle.planned_loop.proofs.RoundEnds.{loop_ends}
use Rattle.planned_loop.proofs.laws.loop_ends.Goals as goal

pub returns : goal.returns
returns c = loop_ends
