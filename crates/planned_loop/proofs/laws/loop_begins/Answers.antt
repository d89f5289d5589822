-- The law stands in proofs/Round.
use Rattle.planned_loop.proofs.RoundEnds.{loop_begins}
use Rattle.planned_loop.proofs.laws.loop_begins.Goals as goal

pub returns : goal.returns
returns c = loop_begins
