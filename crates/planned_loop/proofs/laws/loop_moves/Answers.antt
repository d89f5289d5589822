-- The law stands in proofs/Next.
use Rattle.planned_loop.proofs.NextSlots.{loop_moves}
use Rattle.planned_loop.proofs.laws.loop_moves.Goals as goal

pub returns : goal.returns
returns c = loop_moves
