-- The law stands in proofs/Iterating.
use Rattle.planned_loop.proofs.BlockIterations.{blocks_iterate}
use Rattle.planned_loop.proofs.laws.blocks_iterate.Goals as goal

pub returns : goal.returns
returns c = blocks_iterate
