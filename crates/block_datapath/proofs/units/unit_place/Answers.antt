use Rattle.std.proofs.Common.{arith}
use Rattle.std.proofs.lemmas.Grind.{common_steps}
use Rattle.block_datapath.proofs.units.unit_place.Goals as goal

pub loop-results-preserved : goal.loop-results-preserved
loop-results-preserved c = grind (arith, common_steps)
