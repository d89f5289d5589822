use Rattle.std.proofs.Common.{length}
use Rattle.code_blocks.proofs.printing.+lower_values.Given as goal

abbrev pub decreases-lower_values : goal.decreases-lower_values
decreases-lower_values l = length l.types.now
