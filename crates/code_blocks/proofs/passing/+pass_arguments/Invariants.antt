use Rattle.std.proofs.Common.{length}
use Rattle.code_blocks.proofs.passing.+pass_arguments.Given as goal

abbrev pub decreases-pass_arguments : goal.decreases-pass_arguments
decreases-pass_arguments l = length l.arguments.now
