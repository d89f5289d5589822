use Rattle.c_program.specs.Plain.{statement_of}
use Rattle.ir_lower.proofs.Sizes.{nested_size}
use Rattle.ir_lower.proofs.labels.+lower_comparisons.Given as goal

abbrev pub decreases-lower_comparisons : goal.decreases-lower_comparisons
decreases-lower_comparisons l = nested_size (statement_of l.body.now)
