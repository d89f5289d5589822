use Rattle.std.proofs.Common.{◌≡◌, take}
use Rattle.c_rules.specs.declared.dimensions.Dimensions.TheVariants.{Scalar}
use Rattle.c_rules.specs.Walks.{Outcome, through}
use Rattle.c_resolution.specs.Locals.{next_length}
use Rattle.c_statements.proofs.lengths.dimensions.Given as goal

abbrev pub invariant-loop-e : goal.invariant-loop-e
invariant-loop-e l = through (next_length l.scope) Scalar (take l.e-index l.lengths) l.initial.found ≡ Outcome.Gives l.dimensions l.found
