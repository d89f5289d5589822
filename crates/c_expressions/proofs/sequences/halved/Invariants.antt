use Rattle.std.proofs.Common.{◌≡◌, fold, map, [], None}
use Rattle.c_program.specs.Plain.{boxed_statement_of}
use Rattle.c_expressions.specs.Joined.{joined_of}
use Rattle.c_expressions.specs.Sequences.{with_next}
use Rattle.c_expressions.proofs.sequences.halved.Given as goal

abbrev pub invariant-loop-step : goal.invariant-loop-step
invariant-loop-step l = joined_of l.joined ≡ fold with_next ([], None) (map boxed_statement_of l.yielded)
