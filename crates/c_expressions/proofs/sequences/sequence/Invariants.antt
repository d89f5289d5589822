use Rattle.std.proofs.Common.{◌≡◌, map}
use Rattle.c_program.specs.Plain.{boxed_statement_of}
use Rattle.c_expressions.specs.Sequences.{rounds}
use Rattle.c_expressions.proofs.sequences.sequence.Given as goal

abbrev pub invariant-loop-round : goal.invariant-loop-round
invariant-loop-round l = map boxed_statement_of l.left.items ≡ rounds l._round (map boxed_statement_of l.fn.steps.items)
