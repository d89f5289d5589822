use Rattle.std.proofs.Common.{List, drop}
use Rattle.c_program.specs.Plain.{expressions_of}
use Rattle.thread_semantics.specs.Value.{values}
use Rattle.thread_semantics.specs.Races.{Touch}
use Rattle.c_evaluation.specs.Outcome.{memory_of}
use Rattle.race_check.specs.Access.{touches_of}
use Rattle.race_check.specs.Reads.{Adds}
use Rattle.race_check.proofs.reads.read_all.Given as goal

abbrev pub invariant-loop-expression : goal.invariant-loop-expression
invariant-loop-expression l =
    (after : List Touch) →
    Adds (values (expressions_of (drop l.expression-index l.expressions)) (memory_of l.locals l.globals)) (touches_of l.list) after →
    Adds (values (expressions_of l.expressions) (memory_of l.locals l.globals)) (touches_of l.initial.list) after
