use Rattle.std.proofs.Common.{◌≡◌, drop}
use Rattle.c_program.specs.Plain.{expressions_of}
use Rattle.thread_semantics.specs.Value.{values}
use Rattle.c_evaluation.specs.Outcome.{outcome, memory_of, after_values}
use Rattle.c_evaluation.proofs.evaluate.evaluate_all.Given as goal

abbrev pub invariant-loop-expression : goal.invariant-loop-expression
invariant-loop-expression l =
    outcome (values (expressions_of l.expressions) (memory_of l.locals l.globals)) ≡
    after_values l.list.items (outcome (values (expressions_of (drop l.expression-index l.expressions)) (memory_of l.locals l.globals)))
