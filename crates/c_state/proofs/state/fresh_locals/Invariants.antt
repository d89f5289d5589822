use Rattle.std.proofs.Common.{◌≡◌, ◌++◌, drop}
use Rattle.thread_semantics.specs.State.{fresh_locals}
use Rattle.c_evaluation.specs.Outcome.{rows_of}
use Rattle.c_state.proofs.state.fresh_locals.Given as goal

abbrev pub invariant-loop-k : goal.invariant-loop-k
invariant-loop-k l =
    fresh_locals l.locals l.arguments ≡ rows_of l.rows.items ++ fresh_locals (drop l.k l.locals) (drop l.k l.arguments)
