use Rattle.std.proofs.Common.{◌≡◌, take, map}
use Rattle.c_program.specs.Plain.{global_of}
use Rattle.thread_semantics.specs.State.{first_values}
use Rattle.c_evaluation.specs.Outcome.{rows_of}
use Rattle.c_state.proofs.state.first_globals.Given as goal

abbrev pub invariant-loop-global : goal.invariant-loop-global
invariant-loop-global l =
    rows_of l.rows.items ≡ map first_values (map global_of (take l.global-index l.globals))
