use Rattle.std.proofs.Common.{◌+◌}
use Rattle.c_program.specs.Plain.{program_of}
use Rattle.c_state.specs.View.{state_of}
use Rattle.c_interpreter.specs.Walk.{Numbers, IsAt, Lists}
use Rattle.c_interpreter.proofs.walk.take_turn.Given as goal

abbrev pub invariant-loop-k : goal.invariant-loop-k
invariant-loop-k l =
    (list : Numbers) → IsAt (program_of l.program) list l.first (state_of l.fn.s) → Lists list l.first l.turn → IsAt (program_of l.program) list (l.first + l.k) (state_of l.s)
