use Rattle.std.proofs.Common.{◌≡◌, ◌≤◌, ◌*◌, ◌^◌, length, take}
use Rattle.c_program.specs.Plain.{program_of}
use Rattle.turns.specs.Turns.{threads_of}
use Rattle.c_state.specs.View.{state_of}
use Rattle.c_interpreter.specs.Walk.{IsAt}
use Rattle.c_interpreter.proofs.walk.walk.Given as goal

abbrev pub invariant-loop-turn : goal.invariant-loop-turn
invariant-loop-turn l = record {
  so_far : IsAt (program_of l.program) (threads_of l.turns) l.steps (state_of l.s);
  count : l.steps ≡ length (threads_of (take l.turn-index l.turns));
  fits : l.steps ≤ l.turn-index * 2 ^ 32;
}
