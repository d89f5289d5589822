use Rattle.std.proofs.Common.{◌≡◌, replicate}
use Rattle.std.specs.Prelude.{false}
use Rattle.c_program.specs.Plain.{program_of}
use Rattle.thread_semantics.specs.Step.{Steps, and_steps}
use Rattle.c_state.specs.View.{state_of}
use Rattle.run_check.proofs.race.take_turn.Given as goal

abbrev pub invariant-loop-index : goal.invariant-loop-index
invariant-loop-index l = record {
  taken : and_steps (program_of l.program) (Steps (state_of l.fn.state)) (replicate l.index l.turn.thread) ≡ Steps (state_of l.state);
  running : (state_of l.fn.state).ended ≡ false → (state_of l.state).ended ≡ false;
}
