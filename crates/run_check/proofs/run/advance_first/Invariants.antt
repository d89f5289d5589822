use Rattle.std.proofs.Common.{◌≡◌, ℕ, ◌<◌}
use Rattle.std.specs.Prelude.{true}
use Rattle.c_program.specs.Plain.{program_of}
use Rattle.thread_semantics.specs.Step.{is_blocked, step}
use Rattle.c_state.specs.View.{state_of}
use Rattle.run_check.specs.Run.{IsSameRun}
use Rattle.run_check.proofs.run.advance_first.Given as goal

abbrev pub invariant-loop-thread : goal.invariant-loop-thread
invariant-loop-thread l = record {
  same : IsSameRun l.fn.run l.run;
  blocked : (k : ℕ) → k < l.thread → is_blocked (step (program_of l.program) (state_of l.fn.run.state) k) ≡ true;
}
