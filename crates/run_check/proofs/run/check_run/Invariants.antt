use Rattle.std.proofs.Common.{◌≡◌}
use Rattle.std.specs.Prelude.{false}
use Rattle.c_program.specs.Plain.{program_of}
use Rattle.run_check.specs.Run.{IsRun}
use Rattle.run_check.proofs.run.check_run.Given as goal

abbrev pub invariant-loop : goal.invariant-loop
invariant-loop l = record {
  is : IsRun (program_of l.program) l.run;
  running : l.run.state.ended ≡ false;
}
