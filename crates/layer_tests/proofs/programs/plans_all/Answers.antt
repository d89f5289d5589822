use Rattle.std.proofs.Common.{◌∙◌}
use Rattle.c_program.specs.Plain.{program_of}
use Rattle.c_resolved_program.proofs.AcceptedLaws.{resolved_law}
use Rattle.layer_tests.proofs.programs.plans_all.Goals as goal

pub plan_functions-requires-clause-resolved : goal.plan_functions-requires-clause-resolved
plan_functions-requires-clause-resolved g c κs within =
    resolved_law c.as_bytes.result.now (program_of c.in_ok-accepted.accepted.program) c.in_ok-accepted.accepted.weight c.in_ok-accepted.ensures.ok

pub plan_functions-requires-clause-threads : goal.plan_functions-requires-clause-threads
plan_functions-requires-clause-threads g c κs within = c.deref.ensures.value ∙ c.in_ok-accepted.ensures.functions
