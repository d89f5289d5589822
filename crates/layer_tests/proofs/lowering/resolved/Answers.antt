use Rattle.c_program.specs.Plain.{program_of}
use Rattle.c_resolved_program.proofs.AcceptedLaws.{resolved_law}
use Rattle.layer_tests.proofs.lowering.resolved.Goals as goal

pub returns : goal.returns
returns c = resolved_law c.args.text.now (program_of c.in_ok-accepted.accepted.program) c.in_ok-accepted.accepted.weight c.in_ok-accepted.ensures.ok
