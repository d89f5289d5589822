use Rattle.c_program.specs.Plain.{program_of}
use Rattle.c_resolved_program.proofs.AcceptedLaws.{resolved_law}
use Rattle.hls_compile.proofs.program_in.Goals as goal

pub returns-in-Ok-clause-resolved : goal.returns-in-Ok-clause-resolved
returns-in-Ok-clause-resolved c = resolved_law c.args.text.now (program_of c.in-Ok.accepted.program) c.in-Ok.accepted.weight c.in-Ok.ensures.ok

pub returns-in-Ok-clause-limits : goal.returns-in-Ok-clause-limits
returns-in-Ok-clause-limits c = c.in-Ok.ensures.ok.within.limits
