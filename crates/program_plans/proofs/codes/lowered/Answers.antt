use Rattle.c_program.specs.Plain.{program_of}
use Rattle.c_limits.proofs.Within.{within_limits}
use Rattle.program_plans.proofs.codes.lowered.Goals as goal

pub unreachable-requires : goal.unreachable-requires
unreachable-requires c =
    c.in-Err-TooLarge.ensures.ample (within_limits (program_of c.args.program.now) c.requires.limits) c.in-Err-TooLarge.field-0-is

pub lower_function-requires-clause-resolved : goal.lower_function-requires-clause-resolved
lower_function-requires-clause-resolved c = c.requires.resolved

pub lower_function-requires-clause-runs : goal.lower_function-requires-clause-runs
lower_function-requires-clause-runs c = c.requires.runs
