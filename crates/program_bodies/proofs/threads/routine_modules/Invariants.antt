use Rattle.std.proofs.Common.{map}
use Rattle.c_program.specs.Plain.{program_of}
use Rattle.program_plans.specs.Plans.{routine_of}
use Rattle.program_bodies.specs.Modules.{AreLaid}
use Rattle.program_bodies.proofs.threads.routine_modules.Given as goal

abbrev pub invariant-loop-k : goal.invariant-loop-k
invariant-loop-k l = AreLaid (program_of l.program) l.spreads l.wanted (map routine_of l.plans) l.k l.modules
