use Rattle.c_program.specs.Plain.{program_of}
use Rattle.program_plans.proofs.Zipped.{AreBegun}
use Rattle.program_plans.proofs.planned.planned.Given as goal

abbrev pub invariant-loop-function : goal.invariant-loop-function
invariant-loop-function l = AreBegun (program_of l.program) l.functions l.fn.codes l.fn.plans l.function-index l.codes l.plans l.planned
