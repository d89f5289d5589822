use Rattle.std.proofs.Common.{take}
use Rattle.c_program.specs.Plain.{program_of}
use Rattle.program_plans.specs.Steps.{AreCodes}
use Rattle.program_plans.proofs.codes.codes.Given as goal

abbrev pub invariant-loop-function : goal.invariant-loop-function
invariant-loop-function l = AreCodes (program_of l.program) (take l.function-index l.functions) l.codes
