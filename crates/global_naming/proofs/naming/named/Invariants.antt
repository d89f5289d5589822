use Rattle.std.proofs.Common.{◌≡◌}
use Rattle.c_program.specs.Plain.{program_of}
use Rattle.global_naming.specs.Tables.{named_to}
use Rattle.global_naming.proofs.naming.named.Given as goal

abbrev pub invariant-loop-callee : goal.invariant-loop-callee
invariant-loop-callee l = l.marks.items ≡ named_to (program_of l.program) l.reach.rows l.function l.callee
