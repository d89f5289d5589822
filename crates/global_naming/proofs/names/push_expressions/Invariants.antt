use Rattle.std.proofs.Common.{◌≡◌, ◌++◌, take}
use Rattle.c_program.specs.Plain.{expressions_of}
use Rattle.global_naming.specs.Naming.{expressions_globals}
use Rattle.global_naming.proofs.names.push_expressions.Given as goal

abbrev pub invariant-loop-expression : goal.invariant-loop-expression
invariant-loop-expression l = l.names.items ≡ l.fn.names.items ++ expressions_globals (expressions_of (take l.expression-index l.expressions))
