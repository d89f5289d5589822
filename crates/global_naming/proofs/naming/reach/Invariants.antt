use Rattle.std.proofs.Common.{◌≡◌, take, map}
use Rattle.c_program.specs.Plain.{function_of}
use Rattle.global_naming.specs.Tables.{calls_from}
use Rattle.global_naming.proofs.naming.reach.Given as goal

abbrev pub invariant-loop-caller : goal.invariant-loop-caller
invariant-loop-caller l = l.calls.items ≡ calls_from (map function_of (take l.caller l.program.functions.items))
