use Rattle.std.proofs.Common.{◌≡◌, map, take}
use Rattle.std.specs.Prelude.{string_bytes}
use Rattle.c_program.specs.Plain.{function_of}
use Rattle.code_storage.specs.Names.{variable_names}
use Rattle.code_storage.specs.Reaching.{with_marks}
use Rattle.code_storage.proofs.naming.names_of.Given as goal

abbrev pub invariant-loop-number : goal.invariant-loop-number
invariant-loop-number l = map string_bytes l.names ≡ variable_names (with_marks l.marks (map function_of (take l.number l.functions)))
