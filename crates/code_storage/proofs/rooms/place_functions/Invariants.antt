use Rattle.std.proofs.Common.{map, take}
use Rattle.c_program.specs.Plain.{function_of}
use Rattle.code_storage.specs.Reaching.{with_marks}
use Rattle.code_storage.specs.Locals.{ArePlaced}
use Rattle.code_storage.proofs.rooms.place_functions.Given as goal

abbrev pub invariant-loop-number : goal.invariant-loop-number
invariant-loop-number l = ArePlaced (with_marks l.marks (map function_of (take l.number l.functions))) l.rooms
