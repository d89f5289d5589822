use Rattle.std.proofs.Common.{take, List}
use Rattle.c_program.specs.declared.tree.LocalVariable.{LocalVariable}
use Rattle.code_storage.specs.Locals.{Houses, AllHomed}
use Rattle.code_storage.proofs.rooms.Rooms.place_all.Given as goal

abbrev pub invariant-loop-local : goal.invariant-loop-local
invariant-loop-local l = (before : List LocalVariable) → Houses before l.fn.self → AllHomed before (take l.local-index l.locals) l.homes l.fn.self l.self
