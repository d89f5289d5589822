use Rattle.std.proofs.Common.{◌≡◌, ◌++◌}
use Rattle.std.specs.Prelude.{replicate}
use Rattle.hls_ints.specs.Types.{long_int}
use Rattle.c_program.specs.Resolved.{scalar}
use Rattle.c_definitions.proofs.slots.add_slots.Given as goal

abbrev pub invariant-loop-slot : goal.invariant-loop-slot
invariant-loop-slot l = l.locals.items ≡ l.initial.locals.items ++ replicate l._slot (scalar long_int)
