use Rattle.std.proofs.Common.{take}
use Rattle.register_binding.specs.Used.{any_final, IsMarked}
use Rattle.register_binding.proofs.used.mark_finals.Given as goal

abbrev pub invariant-loop-finish : goal.invariant-loop-finish
invariant-loop-finish l = IsMarked (any_final (take l.finish-index l.finals)) l.initial.used.items l.used.items
