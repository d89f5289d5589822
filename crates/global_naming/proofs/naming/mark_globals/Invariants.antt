use Rattle.std.proofs.Common.{◌≡◌, take}
use Rattle.global_naming.specs.Tables.{with_names}
use Rattle.global_naming.proofs.naming.mark_globals.Given as goal

abbrev pub invariant-loop-global : goal.invariant-loop-global
invariant-loop-global l = l.marks.items ≡ with_names (take l.global-index l.global-items) l.fn.marks.items
