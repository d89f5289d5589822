use Rattle.std.proofs.Common.{◌≡◌, take}
use Rattle.c_program.specs.declared.tree.LocalVariable.{LocalVariable}
use Rattle.c_program.specs.Limits.{greatest}
use Rattle.c_limits.proofs.counts.longest_local.Given as goal

abbrev pub invariant-loop-local : goal.invariant-loop-local
invariant-loop-local l = l.longest ≡ greatest (λ (x : LocalVariable). x.length) (take l.local-index l.function.locals.items)
