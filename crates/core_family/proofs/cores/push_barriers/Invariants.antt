use Rattle.std.proofs.Common.{◌≡◌, ◌++◌, map, replicate}
use Rattle.core_family.specs.Kinds.{barrier}
use Rattle.core_family.specs.View.{kind_of}
use Rattle.core_family.proofs.cores.push_barriers.Given as goal

abbrev pub invariant-loop : goal.invariant-loop
invariant-loop l = map kind_of l.kinds ≡ map kind_of l.fn.kinds ++ replicate l.counter (barrier l.fn.cores)
