use Rattle.std.proofs.Common.{◌≡◌, ◌++◌, map, take}
use Rattle.core_family.specs.Family.{Mutex}
use Rattle.core_family.specs.View.{kind_of}
use Rattle.core_family.proofs.cores.push_mutexes.Given as goal

abbrev pub invariant-loop-mutex : goal.invariant-loop-mutex
invariant-loop-mutex l = map kind_of l.kinds ≡ map kind_of l.fn.kinds ++ map Mutex (take l.mutex-index l.mutexes)
