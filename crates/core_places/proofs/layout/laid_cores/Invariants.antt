use Rattle.std.proofs.Common.{◌≡◌, map, take}
use Rattle.core_family.specs.View.{kind_of}
use Rattle.core_places.proofs.CoresLaid.{laid}
use Rattle.core_places.proofs.layout.laid_cores.Given as goal

abbrev pub invariant-loop-k : goal.invariant-loop-k
invariant-loop-k l = l.cores ≡ laid l.fn.wanted l.fn.first (take l.k (map kind_of l.kinds))
