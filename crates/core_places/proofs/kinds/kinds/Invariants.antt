use Rattle.std.proofs.Common.{map, take}
use Rattle.core_family.specs.View.{kind_of}
use Rattle.core_places.specs.Placing.{AreModules}
use Rattle.core_places.proofs.kinds.kinds.Given as goal

abbrev pub invariant-loop-kind : goal.invariant-loop-kind
invariant-loop-kind l = AreModules l.fn.wanted.threads (take l.kind-index (map kind_of l.kinds)) l.modules
