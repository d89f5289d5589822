use Rattle.std.proofs.Common.{take}
use Rattle.std.specs.Option.{option_map}
use Rattle.race_check.specs.Access.{location_of, touches_of}
use Rattle.race_check.specs.Conflict.{Hits, IsLeast}
use Rattle.race_check.proofs.conflict.least_hit.Given as goal

abbrev pub invariant-loop-access : goal.invariant-loop-access
invariant-loop-access l =
    IsLeast (Hits (touches_of (take l.access-index l.first)) (touches_of l.second)) (option_map location_of l.best)
