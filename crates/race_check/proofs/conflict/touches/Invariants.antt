use Rattle.std.proofs.Common.{◌≡◌, drop}
use Rattle.std.specs.List.{list_any}
use Rattle.race_check.specs.Access.{location_of, touches_of}
use Rattle.race_check.specs.Conflict.{is_at}
use Rattle.race_check.proofs.conflict.touches.Given as goal

abbrev pub invariant-loop-access : goal.invariant-loop-access
invariant-loop-access l =
    list_any (is_at (location_of l.location)) (touches_of l.accesses) ≡
    list_any (is_at (location_of l.location)) (touches_of (drop l.access-index l.accesses))
