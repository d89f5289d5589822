use Rattle.std.proofs.Common.{sym, subst}
use Rattle.std.specs.Option.{option_map}
use Rattle.race_check.specs.Access.{location_of, touches_of}
use Rattle.race_check.specs.Conflict.{Conflict, IsLeast}
use Rattle.race_check.proofs.Least.{conflict_least}
use Rattle.race_check.proofs.conflict.least_conflict.Goals as goal

pub returns : goal.returns
returns c =
    let ys = touches_of c.args.first.now in
    let zs = touches_of c.args.second.now in
    subst (λ o. IsLeast (Conflict ys zs) o) (sym c.least.ensures)
    (conflict_least ys zs (option_map location_of c.least_hit.result) (option_map location_of c.least_hit-2.result) c.least_hit.ensures c.least_hit-2.ensures)
