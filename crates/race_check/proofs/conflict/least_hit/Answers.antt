use Rattle.std.proofs.Common.{◌≤◌, ◌+◌, ◌∙◌, false, sym, ap, subst, take, length, arith}
use Rattle.std.specs.Option.{option_map}
use Rattle.race_check.specs.declared.access.Access.{Access}
use Rattle.race_check.specs.Access.{location_of, touches_of}
use Rattle.race_check.specs.Conflict.{Hits, IsLeast, least}
use Rattle.race_check.proofs.Least.{hits_at, hits_all}
use Rattle.race_check.proofs.conflict.least_hit.Goals as goal

pub loop-access-preserved : goal.loop-access-preserved
loop-access-preserved c =
    let others = touches_of c.args.second.now in
    let best = option_map location_of c.loop-access.best in
    let none : Access = record { location = record { global = 0; index = 0 }; written = false } in
    subst (λ o. IsLeast (Hits (touches_of (take (c.loop-access.access-index + 1) c.args.first.now)) others) o)
    (sym (c.least-best.ensures ∙ ap (least best) c.hit.ensures))
    (hits_at c.args.first.now c.loop-access.access-index none others best c.loop-access-test.true c.loop-access.invariant)

pub returns : goal.returns
returns c =
    let done : length c.args.first.now ≤ c.loop-access.access-index = omega arith in
    hits_all c.args.first.now c.loop-access.access-index (touches_of c.args.second.now) (option_map location_of c.loop-access.best) done c.loop-access.invariant
