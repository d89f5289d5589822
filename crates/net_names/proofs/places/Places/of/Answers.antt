use Rattle.std.proofs.Common.{◌≤◌, length, subst, arith}
use Rattle.net_names.proofs.NumberTables.{no_place, next_place}
use Rattle.net_names.proofs.places.Places.of.Goals as goal

pub loop-place-init : goal.loop-place-init
loop-place-init c = no_place _ c.args.names _ c.new-places.ensures.empty c.len-place.ensures

pub loop-place-preserved : goal.loop-place-preserved
loop-place-preserved c =
    let some = c.loop-place-test.true in
    let within : c.loop-place.place ≤ length c.args.names = subst (λ n. c.loop-place.place ≤ n) c.len-place.ensures c.loop-place.auto.place in
    next_place _ _ c.args.names c.as_slice.result.now c.loop-place.place _ _ (omega (arith, some)) within c.as_slice.ensures
    c.in_ok-insert.ensures.updates.0 c.loop-place.invariant
