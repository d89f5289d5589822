use Rattle.std.proofs.lemmas.Grind.{common_steps}
use Rattle.std.proofs.Common.{◌≡◌, replicate, arith, rules}
use Rattle.schedule_sdc.proofs.Back.{no_solution}
use Rattle.schedule_sdc.proofs.Begun.{begun_sound, begun_shallow, begun_early}
use Rattle.schedule_sdc.proofs.Ordered.{least_fits}
use Rattle.schedule_sdc.proofs.Rounds.{IsBegun}
use Rattle.schedule_sdc.proofs.least.solve_with_history.Goals as goal

pub cycle_met-requires-clause-sound : goal.cycle_met-requires-clause-sound
cycle_met-requires-clause-sound c =
    let zeros : c.in_ok-starts.starts.items ≡ replicate c.args.places 0 = c.in_ok-starts.ensures.items_if_clones_equal (λ e. search rules) in
    let all : c.loop-place.place ≡ c.args.places = omega (arith, c.loop-place.auto.place-end, c.loop-place-test.false) in
    let begun : IsBegun c.args.places c.loop-place.last.items c.loop-place.steps.items = rw all at c.loop-place.invariant.begun in
    rw zeros (begun_sound _ _ _ _ begun)

pub cycle_met-requires-clause-shallow : goal.cycle_met-requires-clause-shallow
cycle_met-requires-clause-shallow c =
    let all : c.loop-place.place ≡ c.args.places = omega (arith, c.loop-place.auto.place-end, c.loop-place-test.false) in
    let begun : IsBegun c.args.places c.loop-place.last.items c.loop-place.steps.items = rw all at c.loop-place.invariant.begun in
    begun_shallow c.args.list.now _ _ _ begun

pub cycle_met-requires-clause-early : goal.cycle_met-requires-clause-early
cycle_met-requires-clause-early c =
    let zeros : c.in_ok-starts.starts.items ≡ replicate c.args.places 0 = c.in_ok-starts.ensures.items_if_clones_equal (λ e. search rules) in
    let all : c.loop-place.place ≡ c.args.places = omega (arith, c.loop-place.auto.place-end, c.loop-place-test.false) in
    let begun : IsBegun c.args.places c.loop-place.last.items c.loop-place.steps.items = rw all at c.loop-place.invariant.begun in
    rw zeros (begun_early _ _ _ _ begun)

pub returns-in-Some : goal.returns-in-Some
returns-in-Some c = let p = rw c.in-Some.is at c.in_ok-walk.ensures in (p, no_solution _ _ p)

pub narrowed-requires : goal.narrowed-requires
narrowed-requires c = let least = rw c.in-None.is at c.in_ok-walk.ensures in rw c.deref.ensures.value (least_fits _ _ _ least c.requires.fits)

pub loop-place-preserved : goal.loop-place-preserved
loop-place-preserved c = grind (arith, common_steps)

pub cycle_met-requires-clause-places : goal.cycle_met-requires-clause-places
cycle_met-requires-clause-places c = c.requires.places
