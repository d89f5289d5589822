use Rattle.std.proofs.Common.{◌≡◌, length, replicate, rules, arith}
use Rattle.interval_pack.specs.Packing.{IsPacking}
use Rattle.interval_pack.specs.Chosen.{IsSpread}
use Rattle.interval_pack.proofs.ChosenIntervals.{AreChosen, choose_next, none_chosen}
use Rattle.interval_pack.proofs.SparsePacked.{solid_ones, rising_below, packed}
use Rattle.interval_pack.proofs.packing.pack_some.Goals as goal

pub loop-i-init : goal.loop-i-init
loop-i-init c = none_chosen c.args.intervals.now _ _ (search rules) (search rules)

pub loop-i-preserved : goal.loop-i-preserved
loop-i-preserved c =
    choose_next c.args.intervals.now c.loop-i.i c.loop-i-test.true c.loop-i.chosen.items c.loop-i.solid.items c.loop-i.invariant _ _
    c.in_ok-choose.ensures.chosen c.in_ok-choose.ensures.solid

pub pack-requires : goal.pack-requires
pack-requires c =
    let all : c.loop-i.i ≡ length c.args.intervals.now = omega arith in
    let are : AreChosen c.args.intervals.now (length c.args.intervals.now) c.loop-i.chosen.items c.loop-i.solid.items = rw all at c.loop-i.invariant in
    rw c.deref.ensures.value (solid_ones c.args.intervals.now _ _ are)

pub spread-requires-clause-chosen : goal.spread-requires-clause-chosen
spread-requires-clause-chosen c =
    let all : c.loop-i.i ≡ length c.args.intervals.now = omega arith in
    let are : AreChosen c.args.intervals.now (length c.args.intervals.now) c.loop-i.chosen.items c.loop-i.solid.items = rw all at c.loop-i.invariant in
    let zeros : c.in_ok-row.row.items ≡ replicate (length c.args.intervals.now) 0 = search rules in
    rw c.deref-2.ensures.value (rising_below c.args.intervals.now _ _ are _ zeros)

pub returns : goal.returns
returns c =
    let all : c.loop-i.i ≡ length c.args.intervals.now = omega arith in
    let are : AreChosen c.args.intervals.now (length c.args.intervals.now) c.loop-i.chosen.items c.loop-i.solid.items = rw all at c.loop-i.invariant in
    let zeros : c.in_ok-row.row.items ≡ replicate (length c.args.intervals.now) 0 = search rules in
    let spread : IsSpread (length c.loop-i.chosen.items) c.loop-i.chosen.items c.in_ok-packing.packing.row.items c.in_ok-row.row.items c.spread.new.rows.items =
    rw (c.deref-2.ensures.value, c.deref-3.ensures.value) at c.spread.ensures in
    let packing : IsPacking c.loop-i.solid.items c.in_ok-packing.packing.row.items c.in_ok-packing.packing.rows c.in_ok-packing.packing.crowded =
    rw c.deref.ensures.value at c.in_ok-packing.ensures in
    packed c.args.intervals.now c.loop-i.chosen.items c.loop-i.solid.items are _ _ _ packing _ _ zeros spread
