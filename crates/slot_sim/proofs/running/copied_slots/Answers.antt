use Rattle.std.proofs.Common.{◌≡◌, ◌∷◌, [], length, slice_get, Some, ap, sym, ◌∙◌, arith, length-append}
use Rattle.std.proofs.lemmas.Option.{slice_get-get_or}
use Rattle.slot_sim.proofs.ThreadsStand.{copies_more}
use Rattle.slot_sim.proofs.running.copied_slots.Goals as goal

pub loop-number-preserved : goal.loop-number-preserved
loop-number-preserved c =
    let there : slice_get c.args.slots.now c.loop-number.number ≡ Some c.index-slots-number.result =
    slice_get-get_or c.args.slots.now c.loop-number.number c.index-slots-number.result c.loop-number-test.true ∙ ap Some (sym c.index-slots-number.is) in
    record {
      long = ap length c.in_ok-push.ensures.items ∙ (let e = c.loop-number.invariant.long in omega (arith, e, length-append c.loop-number.copies.items (c.in_ok-copy.field-0 ∷ [])));
      are = copies_more c.args.slots.now c.loop-number.copies.items c.push.new.self.items c.loop-number.number c.index-slots-number.result c.in_ok-copy.field-0 c.loop-number.invariant.long there
          c.in_ok-copy.ensures c.loop-number.invariant.are c.in_ok-push.ensures.items;
    }
