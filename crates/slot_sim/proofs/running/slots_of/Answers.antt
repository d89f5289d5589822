use Rattle.std.proofs.Common.{◌≡◌, List, ◌∷◌, [], length, slice_get, Some, ap, sym, ◌∙◌, arith, length-append}
use Rattle.slot_sim.specs.declared.slot.Slot.{Slot}
use Rattle.slot_sim.proofs.ThreadsStand.{slots_more, thread_of}
use Rattle.slot_sim.proofs.running.slots_of.Goals as goal

pub open-requires-clause-has : goal.open-requires-clause-has
open-requires-clause-has c = thread_of c.args.sim.now.modules c.args.threads c.loop-thread.thread c.requires.threaded c.requires.threads c.loop-thread-test.true

pub loop-thread-init : goal.loop-thread-init
loop-thread-init c = record {
  long = ap length c.new-slots.ensures.items;
  are = λ i s at. (let e : slice_get [] i ≡ Some s = ap (λ (l : List Slot). slice_get l i) (sym c.new-slots.ensures.items) ∙ at in absurd cc);
}

pub loop-thread-preserved : goal.loop-thread-preserved
loop-thread-preserved c = record {
  long = ap length c.in_ok-push.ensures.items ∙ (let e = c.loop-thread.invariant.long in omega (arith, e, length-append c.loop-thread.slots.items (c.in_ok-open.field-0 ∷ [])));
  are = slots_more c.args.sim.now.modules c.args.sim.now.parts c.loop-thread.slots.items c.push.new.self.items c.loop-thread.thread c.in_ok-open.field-0 c.loop-thread.invariant.long
      c.loop-thread.invariant.are c.in_ok-open.ensures.slot c.in_ok-push.ensures.items;
}
