use Rattle.std.proofs.Common.{◌≡◌, ◌<◌, ◌≤◌, ◌∷◌, length, rules}
use Rattle.thread_semantics.specs.State.{Running}
use Rattle.c_state.specs.View.{slot_of, state_of}
use Rattle.c_state.proofs.Slots.{slot_is, slot_put, not_seen, with_both}
use Rattle.c_interpreter.proofs.step.goes_on.Goals as goal

pub returns-then-k-len : goal.returns-then-k-len
returns-then-k-len c f fs running =
    let slots = c.args.s.now.slots.items in
    let there : c.args.i < length slots = search rules in
    let is : slot_of c.index_mut.result.now ≡ Running (f ∷ fs) =
    slot_is slots c.args.i c.index_mut.result.now c.slot_goes_on.new.slot there c.index_mut.ensures.value (Running (f ∷ fs)) running in
    with_both (state_of c.args.s.now) _ _ _ _ (c.slot_goes_on.ensures.globals f fs is)
    (slot_put slots c.args.i c.index_mut.result.now c.slot_goes_on.new.slot there c.index_mut.ensures.value (Running (f ∷ fs)) _ running (c.slot_goes_on.ensures.slot f fs))

pub returns-else-k-len : goal.returns-else-k-len
returns-else-k-len c f fs running =
    let past : length c.args.s.now.slots.items ≤ c.args.i = search rules in
    absurd (not_seen slot_of c.args.s.now.slots.items c.args.i (Running (f ∷ fs)) past running)
