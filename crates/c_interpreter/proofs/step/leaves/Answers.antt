use Rattle.std.proofs.Common.{◌<◌, ◌∷◌, length, rules}
use Rattle.thread_semantics.specs.State.{Running}
use Rattle.c_state.specs.View.{state_of}
use Rattle.c_state.proofs.Slots.{slot_put, with_slots}
use Rattle.c_interpreter.proofs.step.leaves.Goals as goal

pub returns-then-k-len : goal.returns-then-k-len
returns-then-k-len c f g gs running =
    let slots = c.args.s.now.slots.items in
    let there : c.args.i < length slots = search rules in
    with_slots (state_of c.args.s.now) _ _
    (slot_put slots c.args.i c.index_mut.result.now c.slot_leaves.new.slot there c.index_mut.ensures.value (Running (f ∷ g ∷ gs)) _ running (c.slot_leaves.ensures f g gs))
