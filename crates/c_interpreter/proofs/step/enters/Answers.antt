use Rattle.std.proofs.Common.{◌<◌, ◌∷◌, length, rules}
use Rattle.thread_semantics.specs.State.{Running}
use Rattle.c_state.specs.View.{state_of}
use Rattle.c_state.proofs.Slots.{slot_put, slot_same, with_slots}
use Rattle.c_interpreter.proofs.Steps.{on_any_err}
use Rattle.c_interpreter.proofs.step.enters.Goals as goal

pub returns-in_err-slot_enters-clause-unchanged : goal.returns-in_err-slot_enters-clause-unchanged
returns-in_err-slot_enters-clause-unchanged c =
    let slots = c.args.s.now.slots.items in
    let there : c.args.i < length slots = search rules in
    on_any_err c.from_residual.result
    (with_slots (state_of c.args.s.now) _ _
    (slot_same slots c.args.i c.index_mut.result.now c.slot_enters.new.slot there c.index_mut.ensures.value c.in_err-slot_enters.ensures.unchanged))

pub returns-in_ok-slot_enters-clause-entered : goal.returns-in_ok-slot_enters-clause-entered
returns-in_ok-slot_enters-clause-entered c f fs running =
    let slots = c.args.s.now.slots.items in
    let there : c.args.i < length slots = search rules in
    with_slots (state_of c.args.s.now) _ _
    (slot_put slots c.args.i c.index_mut.result.now c.slot_enters.new.slot there c.index_mut.ensures.value (Running (f ∷ fs)) _ running (c.in_ok-slot_enters.ensures.entered f fs))
