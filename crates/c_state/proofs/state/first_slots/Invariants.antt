use Rattle.std.proofs.Common.{◌≡◌, ◌∷◌, map, replicate}
use Rattle.thread_semantics.specs.State.{Unused}
use Rattle.c_state.specs.View.{slot_of}
use Rattle.c_state.proofs.state.first_slots.Given as goal

abbrev pub invariant-loop : goal.invariant-loop
invariant-loop l = map slot_of l.slots.items ≡ slot_of l.fn.main ∷ replicate l.counter Unused
