use Rattle.std.proofs.Common.{◌≡◌, drop, map}
use Rattle.std.specs.List.{list_all}
use Rattle.thread_semantics.specs.Step.{is_unused}
use Rattle.c_state.specs.View.{slot_of}
use Rattle.c_state.proofs.threads.all_unused.Given as goal

abbrev pub invariant-loop-slot : goal.invariant-loop-slot
invariant-loop-slot l =
    list_all is_unused (map slot_of l.slots) ≡ list_all is_unused (map slot_of (drop l.slot-index l.slots))
