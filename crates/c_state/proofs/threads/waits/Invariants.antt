use Rattle.std.proofs.Common.{◌≡◌, drop, map}
use Rattle.std.specs.List.{list_any}
use Rattle.thread_semantics.specs.Step.{is_waiter}
use Rattle.c_state.specs.View.{barrier_of}
use Rattle.c_state.proofs.threads.waits.Given as goal

abbrev pub invariant-loop-barrier : goal.invariant-loop-barrier
invariant-loop-barrier l =
    list_any (is_waiter l.i) (map barrier_of l.barriers) ≡
    list_any (is_waiter l.i) (map barrier_of (drop l.barrier-index l.barriers))
