use Rattle.std.proofs.Common.{◌≡◌, map, replicate}
use Rattle.thread_semantics.specs.State.{NoBarrier}
use Rattle.c_state.specs.View.{barrier_of}
use Rattle.c_state.proofs.state.first_barriers.Given as goal

abbrev pub invariant-loop : goal.invariant-loop
invariant-loop l = map barrier_of l.barriers.items ≡ replicate l.counter NoBarrier
