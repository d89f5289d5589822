use Rattle.std.proofs.Common.{◌≡◌, ◌++◌, replicate}
use Rattle.c_state.proofs.state.push_mutexes.Given as goal

abbrev pub invariant-loop : goal.invariant-loop
invariant-loop l = l.mutexes.items ≡ l.fn.mutexes.items ++ replicate l.counter l.state
