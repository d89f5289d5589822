use Rattle.std.proofs.Common.{◌≡◌, replicate}
use Rattle.thread_layout.proofs.layout.zeros.Given as goal

abbrev pub invariant-loop : goal.invariant-loop
invariant-loop l = l.zeros ≡ replicate l.counter 0
