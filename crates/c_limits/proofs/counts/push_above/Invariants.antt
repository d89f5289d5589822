use Rattle.std.proofs.Common.{◌≡◌, ℕ, ◌++◌, take, filter, nat_lt}
use Rattle.c_limits.proofs.counts.push_above.Given as goal

abbrev pub invariant-loop-f : goal.invariant-loop-f
invariant-loop-f l = l.ordered.items ≡ l.initial.ordered.items ++ filter (λ (f : ℕ). nat_lt l.bound f) (take l.f-index l.functions)
