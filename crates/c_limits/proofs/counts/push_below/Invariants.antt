use Rattle.std.proofs.Common.{◌≡◌, ℕ, ◌++◌, take, filter, nat_lt}
use Rattle.c_limits.proofs.counts.push_below.Given as goal

abbrev pub invariant-loop-f : goal.invariant-loop-f
invariant-loop-f l = l.ordered.items ≡ l.initial.ordered.items ++ filter (λ (f : ℕ). nat_lt f l.bound) (take l.f-index l.functions)
