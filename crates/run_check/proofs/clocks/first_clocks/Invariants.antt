use Rattle.std.proofs.Common.{◌≡◌, ℕ}
use Rattle.run_check.specs.Clocks.{clock}
use Rattle.run_check.proofs.clocks.first_clocks.Given as goal

abbrev pub invariant-loop : goal.invariant-loop
invariant-loop l = (j k : ℕ) → clock l.clocks.items j k ≡ 0
