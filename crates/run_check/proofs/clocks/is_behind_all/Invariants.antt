use Rattle.std.proofs.Common.{ℕ, ◌<◌, ◌≤◌}
use Rattle.std.specs.Prelude.{slice_index}
use Rattle.run_check.specs.Clocks.{clock}
use Rattle.run_check.proofs.clocks.is_behind_all.Given as goal

abbrev pub invariant-loop-k : goal.invariant-loop-k
invariant-loop-k l = (j : ℕ) → j < l.k → clock l.clocks j j ≤ slice_index l.heard j
