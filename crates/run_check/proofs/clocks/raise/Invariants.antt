use Rattle.std.proofs.Common.{◌≡◌, length}
use Rattle.run_check.proofs.Rows.{IsRaising}
use Rattle.run_check.proofs.clocks.raise.Given as goal

abbrev pub invariant-loop-k : goal.invariant-loop-k
invariant-loop-k l = record {
  raised : IsRaising l.fn.clock.items l.clock.items l.other l.k;
  lengths : length l.clock.items ≡ length l.fn.clock.items;
}
