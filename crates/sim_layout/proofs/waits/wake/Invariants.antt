use Rattle.std.proofs.Common.{◌≡◌, ◌≤◌, ℕ, Some, None, length, slice_get, slice_index_or}
use Rattle.sim_layout.specs.Waits.{IsListed}
use Rattle.sim_layout.proofs.WaitChains.{IsPassed}
use Rattle.sim_layout.proofs.waits.wake.Given as goal

abbrev pub invariant-loop-turn : goal.invariant-loop-turn
invariant-loop-turn l = record {
  more : length l.fn.looks.items ≤ length l.looks.items;
  behind : (j k : ℕ) → slice_get l.fn.looks.items j ≡ Some k → slice_get l.looks.items j ≡ Some k;
  keeps : (from k : ℕ) → IsListed from l.fn.looks.items k → IsListed from l.looks.items k;
  passed : IsPassed l.waits.chain.items (length l.fn.looks.items) l.looks.items (slice_index_or l.waits.last.items l.word None) l.next;
}
