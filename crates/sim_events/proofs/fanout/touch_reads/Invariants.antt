use Rattle.std.proofs.Common.{◌≡◌, ◌<◌, ℕ, Some, length, slice_get}
use Rattle.sim_values.specs.Order.{reads}
use Rattle.sim_layout.specs.Waits.{IsWaiting}
use Rattle.sim_events.proofs.fanout.touch_reads.Given as goal

abbrev pub invariant-loop-index : goal.invariant-loop-index
invariant-loop-index l = record {
  long : length l.touched.last.items ≡ length l.initial.touched.last.items;
  keeps : (w k : ℕ) → IsWaiting l.initial.touched.last.items l.initial.touched.chain.items w k → IsWaiting l.touched.last.items l.touched.chain.items w k;
  reads : (j y : ℕ) → j < l.index → slice_get (reads l.modules l.feed) j ≡ Some y → y < length l.initial.touched.last.items
      → IsWaiting l.touched.last.items l.touched.chain.items y l.number;
}
