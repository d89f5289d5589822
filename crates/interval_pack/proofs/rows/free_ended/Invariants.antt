use Rattle.std.proofs.Common.{◌≡◌, ℕ, ◌≤◌, List}
use Rattle.std.specs.BTreeSet.{btree_set_len}
use Rattle.interval_pack.specs.FreeRows.{AreRows}
use Rattle.interval_pack.proofs.rows.free_ended.Given as goal

abbrev pub invariant-loop-row : goal.invariant-loop-row
invariant-loop-row l = record {
  are : (ends : List ℕ) (before : ℕ) → before ≤ l.place → AreRows ends before l.initial.rows → AreRows ends l.place l.rows;
  count : l.rows.count ≡ l.initial.rows.count;
}

abbrev pub decreases-loop-row : goal.decreases-loop-row
decreases-loop-row l = btree_set_len l.rows.busy
