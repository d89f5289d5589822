use Rattle.std.proofs.Common.{◌≡◌, ℕ, ◌<◌, length, get_or, if◌then◌else◌, nat_lt, Some, None}
use Rattle.interval_pack.specs.Packing.{at}
use Rattle.register_binding.proofs.lives.rows_of.Given as goal

abbrev pub invariant-loop-i : goal.invariant-loop-i
invariant-loop-i l = record {
  count : length l.rows.items ≡ l.i;
  each : (i : ℕ) → i < l.i → get_or l.rows.items i None ≡ (if nat_lt (at l.lives i).start (at l.lives i).end then Some (get_or l.row i 0) else None);
}
