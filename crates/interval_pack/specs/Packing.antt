-- Intervals packed into rows by the left edge.
use Rattle.std.specs.Prelude.{◌≡◌, ℕ, ◌<◌, List, length, slice_index, slice_index_or, nat_lt, nat_le, ◌&&◌, count_by}
use Rattle.interval_pack.specs.declared.interval.Interval.{Interval}
use Rattle.interval_pack.specs.LeftEdge.{IsLeftEdge}

abbrev pub nowhere : Interval
nowhere = record { start = 0; end = 0 }

abbrev pub at : List Interval → ℕ → Interval
at intervals i = slice_index_or intervals i nowhere

abbrev pub start_of : List Interval → ℕ → ℕ
start_of intervals i = (at intervals i).start

-- two intervals, each of which has a place, have one in common
abbrev pub Meet : Interval → Interval → Type 0
Meet a b = (a.start < b.end) × (b.start < a.end)

-- how many intervals the place p is in
abbrev pub crowd_at : List Interval → ℕ → ℕ
crowd_at intervals p = count_by (λ a. nat_le a.start p && nat_lt p a.end) intervals

pub record IsPacking (intervals : List Interval) (row : List ℕ) (rows : ℕ) (crowded : ℕ) : Type 0 where
  pub count : length row ≡ length intervals
  -- by start and then by index each interval has the least row that no earlier one has which it meets
  pub packed : IsLeftEdge (length intervals) (start_of intervals) (λ i j. Meet (at intervals i) (at intervals j)) (slice_index row)
  -- the rows are those below `rows`
  pub below : (i : ℕ) → i < length intervals → slice_index row i < rows
  -- so many intervals meet at `crowded`, and fewer at each place before it
  pub crowd : crowd_at intervals crowded ≡ rows
  pub first : (p : ℕ) → p < crowded → crowd_at intervals p < rows
