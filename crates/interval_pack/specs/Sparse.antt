-- Intervals packed into rows by the left edge, where some have no place: these meet none.
use Rattle.std.specs.Prelude.{◌≡◌, ℕ, ◌<◌, ◌≤◌, List, length, slice_index}
use Rattle.interval_pack.specs.declared.interval.Interval.{Interval}
use Rattle.interval_pack.specs.LeftEdge.{IsLeftEdge}
use Rattle.interval_pack.specs.Packing.{at, start_of, Meet, crowd_at}

abbrev pub HasPlace : Interval → Type 0
HasPlace a = a.start < a.end

-- the two have a place in common
abbrev pub Share : List Interval → ℕ → ℕ → Type 0
Share intervals i j = HasPlace (at intervals i) × HasPlace (at intervals j) × Meet (at intervals i) (at intervals j)

pub record IsSparsePacking (intervals : List Interval) (row : List ℕ) (rows : ℕ) (crowded : ℕ) : Type 0 where
  pub count : length row ≡ length intervals
  -- by start and then by index each interval has the least row that no earlier one has with which it has a place in common
  pub packed : IsLeftEdge (length intervals) (start_of intervals) (Share intervals) (slice_index row)
  pub below : (i : ℕ) → i < length intervals → HasPlace (at intervals i) → slice_index row i < rows
  -- nowhere do more than `rows` meet; so many meet at `crowded`, and fewer at each place before it
  pub most : (p : ℕ) → crowd_at intervals p ≤ rows
  pub crowd : crowd_at intervals crowded ≡ rows
  pub first : (p : ℕ) → p < crowded → crowd_at intervals p < rows
