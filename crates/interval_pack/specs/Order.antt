-- The order in which intervals are packed, and one step of the packing.
use Rattle.std.specs.Prelude.{◌≡◌, ℕ, ◌<◌, ◌≤◌, List, [], ◌∷◌, ◌++◌, length, slice_index, slice_set, slice_index_or, ◌⊎◌}
use Rattle.interval_pack.specs.declared.interval.Interval.{Interval}
use Rattle.interval_pack.specs.Packing.{at}

abbrev pub no_key : ℕ × ℕ
no_key = (0, 0)

abbrev pub key : List (ℕ × ℕ) → ℕ → ℕ × ℕ
key keys a = slice_index_or keys a no_key

-- the start and the index of each interval, once, by start and then by index
pub record IsOrder (intervals : List Interval) (keys : List (ℕ × ℕ)) : Type 0 where
  pub count : length keys ≡ length intervals
  pub index : (a : ℕ) → a < length keys → (key keys a).1 < length intervals
  pub start : (a : ℕ) → a < length keys → (key keys a).0 ≡ (at intervals (key keys a).1).start
  pub covers : (i : ℕ) → i < length intervals → (a : ℕ) × (a < length keys) × ((key keys a).1 ≡ i)
  pub rising : (a b : ℕ) → a < b → b < length keys → ((key keys a).0 < (key keys b).0) ⊎ (((key keys a).0 ≡ (key keys b).0) × ((key keys a).1 < (key keys b).1))

-- row r is the first that is free at the interval's start, or a new one which begins there
abbrev pub IsTaken : Interval → List ℕ → ℕ → List ℕ → ℕ → ℕ → Type 0
IsTaken interval ends crowded ends' crowded' r =
    ((r < length ends) × (slice_index ends r ≤ interval.start) × (ends' ≡ slice_set ends r interval.end) × (crowded' ≡ crowded))
    ⊎ ((r ≡ length ends) × (ends' ≡ ends ++ interval.end ∷ []) × (crowded' ≡ interval.start))

-- interval i goes into the first row that is free at its start, or into a new one
abbrev pub IsPut : ℕ → Interval → List ℕ → List ℕ → ℕ → List ℕ → List ℕ → ℕ → Type 0
IsPut i interval row ends crowded row' ends' crowded' =
    (r : ℕ) × (row' ≡ slice_set row i r) × ((q : ℕ) → q < r → interval.start < slice_index ends q) × IsTaken interval ends crowded ends' crowded' r
