-- Numbers given to some places of a list.
use Rattle.std.specs.Prelude.{◌≡◌, ◌≢◌, ℕ, ◌<◌, List, length, slice_index}

pub record IsRisingBelow (n : ℕ) (chosen : List ℕ) : Type 0 where
  pub rising : (a b : ℕ) → a < b → b < length chosen → slice_index chosen a < slice_index chosen b
  pub below : (a : ℕ) → a < length chosen → slice_index chosen a < n

-- the first k chosen places have their numbers
pub record IsSpread (k : ℕ) (chosen row old new : List ℕ) : Type 0 where
  pub count : length new ≡ length old
  pub given : (a : ℕ) → a < k → slice_index new (slice_index chosen a) ≡ slice_index row a
  pub others : (i : ℕ) → ((a : ℕ) → a < k → slice_index chosen a ≢ i) → slice_index new i ≡ slice_index old i
