-- The path to an instance.
use Rattle.std.specs.Prelude.{ℕ, ◌<◌, ◌≤◌, List, [], ◌∷◌, length, Option, Some, None, slice_index}
use Rattle.verilog_meaning.specs.Cycles.{Path}
use Rattle.sim_values.specs.Tree.{place_in}

-- of so many instances, the one in which the one at a place stands: the last whose first instance stands no later
pub record IsOuter (children : List ℕ) (count place outer : ℕ) : Type 0 where
  pub within : outer < count
  pub first : slice_index children outer ≤ place
  pub last : (k : ℕ) → outer < k → k < count → place < slice_index children k

-- it stands in none of them
abbrev pub IsOutermost : List ℕ → ℕ → ℕ → Type 0
IsOutermost children count place = (k : ℕ) → k < count → place < slice_index children k

abbrev pub IsOuterPlace : List ℕ → ℕ → ℕ → Option ℕ → Type 0
IsOuterPlace children count place (Some outer) = IsOuter children count place outer
IsOuterPlace children count place None = IsOutermost children count place

-- those behind so many have their first instance later than a place
abbrev pub AreBehind : List ℕ → ℕ → ℕ → Type 0
AreBehind children count place = (k : ℕ) → count ≤ k → k < length children → place < slice_index children k

-- each instance on the path stands in the next one, and the last in none
abbrev pub IsNested : List ℕ → Path → Type 0
IsNested children [] = IsOutermost children (length children) 0
IsNested children (i ∷ outer) = IsOuter children (length children) (place_in children (i ∷ outer)) (place_in children outer) × IsNested children outer
