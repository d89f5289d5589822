-- Steps that wait for words, in chains.
use Rattle.std.specs.Prelude.{◌≡◌, ℕ, ◌≤◌, List, Option, Some, None, slice_get, slice_index_or}
use Rattle.sim_layout.specs.declared.waits.Wait.{Wait}

module _ (chain : List Wait) (step : ℕ) where
  -- the step stands in the chain that ends with the wait of a number
  pub data IsInChain : Option ℕ → Type 0 where
    Here : {n : ℕ} (w : Wait) → slice_get chain n ≡ Some w → w.step ≡ step → IsInChain (Some n)
    Before : {n : ℕ} (w : Wait) → slice_get chain n ≡ Some w → IsInChain w.before → IsInChain (Some n)

-- a step waits for a word
abbrev pub IsWaiting : List (Option ℕ) → List Wait → ℕ → ℕ → Type 0
IsWaiting last chain word step = IsInChain chain step (slice_index_or last word None)

-- a step is on a list, from a place on
abbrev pub IsListed : ℕ → List ℕ → ℕ → Type 0
IsListed from steps k = (j : ℕ) × (from ≤ j) × (slice_get steps j ≡ Some k)
