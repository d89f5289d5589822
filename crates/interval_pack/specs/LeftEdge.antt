-- Numbers given by the left edge (Hashimoto and Stevens 1971; for registers Kurdahi and Parker 1987):
-- things are taken by start and then by index, and each has the least number that no earlier one has
-- which it clashes with. Rows of intervals, functional units and registers are all numbered so.
use Rattle.std.specs.Prelude.{◌≡◌, ◌≢◌, ℕ, ◌<◌, ◌⊎◌}

-- thing i is taken before thing j
abbrev pub IsBefore : (ℕ → ℕ) → ℕ → ℕ → Type 0
IsBefore start i j = (start i < start j) ⊎ ((start i ≡ start j) × (i < j))

-- the things are those below n
pub record IsLeftEdge (n : ℕ) (start : ℕ → ℕ) (Clash : ℕ → ℕ → Type 0) (number : ℕ → ℕ) : Type 0 where
  -- two that clash have different numbers
  pub apart : (i j : ℕ) → i < n → j < n → IsBefore start i j → Clash i j → number i ≢ number j
  -- each number below that of j is had by an earlier thing which j clashes with
  pub least : (j r : ℕ) → j < n → r < number j → (i : ℕ) × (i < n) × IsBefore start i j × Clash i j × (number i ≡ r)
