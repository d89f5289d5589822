-- Numbers of a journal: decimals without leading zeros, of 1 to 10 digits.
use Rattle.std.specs.Prelude.{◌≡◌, ℕ, ◌+◌, ◌-◌, ◌*◌, ◌^◌, ◌<◌, List, [], ◌∷◌, decimal}

-- the number that digits behind a number make of it
abbrev pub read_on : ℕ → List ℕ → ℕ
read_on n [] = n
read_on n (c ∷ cs) = read_on (10 * n + (c - 48)) cs

-- a text is this number
pub record IsNumber (text : List ℕ) (n : ℕ) : Type 0 where
  pub is : text ≡ decimal n
  pub few : n < 10 ^ 10
