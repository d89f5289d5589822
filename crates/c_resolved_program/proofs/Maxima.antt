-- Numbers in order, and the greater of two.
use Rattle.std.proofs.Common.{ℕ, ◌<◌, ◌≤◌, arith}
use Rattle.std.specs.Prelude.{max}

pub below_of : (a b c : ℕ) → a ≤ b → b < c → a < c
below_of a b c h k = omega arith

pub first_of_max : (a b m : ℕ) → max a b ≤ m → a ≤ m
first_of_max a b m h = grind arith

pub second_of_max : (a b m : ℕ) → max a b ≤ m → b ≤ m
second_of_max a b m h = grind arith

pub max_of_both : (a b m : ℕ) → a ≤ m → b ≤ m → max a b ≤ m
max_of_both a b m h k = grind arith

pub below_first : (a b m : ℕ) → m < a → m < max a b
below_first a b m h = grind arith

pub below_second : (a b m : ℕ) → m < b → m < max a b
below_second a b m h = grind arith
