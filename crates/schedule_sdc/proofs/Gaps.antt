-- How late a start can be.
use Rattle.std.proofs.Common.{ℕ, ◌<◌, ◌≤◌, ◌*◌, ◌+◌, ◌^◌, arith}

-- one more constraint adds at most the largest gap that there can be
pub one_more : (a d v : ℕ) → a ≤ d * 2 ^ 63 → v ≤ a + 2 ^ 63 → v ≤ (d + 1) * 2 ^ 63
one_more a d v small near = omega arith

pub in_range : (n d a : ℕ) → d < n → n < 2 ^ 64 → a ≤ d * 2 ^ 63 → a < 2 ^ 127
in_range n d a deep fits small = omega arith
