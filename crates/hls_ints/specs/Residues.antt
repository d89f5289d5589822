-- Whole numbers and the words of w bits that stand for them in two's complement (C99 6.2.6.2).
use Rattle.std.specs.Prelude.{ℕ, ◌-◌, ◌%◌, ◌^◌, ◌/◌, Bool, if◌then◌else◌, nat_lt, ℤ, pos, negsuc, ◌-ℤ◌}

-- z modulo 2 ^ w, from 0 on; negsuc n is -(n + 1)
unfoldable pub residue_of : ℕ → ℤ → ℕ
residue_of w (pos n) = n % 2 ^ w
residue_of w (negsuc n) = 2 ^ w - 1 - n % 2 ^ w

-- the number that a word of w bits spells in two's complement
unfoldable pub signed_value_of : ℕ → ℕ → ℤ
signed_value_of w n = if nat_lt n (2 ^ (w - 1)) then pos n else pos n -ℤ pos (2 ^ w)

-- z / m, rounded down
abbrev pub floor_quotient : ℤ → ℕ → ℤ
floor_quotient (pos n) m = pos (n / m)
floor_quotient (negsuc n) m = negsuc (n / m)

-- 1 for true and 0 for false
abbrev pub bit_of : Bool → ℕ
bit_of b = if b then 1 else 0
