-- How many banks a global has, and how many words each of them.
use Rattle.std.specs.Prelude.{◌≡◌, ℕ, zero, suc, ◌+◌, ◌%◌, ◌^◌, ◌≤◌, Bool, nat_eq, nat_le, if◌then◌else◌, min}

-- the least power of two from a number on, but at most 8
abbrev pub power_from : ℕ → ℕ
power_from n = if nat_le n 1 then 1 else (if nat_le n 2 then 2 else (if nat_le n 4 then 4 else 8))

-- the greatest power of two up to a number, but at most 8; of 0 it is 1
abbrev pub power_within : ℕ → ℕ
power_within n = if nat_le 8 n then 8 else (if nat_le 4 n then 4 else (if nat_le 2 n then 2 else 1))

-- of a global of this length that so many hardware threads name: the least power of two that is at least their number,
-- but at most 8 and at most the length, rounded down to a power of two
abbrev pub bank_count : ℕ → ℕ → ℕ
bank_count threads long = power_within (min (power_from threads) long)

-- ---- the same in other words

pub record IsPower (n : ℕ) : Type 0 where
  pub exponent : ℕ
  pub is : n ≡ 2 ^ exponent

-- a number of banks is at most 8, at most the length, and at most each power of two that is at least the number of threads
pub record IsAllowed (threads long n : ℕ) : Type 0 where
  pub most : n ≤ 8
  pub filled : n ≤ long
  pub wanted : (power : ℕ) → IsPower power → threads ≤ power → n ≤ power

-- it is the greatest power of two that is allowed
pub record IsBankCount (threads long n : ℕ) : Type 0 where
  pub power : IsPower n
  pub allowed : IsAllowed threads long n
  pub greatest : (other : ℕ) → IsPower other → IsAllowed threads long other → other ≤ n

-- ---- words

abbrev pub one_if : Bool → ℕ
one_if b = if b then 1 else 0

-- how many elements below number n are in bank k of so many: element j is in bank j modulo their number
abbrev pub words_of : ℕ → ℕ → ℕ → ℕ
words_of count k zero = 0
words_of count k (suc n) = words_of count k n + one_if (nat_eq (n % count) k)
