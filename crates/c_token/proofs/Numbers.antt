-- A number that is too large stays so with more digits, and no type holds it.
use Rattle.std.proofs.Common.{◌≡◌, ℕ, ◌+◌, ◌*◌, ◌^◌, ◌<◌, ◌≤◌, List, [], ◌∷◌, Some, None, Bool, true, false, length, get_or, refl, sym, ap, ◌∙◌, arith}
use Rattle.std.specs.Prelude.{nat_lt, nat_le, cond}
use Rattle.std.specs.List.{find}
use Rattle.std.proofs.lemmas.Bool.{ltb-false, le-ltb, lt-leb}
use Rattle.c_token.specs.declared.constant.Base.{Base}
use Rattle.c_token.specs.declared.constant.Base.TheVariants.{Decimal, Octal, Hexadecimal}
use Rattle.c_token.specs.Spelling.{Bytes}
use Rattle.c_token.specs.declared.constant.ConstantType.{ConstantType}
use Rattle.c_token.specs.declared.constant.ConstantType.TheVariants.{Int, Unsigned, Long, UnsignedLong}
use Rattle.c_token.specs.Constants.{number_from, radix, digit_value, below_two_to_64, maximum, typed, typed_by, typed_value}

step_grows : (base : Base) (n d : ℕ) → n ≤ n * radix base + d
step_grows Decimal n d = omega arith
step_grows Octal n d = omega arith
step_grows Hexadecimal n d = omega arith

number_grows : (base : Base) (n : ℕ) (z : Bytes) → n ≤ number_from base n z
unfolding number_from
number_grows base n [] = omega arith
number_grows base n (b ∷ z) = omega (arith, step_grows base n (digit_value b), number_grows base (n * radix base + digit_value b) z)

large_at : (n : ℕ) (x : Bool) → nat_lt n (2 ^ 64) ≡ x → cond x (Some n) None ≡ None → 2 ^ 64 ≤ n
large_at n true e h = cc
large_at n false e h = ltb-false n (2 ^ 64) e

is_large : (n : ℕ) → below_two_to_64 n ≡ None → 2 ^ 64 ≤ n
is_large n h = large_at n (nat_lt n (2 ^ 64)) refl h

none_below : (n : ℕ) → 2 ^ 64 ≤ n → below_two_to_64 n ≡ None
none_below n h = ap (λ x. cond x (Some n) None) (le-ltb n (2 ^ 64) h)

pub stays_large : (base : Base) (n : ℕ) (z : Bytes) → below_two_to_64 n ≡ None → below_two_to_64 (number_from base n z) ≡ None
stays_large base n z h = none_below (number_from base n z) (omega (arith, number_grows base n z, is_large n h))

none_holds : (types : List ConstantType) (n : ℕ) → 2 ^ 64 ≤ n → find (λ t. nat_le n (maximum t)) types ≡ None
none_holds [] n h = refl
none_holds (t ∷ types) n h = ap (λ x. cond x (Some t) (find (λ t. nat_le n (maximum t)) types)) (lt-leb n (maximum t) (above t n h)) ∙ none_holds types n h where
  above : (t : ConstantType) (n : ℕ) → 2 ^ 64 ≤ n → maximum t < n
  above Int n h = omega arith
  above Unsigned n h = omega arith
  above Long n h = omega arith
  above UnsignedLong n h = omega arith

typed_at : (types : List ConstantType) (n : ℕ) (x : Bool) → nat_lt n (2 ^ 64) ≡ x → typed_value types (cond x (Some n) None) ≡ typed types n
unfolding typed
typed_at types n true e = refl
typed_at types n false e = ap (typed_by n) (sym (none_holds types n (ltb-false n (2 ^ 64) e)))

pub typed_below : (types : List ConstantType) (n : ℕ) → typed_value types (below_two_to_64 n) ≡ typed types n
typed_below types n = typed_at types n (nat_lt n (2 ^ 64)) refl

-- the first digit makes the number too large
pub too_large : (base : Base) (n : ℕ) (z : Bytes) → 1 ≤ length z → below_two_to_64 (n * radix base + digit_value (get_or z 0 0)) ≡ None → below_two_to_64 (number_from base n z) ≡ None
unfolding number_from
too_large base n [] some h = absurd (omega arith)
too_large base n (b ∷ z) some h = stays_large base (n * radix base + digit_value b) z h
