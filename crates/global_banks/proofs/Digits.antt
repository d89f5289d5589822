-- The test on digits passes the minimal ones, and no others.
use Rattle.std.specs.Prelude.{◌≡◌, ℕ, ◌<◌, ◌≤◌, ◌⊎◌, Bool, true, false, ◌||◌, nat_eq, nat_lt, List, [], ◌∷◌, length, Some, refl}
use Rattle.std.specs.Str.Parse.{AllDigits}
use Rattle.std.proofs.Common.{ap, inl, inr, ⊎_elim, arith}
use Rattle.std.proofs.lemmas.Bool.Decides.{nat_tests}
use Rattle.std.proofs.lemmas.Option.{same_Some}
use Rattle.std.proofs.lemmas.Str.{digit_value_digit}
use Rattle.std.proofs.lemmas.Str.Parse.{digit_from_value}
use Rattle.std.proofs.lemmas.Bool.{or_cases, or_left, or_right, and_parts, and_from}
use Rattle.verilog_meaning.specs.Names.{IsMinimal}
use Rattle.global_banks.specs.Banks.{is_digit, are_digits, leads, is_decimal}

-- ---- what passes

digit_passes : (c : ℕ) → 48 ≤ c → c ≤ 57 → is_digit c ≡ true
digit_passes c low high = grind (arith, nat_tests)

digits_pass : (ds : List ℕ) → AllDigits 10 ds → are_digits ds ≡ true
digits_pass [] d = refl
digits_pass (c ∷ cs) d =
    let k = digit_from_value c d.0 in
    and_from (is_digit c) (are_digits cs) (digit_passes c (omega (arith, k)) (omega (arith, k))) (digits_pass cs d.1)

leads_by : (c : ℕ) (cs : List ℕ) (b : Bool) → nat_lt 48 c ≡ b → 48 ≤ c → (Some c ≡ Some 48 → length (c ∷ cs) ≡ 1) → leads (Some c) (length (c ∷ cs)) ≡ true
leads_by c cs true e low alone = or_left (nat_lt 48 c) (nat_eq (length (c ∷ cs)) 1) e
leads_by c cs false e low alone =
    let same : c ≡ 48 = grind (arith, nat_tests) in
    let one = alone (ap (λ z. Some z) same) in
    or_right (nat_lt 48 c) (nat_eq (length (c ∷ cs)) 1) (grind (arith, nat_tests))

pub minimal_passes : (ds : List ℕ) → IsMinimal ds → is_decimal ds ≡ true
minimal_passes [] is = let some = is.0.0 in absurd (omega (arith, some))
minimal_passes (c ∷ cs) is =
    let k = digit_from_value c is.0.1.0 in
    and_from (are_digits (c ∷ cs)) (leads (Some c) (length (c ∷ cs))) (digits_pass (c ∷ cs) is.0.1) (leads_by c cs (nat_lt 48 c) refl (omega (arith, k)) is.1)

-- ---- what is passed

passed_digit : (c : ℕ) → is_digit c ≡ true → (48 ≤ c) × (c ≤ 57)
passed_digit c e = (grind (arith, nat_tests), grind (arith, nat_tests))

passed_digits : (ds : List ℕ) → are_digits ds ≡ true → AllDigits 10 ds
passed_digits [] e = tt
passed_digits (c ∷ cs) e =
    let parts = and_parts (is_digit c) (are_digits cs) e in
    let k = passed_digit c parts.0 in
    let value = digit_value_digit c k in
    (omega (arith, k, value), passed_digits cs parts.1)

passed_lead : (c : ℕ) (cs : List ℕ) → leads (Some c) (length (c ∷ cs)) ≡ true → Some c ≡ Some 48 → length (c ∷ cs) ≡ 1
passed_lead c cs e first =
    let same : c ≡ 48 = same_Some c 48 first in
    ⊎_elim
    (λ (high : nat_lt 48 c ≡ true). let l : 48 < c = grind (arith, nat_tests) in absurd (omega (arith, l, same)))
    (λ (one : nat_eq (length (c ∷ cs)) 1 ≡ true). let z : length (c ∷ cs) ≡ 1 = grind (arith, nat_tests) in z)
    (or_cases (nat_lt 48 c) (nat_eq (length (c ∷ cs)) 1) e)

pub passed_minimal : (ds : List ℕ) → is_decimal ds ≡ true → IsMinimal ds
passed_minimal [] e = absurd cc
passed_minimal (c ∷ cs) e =
    let parts = and_parts (are_digits (c ∷ cs)) (leads (Some c) (length (c ∷ cs))) e in
    ((omega arith, passed_digits (c ∷ cs) parts.0), passed_lead c cs parts.1)
