-- Numbers of lists as Rust reads them.
use Rattle.std.proofs.Common.{◌≡◌, ℕ, ◌<◌, ◌^◌, Bool, List, true, false, refl, sym, ap, ◌∙◌, [], ◌∷◌, length}
use Rattle.std.specs.Prelude.{Some, None, Result, Ok, Err, nat_lt, ◌&&◌, if◌then◌else◌}
use Rattle.std.proofs.lemmas.Bool.{ltb-true, lt-ltb, and_parts, cond-true}
use Rattle.std.specs.List.{list_all}
use Rattle.std.specs.Char.{digit_value}
use Rattle.std.specs.Str.Parse.{AllDigits, IsNumeral, ParsesUnsigned, digits_value, without_leading_plus}
use Rattle.std.specs.Result.{result_ok}
use Rattle.std.specs.declared.num.ParseIntError.{ParseIntError}
use Rattle.turns.specs.Turns.{is_decimal, read_number}

passes_all : (ds : List ℕ) → AllDigits 10 ds → list_all (λ d. nat_lt (digit_value d) 10) ds ≡ true
passes_all [] h = refl
passes_all (d ∷ ds) h = rw (lt-ltb (digit_value d) 10 h.0) (passes_all ds h.1)

passed_all : (ds : List ℕ) → list_all (λ d. nat_lt (digit_value d) 10) ds ≡ true → AllDigits 10 ds
passed_all [] e = tt
passed_all (d ∷ ds) e = let parts = and_parts _ _ e in (ltb-true _ _ parts.0, passed_all ds parts.1)

pub passes : (ds : List ℕ) → IsNumeral 10 ds → digits_value 10 ds < 2 ^ 32 → (is_decimal ds && nat_lt (digits_value 10 ds) (2 ^ 32)) ≡ true
passes ds numeral below = rw (lt-ltb 0 (length ds) numeral.0, passes_all ds numeral.1, lt-ltb (digits_value 10 ds) (2 ^ 32) below) refl

pub passed : (ds : List ℕ) → (is_decimal ds && nat_lt (digits_value 10 ds) (2 ^ 32)) ≡ true → IsNumeral 10 ds × (digits_value 10 ds < 2 ^ 32)
passed ds e =
    let parts = and_parts _ _ e in
    let numeral = and_parts _ _ parts.0 in
    ((ltb-true _ _ numeral.0, passed_all _ numeral.1), ltb-true _ _ parts.1)

pub dropped : (b : Bool) (n : ℕ) → ¬ (b ≡ true) → None ≡ (if b then Some n else None)
dropped true n fails = absurd (fails refl)
dropped false n fails = refl

pub reads : (t : List ℕ) (r : Result ℕ ParseIntError) → ParsesUnsigned 32 10 t r → result_ok r ≡ read_number t
reads t (Ok v) h = ap (λ (n : ℕ). Some n) h.1 ∙ sym (cond-true _ (Some _) None (passes (without_leading_plus t) h.0.0 h.0.1))
reads t (Err e) h = dropped _ _ (λ passing. h (passed (without_leading_plus t) passing))
