-- Tests that hold.
use Rattle.std.proofs.Common.{◌≡◌, ℕ, ◌+◌, ◌^◌, ◌<◌, ◌%◌, [], ◌∷◌, ◌++◌, Bool, true, false, refl, sym, ap, ◌∙◌, arith}
use Rattle.std.specs.Prelude.{not, ◌&&◌, ◌||◌, decimal}
use Rattle.std.specs.Str.{bytes_eq}
use Rattle.std.specs.Char.{is_ascii_digit}
use Rattle.std.proofs.lemmas.Bool.{eq-eqb}
pub use Rattle.std.proofs.lemmas.Bool.{and_from as and_both}
use Rattle.std.proofs.lemmas.Bool.Decides.{nat_tests}
use Rattle.std.proofs.lemmas.Fmt.{decimal_by_steps}
use Rattle.verilog_tree.specs.Spelling.{Text, all_pass}

pub and_left : (a b : Bool) → (a && b) ≡ true → a ≡ true
and_left true b e = refl
and_left false b e = e

pub and_right : (a b : Bool) → (a && b) ≡ true → b ≡ true
and_right true b e = e
and_right false b e = cc

pub bytes_same : (z : Text) → bytes_eq z z ≡ true
bytes_same [] = refl
bytes_same (b ∷ z) = ap (λ x. x && bytes_eq z z) (eq-eqb b b refl) ∙ bytes_same z

-- ---- texts whose bytes all pass a test

pub all_pass-append : (p : ℕ → Bool) (x y : Text) → all_pass p x ≡ true → all_pass p y ≡ true → all_pass p (x ++ y) ≡ true
all_pass-append p [] y h k = k
all_pass-append p (b ∷ x) y h k = and_both (p b) _ (and_left _ _ h) (all_pass-append p x y (and_right (p b) _ h) k)

-- ---- the digits of a number

digit_of : (n : ℕ) → n < 10 → is_ascii_digit (48 + n) ≡ true
digit_of n lt = grind (arith, nat_tests)

-- at least one, and all are digits
pub record Digits (ds : Text) : Type 0 where
  pub first : ℕ
  pub others : Text
  pub is : ds ≡ first ∷ others
  pub digits : all_pass is_ascii_digit (first ∷ others) ≡ true

pub digits_of : (n : ℕ) → n < 2 ^ 64 → Digits (decimal n)
digits_of n lt = decimal_by_steps (λ n ds. Digits ds)
    (λ n lt. record { first = 48 + n; others = []; is = refl; digits = and_both _ true (digit_of n lt) refl })
    (λ n ds le h. record {
      first = h.first;
      others = h.others ++ ((48 + n % 10) ∷ []);
      is = ap (λ l. l ++ ((48 + n % 10) ∷ [])) h.is;
      digits = all_pass-append is_ascii_digit (h.first ∷ h.others) ((48 + n % 10) ∷ []) h.digits (and_both _ true (digit_of (n % 10) (omega arith)) refl);
    })
    n lt
