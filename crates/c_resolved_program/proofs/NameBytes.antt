-- The characters of a name are its bytes.
use Rattle.std.proofs.Common.{◌≡◌, refl, ap, ◌∙◌, ℕ, ◌<◌, true, List, [], ◌∷◌, ◌++◌, arith}
use Rattle.std.specs.Prelude.{IsTrue}
use Rattle.std.specs.List.{AllByRecursion}
use Rattle.std.proofs.lemmas.Bool.Decides.{nat_tests}
use Rattle.std.proofs.lemmas.Str.Ascii.{encode_ascii}
use Rattle.c_program.specs.Resolved.{IsName, is_letter, is_letter_or_digit}
use Rattle.c_resolution.specs.Globals.{text}

letter_small : (b : ℕ) → is_letter b ≡ true → b < 128
letter_small b h = grind (arith, nat_tests)

either_small : (b : ℕ) → is_letter_or_digit b ≡ true → b < 128
either_small b h = grind (arith, nat_tests)

rest_is : (bytes : List ℕ) → AllByRecursion (λ byte. IsTrue (is_letter_or_digit byte)) bytes → text bytes ≡ bytes
rest_is [] all = refl
rest_is (b ∷ bytes) all =
    ap (λ l. l ++ text bytes) (encode_ascii b (either_small b all.0)) ∙ ap (λ l. b ∷ l) (rest_is bytes all.1)

pub text_is : (bytes : List ℕ) → IsName bytes → text bytes ≡ bytes
text_is [] is = absurd is
text_is (b ∷ bytes) is = ap (λ l. l ++ text bytes) (encode_ascii b (letter_small b is.0)) ∙ ap (λ l. b ∷ l) (rest_is bytes is.1)
