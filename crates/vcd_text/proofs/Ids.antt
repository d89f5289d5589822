-- An identifier, digit by digit.
use Rattle.std.proofs.Common.{◌≡◌, ◌++◌, ◌∷◌, [], ◌+◌, ◌-◌, ◌/◌, ◌%◌, ◌<◌, ℕ, suc, List, ap, sym, ◌∙◌, append_assoc, arith, Bool}
use Rattle.std.specs.Prelude.{if◌then◌else◌}
use Rattle.std.proofs.lemmas.Bool.{ne_eqb}
use Rattle.vcd_text.specs.Dump.{id_digits}

-- a digit and those behind it
digits_on : (most n : ℕ) → (n / 94 ≡ 0 → ⊥) → id_digits (suc most) n ≡ (33 + n % 94) ∷ id_digits most (n / 94)
digits_on most n more = ap (λ (b : Bool). (33 + n % 94) ∷ (if b then [] else id_digits most (n / 94))) (ne_eqb (n / 94) 0 more)

-- a digit that is written stands in front of those that are left
pub goes_on :
    (out whole : List ℕ) (i n d : ℕ) → i < 10 → (n / 94 ≡ 0 → ⊥) → d ≡ 33 + n % 94 →
    out ++ id_digits (10 - i) n ≡ whole → (out ++ d ∷ []) ++ id_digits (10 - (i + 1)) (n / 94) ≡ whole
goes_on out whole i n d low more e told =
    let s : 10 - i ≡ suc (10 - (i + 1)) = omega (arith, low) in
    append_assoc out (d ∷ []) (id_digits (10 - (i + 1)) (n / 94))
    ∙ ap (λ (x : ℕ). out ++ x ∷ id_digits (10 - (i + 1)) (n / 94)) e
    ∙ ap (λ (l : List ℕ). out ++ l) (sym (digits_on (10 - (i + 1)) n more))
    ∙ ap (λ (k : ℕ). out ++ id_digits k n) (sym s)
    ∙ told
