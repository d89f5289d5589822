-- Facts on tests.
use Rattle.std.specs.Prelude.{nat_eq, nat_lt, ◌&&◌, Bool, true, false, ◌||◌}
use Rattle.std.proofs.Common.{◌≡◌, ◌≢◌, ℕ, suc, ◌<◌, ◌≤◌, refl, sym, ap, ◌∙◌, ⊎_elim, arith}
use Rattle.std.proofs.Math.Bool.{and-false}
use Rattle.std.proofs.lemmas.Bool.{cases_eq}
-- std's facts on tests, under the names that proofs on blocks have for them
pub use Rattle.std.proofs.lemmas.Bool.{and_parts as both_true, eqb-true as is_same, eq-eqb as same_is, ne_eqb as other_is}
pub use Rattle.std.proofs.lemmas.Bool.{lt-ltb as less_is, le-ltb as not_less_is, cases_lt as less_or_not}

-- who isn't done hasn't started before
pub not_before : (a s : ℕ) (c : Bool) → (nat_lt a s || c) ≡ false → s ≤ a
not_before a s c e = ⊎_elim (λ lt. absurd (cc (e, ap (λ b. b || c) (less_is a s lt)))) (λ le. le) (less_or_not a s)

-- the bits of a state that is kept
pub bits_stay : (l e g h : Bool) → (h ≡ true → e ≡ true) → ((l || (e && g)) || h) ≡ (l || (e && (g || h)))
bits_stay true e g h t = refl
bits_stay false true g h t = refl
bits_stay false false g true t = sym (t refl)
bits_stay false false g false t = refl

-- the bits of a state that is left
pub bits_go : (a s : ℕ) (g h : Bool) → (a ≡ s → (g || h) ≡ true) → (h ≡ true → a ≡ s) → ((nat_lt a s || (nat_eq a s && g)) || h) ≡ (nat_lt a (suc s) || (nat_eq a (suc s) && false))
bits_go a s g h all now = ⊎_elim before (λ le. ⊎_elim here (λ ne. beyond h refl le ne) (cases_eq a s)) (less_or_not a s)
  where
    right : (nat_eq a (suc s) && false) ≡ false
    right = and-false (nat_eq a (suc s))

    before : a < s → ((nat_lt a s || (nat_eq a s && g)) || h) ≡ (nat_lt a (suc s) || (nat_eq a (suc s) && false))
    before lt = ap (λ b. (b || (nat_eq a s && g)) || h) (less_is a s lt) ∙ sym (ap (λ b. b || (nat_eq a (suc s) && false)) (less_is a (suc s) (omega arith)))

    here : a ≡ s → ((nat_lt a s || (nat_eq a s && g)) || h) ≡ (nat_lt a (suc s) || (nat_eq a (suc s) && false))
    here e =
        ap (λ b. (b || (nat_eq a s && g)) || h) (not_less_is a s (omega arith)) ∙ ap (λ b. (b && g) || h) (same_is a s e) ∙ all e
        ∙ sym (ap (λ b. b || (nat_eq a (suc s) && false)) (less_is a (suc s) (omega arith)))

    beyond : (k : Bool) → h ≡ k → s ≤ a → a ≢ s → ((nat_lt a s || (nat_eq a s && g)) || h) ≡ (nat_lt a (suc s) || (nat_eq a (suc s) && false))
    beyond true e le ne = absurd (ne (now e))
    beyond false e le ne =
        ap (λ b. (b || (nat_eq a s && g)) || h) (not_less_is a s le) ∙ ap (λ b. (b && g) || h) (other_is a s ne) ∙ e
        ∙ sym (ap (λ b. b || (nat_eq a (suc s) && false)) (not_less_is a (suc s) (omega arith)) ∙ right)
