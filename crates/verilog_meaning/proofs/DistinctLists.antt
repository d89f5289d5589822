-- Lists without doubles: one whose elements all stand in another is no longer than that.
use Rattle.std.specs.Prelude.{◌≡◌, ℕ, zero, suc, ◌≤◌, List, [], ◌∷◌, length, Some, slice_get, refl}
use Rattle.std.proofs.Common.{sym, ap, ◌∙◌, arith}
use Rattle.std.proofs.lemmas.Option.{same_Some, none-some}

module _ {A : Type 0} where
  -- no element stands at two places
  abbrev pub AreOnce : List A → Type 0
  AreOnce xs = (a b : ℕ) (x : A) → slice_get xs a ≡ Some x → slice_get xs b ≡ Some x → a ≡ b

  abbrev pub IsIn : List A → A → Type 0
  IsIn xs x = (a : ℕ) × (slice_get xs a ≡ Some x)

  -- a list without its element at a place
  abbrev without : ℕ → List A → List A
  without p [] = []
  without zero (y ∷ ys) = ys
  without (suc p) (y ∷ ys) = y ∷ without p ys

  one_less : (p : ℕ) (ys : List A) (y : A) → slice_get ys p ≡ Some y → length ys ≡ suc (length (without p ys))
  one_less p [] y e = absurd (none-some y e)
  one_less zero (z ∷ ys) y e = refl
  one_less (suc p) (z ∷ ys) y e = ap suc (one_less p ys y e)

  stays : (ys : List A) (p q : ℕ) (y : A) → slice_get ys q ≡ Some y → (q ≡ p → ⊥) → IsIn (without p ys) y
  stays [] p q y e other = absurd (none-some y e)
  stays (z ∷ ys) zero zero y e other = absurd (other refl)
  stays (z ∷ ys) zero (suc q) y e other = (q, e)
  stays (z ∷ ys) (suc p) zero y e other = (0, e)
  stays (z ∷ ys) (suc p) (suc q) y e other = let r = stays ys p q y e (λ s. other (ap suc s)) in (suc r.0, r.1)

  pub no_longer : (xs ys : List A) → AreOnce xs → ((a : ℕ) (x : A) → slice_get xs a ≡ Some x → IsIn ys x) → length xs ≤ length ys
  no_longer [] ys once inside = omega arith
  no_longer (x ∷ xs) ys once inside =
      let at = inside 0 x refl in
      let rest = no_longer xs (without at.0 ys) (λ a b z e f. let s : suc a ≡ suc b = once (suc a) (suc b) z e f in omega (arith, s)) (λ a z e.
      let there = inside (suc a) z e in
      stays ys at.0 there.0 z there.1 (λ same.
      let q : x ≡ z = same_Some x z (sym at.1 ∙ ap (slice_get ys) (sym same) ∙ there.1) in
      let twice : 0 ≡ suc a = once 0 (suc a) z (ap Some q) e in
      omega (arith, twice))) in
      let l = one_less at.0 ys x at.1 in
      omega (arith, rest, l)

  pub same_length : (xs ys : List A) → AreOnce xs → AreOnce ys → ((a : ℕ) (x : A) → slice_get xs a ≡ Some x → IsIn ys x) → ((a : ℕ) (x : A) → slice_get ys a ≡ Some x → IsIn xs x)
      → length xs ≡ length ys
  same_length xs ys once other inside back =
      let l = no_longer xs ys once inside in
      let r = no_longer ys xs other back in
      omega (arith, l, r)
