-- One number more of a range, where it passes and where it doesn't.
use Rattle.std.proofs.Common.{◌≡◌, ℕ, zero, suc, ◌+◌, ◌-◌, Bool, true, false, List, [], ◌∷◌, ◌++◌, filter, cond, append_assoc, refl, sym, ◌∙◌, ap, arith}
use Rattle.std.specs.List.{range_with_len}

module _ (p : ℕ → Bool) where
  pub taken : (f left : ℕ) (x0 x1 : List ℕ) → (left ≡ 0 → ⊥) → p f ≡ true → x1 ≡ x0 ++ f ∷ [] →
      x1 ++ filter p (range_with_len (f + 1) (left - 1)) ≡ x0 ++ filter p (range_with_len f left)
  taken f zero x0 x1 some is e = absurd (some refl)
  taken f (suc left) x0 x1 some is e =
      let less : suc left - 1 ≡ left = omega arith in
      let others = filter p (range_with_len (f + 1) left) in
      ap (λ (n : ℕ). x1 ++ filter p (range_with_len (f + 1) n)) less
      ∙ ap (λ (xs : List ℕ). xs ++ others) e
      ∙ append_assoc x0 (f ∷ []) others
      ∙ ap (λ (b : Bool). x0 ++ cond b (f ∷ others) others) (sym is)

  pub passed : (f left : ℕ) (x0 x1 : List ℕ) → (left ≡ 0 → ⊥) → p f ≡ false → x1 ≡ x0 →
      x1 ++ filter p (range_with_len (f + 1) (left - 1)) ≡ x0 ++ filter p (range_with_len f left)
  passed f zero x0 x1 some isnt e = absurd (some refl)
  passed f (suc left) x0 x1 some isnt e =
      let less : suc left - 1 ≡ left = omega arith in
      let others = filter p (range_with_len (f + 1) left) in
      ap (λ (n : ℕ). x1 ++ filter p (range_with_len (f + 1) n)) less
      ∙ ap (λ (xs : List ℕ). xs ++ others) e
      ∙ ap (λ (b : Bool). x0 ++ cond b (f ∷ others) others) (sym isnt)
