-- Changes of two elements commute.
use Rattle.std.proofs.Common.{◌≡◌, ◌≢◌, ℕ, zero, suc, List, [], ◌∷◌, refl, ap, sym, ◌∙◌, subst, ⊎_elim}
use Rattle.std.specs.Prelude.{Option, Some, None, slice_get, slice_set}
use Rattle.std.proofs.lemmas.Bool.{cases_eq}
use Rattle.lists.proofs.Places.{set_there, set_elsewhere}
use Rattle.thread_semantics.specs.Memory.{with_row, with_element}

module _ {A : Type 0} where
  pub sets_commute : (xs : List A) (i k : ℕ) (a b : A) → i ≢ k → slice_set (slice_set xs i a) k b ≡ slice_set (slice_set xs k b) i a
  sets_commute [] i k a b apart = refl
  sets_commute (x ∷ xs) zero zero a b apart = absurd (apart refl)
  sets_commute (x ∷ xs) zero (suc k) a b apart = refl
  sets_commute (x ∷ xs) (suc i) zero a b apart = refl
  sets_commute (x ∷ xs) (suc i) (suc k) a b apart = ap (λ (ys : List A). x ∷ ys) (sets_commute xs i k a b (λ e. apart (ap suc e)))

  -- the later of two changes of one element counts
  pub sets_again : (xs : List A) (i : ℕ) (a b : A) → slice_set (slice_set xs i a) i b ≡ slice_set xs i b
  sets_again [] i a b = refl
  sets_again (x ∷ xs) zero a b = refl
  sets_again (x ∷ xs) (suc i) a b = ap (λ (ys : List A). x ∷ ys) (sets_again xs i a b)

module _ {A : Type 0} where
  with_there : (rows : List (List A)) (x j : ℕ) (v : A) (o : Option (List A)) → slice_get rows x ≡ o → with_element rows x j v ≡ with_row rows x o j v
  with_there rows x j v o at = ap (λ q. with_row rows x q j v) at

  -- in one row
  same_row : (rows : List (List A)) (x j k : ℕ) (v w : A) → j ≢ k → with_element (with_element rows x j v) x k w ≡ with_element (with_element rows x k w) x j v
  same_row rows x j k v w apart = go (slice_get rows x) refl
    where
      twice : (row : List A) (a b : ℕ) (p q : A) → slice_get rows x ≡ Some row →
          with_element (slice_set rows x (slice_set row a p)) x b q ≡ slice_set rows x (slice_set (slice_set row a p) b q)
      twice row a b p q at =
          with_there (slice_set rows x (slice_set row a p)) x b q (Some (slice_set row a p)) (set_there rows x row (slice_set row a p) at)
          ∙ sets_again rows x (slice_set row a p) (slice_set (slice_set row a p) b q)

      go : (o : Option (List A)) → slice_get rows x ≡ o → with_element (with_row rows x o j v) x k w ≡ with_element (with_row rows x o k w) x j v
      go None at = with_there rows x k w None at ∙ sym (with_there rows x j v None at)
      go (Some row) at =
          twice row j k v w at
          ∙ ap (λ (r : List A). slice_set rows x r) (sets_commute row j k v w apart)
          ∙ sym (twice row k j w v at)

  -- in two
  other_rows : (rows : List (List A)) (x j y k : ℕ) (v w : A) → x ≢ y → with_element (with_element rows x j v) y k w ≡ with_element (with_element rows y k w) x j v
  other_rows rows x j y k v w apart = go (slice_get rows x) (slice_get rows y) refl refl
    where
      after : (n l m : ℕ) (u : A) (row : List A) → n ≢ m → (o : Option (List A)) → slice_get rows m ≡ o → slice_get (slice_set rows n row) m ≡ o
      after n l m u row ne o at = set_elsewhere rows n m row ne ∙ at

      back : y ≢ x
      back e = apart (sym e)

      go : (o p : Option (List A)) → slice_get rows x ≡ o → slice_get rows y ≡ p → with_element (with_row rows x o j v) y k w ≡ with_element (with_row rows y p k w) x j v
      go None None at to = with_there rows y k w None to ∙ sym (with_there rows x j v None at)
      go None (Some b) at to =
          with_there rows y k w (Some b) to
          ∙ sym (with_there (slice_set rows y (slice_set b k w)) x j v None (after y k x w (slice_set b k w) back None at))
      go (Some a) None at to =
          with_there (slice_set rows x (slice_set a j v)) y k w None (after x j y v (slice_set a j v) apart None to)
          ∙ sym (with_there rows x j v (Some a) at)
      go (Some a) (Some b) at to =
          with_there (slice_set rows x (slice_set a j v)) y k w (Some b) (after x j y v (slice_set a j v) apart (Some b) to)
          ∙ sets_commute rows x y (slice_set a j v) (slice_set b k w) apart
          ∙ sym (with_there (slice_set rows y (slice_set b k w)) x j v (Some a) (after y k x w (slice_set b k w) back (Some a) at))

  pub elements_commute : (rows : List (List A)) (x j y k : ℕ) (v w : A) → ((x ≡ y) × (j ≡ k) → ⊥) →
      with_element (with_element rows x j v) y k w ≡ with_element (with_element rows y k w) x j v
  elements_commute rows x j y k v w apart =
      ⊎_elim
      (λ (e : x ≡ y).
      subst (λ z. with_element (with_element rows x j v) z k w ≡ with_element (with_element rows z k w) x j v) e
      (same_row rows x j k v w (λ q. apart (e, q))))
      (λ ne. other_rows rows x j y k v w ne)
      (cases_eq x y)
