-- The left edge gives its numbers in one way.
use Rattle.std.proofs.Common.{◌≡◌, ℕ, suc, zero, ◌<◌, ◌≤◌, sym, ◌∙◌, ◌⊎◌, inl, inr, arith}
use Rattle.std.proofs.lemmas.Bool.{cases_lt}
use Rattle.interval_pack.specs.LeftEdge.{IsBefore, IsLeftEdge}

module _ (n : ℕ) (start : ℕ → ℕ) (Clash : ℕ → ℕ → Type 0) (number number' : ℕ → ℕ) (one : IsLeftEdge n start Clash number) (two : IsLeftEdge n start Clash number') where
  abbrev AgreeBefore : ℕ → Type 0
  AgreeBefore j = (i : ℕ) → i < n → IsBefore start i j → number i ≡ number' i

  not_less : (j : ℕ) → j < n → AgreeBefore j → (number j < number' j) → ⊥
  not_less j l before lt =
      let w = two.least j (number j) l lt in
      let ne = one.apart w.0 j w.1 l w.2 w.3 in
      ne (before w.0 w.1 w.2 ∙ w.4)

  not_more : (j : ℕ) → j < n → AgreeBefore j → (number' j < number j) → ⊥
  not_more j l before lt =
      let w = one.least j (number' j) l lt in
      let ne = two.apart w.0 j w.1 l w.2 w.3 in
      ne (sym (before w.0 w.1 w.2) ∙ w.4)

  same_by : (j : ℕ) → j < n → AgreeBefore j → (number j < number' j) ⊎ (number' j ≤ number j) → (number' j < number j) ⊎ (number j ≤ number' j) → number j ≡ number' j
  same_by j l before (inl x) y = absurd (not_less j l before x)
  same_by j l before (inr x) (inl y) = absurd (not_more j l before y)
  same_by j l before (inr x) (inr y) = omega arith

  -- all that start before s have the same numbers, and of those that start at s the things below m
  abbrev AgreeTo : ℕ → Type 0
  AgreeTo s = (i : ℕ) → i < n → start i < s → number i ≡ number' i

  abbrev AgreeBelow : ℕ → ℕ → Type 0
  AgreeBelow s m = (i : ℕ) → i < m → i < n → start i < suc s → number i ≡ number' i

  earlier : (s m : ℕ) → AgreeTo s → AgreeBelow s m → (i : ℕ) → i < n → IsBefore start i m → start m < suc s → number i ≡ number' i
  earlier s m outer inner i l (inl x) t = outer i l (omega arith)
  earlier s m outer inner i l (inr x) t = inner i x.1 l (omega (arith, x.0))

  agree_below : (s : ℕ) → AgreeTo s → (m : ℕ) → AgreeBelow s m
  agree_below s outer zero i im l t = absurd (omega arith)
  agree_below s outer (suc m) i im l t = by_index (cases_lt i m) (agree_below s outer m)
    where
      by_index : (i < m) ⊎ (m ≤ i) → AgreeBelow s m → number i ≡ number' i
      by_index (inl x) rest = rest i x l t
      by_index (inr x) rest =
          let e : i ≡ m = omega arith in
          same_by i l (λ j lj b. earlier s i outer (λ k ki kn kt. rest k (omega arith) kn kt) j lj b t) (cases_lt (number i) (number' i)) (cases_lt (number' i) (number i))

  agree_to : (s : ℕ) → AgreeTo s
  agree_to zero i l t = absurd (omega arith)
  agree_to (suc s) i l t = agree_below s (agree_to s) (suc i) i (omega arith) l t

  pub same_numbers : (i : ℕ) → i < n → number i ≡ number' i
  same_numbers i l = agree_to (suc (start i)) i l (omega arith)
