-- Of more numbers than there are below a bound two are the same.
use Rattle.std.specs.Prelude.{◌≡◌, ℕ, zero, suc, ◌<◌, ◌≤◌, ◌⊎◌, nat_eq, if◌then◌else◌}
use Rattle.std.proofs.Common.{sym, ◌∙◌, subst, inl, inr, ⊎_elim, arith}
use Rattle.std.proofs.lemmas.Bool.Decides.{nat_tests}
use Rattle.std.proofs.lemmas.Bool.{cases_eq, cond-false, cond-true}
use Rattle.sim_values.proofs.Trees.{front_or_back}

pub record AreTwice (f : ℕ → ℕ) (most : ℕ) : Type 0 where
  pub first : ℕ
  pub other : ℕ
  pub before : first < other
  pub within : other ≤ most
  pub same : f first ≡ f other

below_or : (a m : ℕ) → a < suc m → (a < m) ⊎ (a ≡ m)
below_or a m l = ⊎_elim (λ less. inl less) (λ back. inr (let z = back.1 in omega (arith, l, z))) (front_or_back a m)

-- one of the first numbers is this one, or none is
some_one : (f : ℕ → ℕ) (value n : ℕ) → ((k : ℕ) × (k < n) × (f k ≡ value)) ⊎ ((k : ℕ) → k < n → f k ≡ value → ⊥)
some_one f value zero = inr (λ k l e. absurd (omega arith))
some_one f value (suc n) = ⊎_elim
    (λ found. inl (found.0, omega (arith, found.1), found.2))
    (λ none. ⊎_elim
    (λ (here : f n ≡ value). inl (n, omega arith, here))
    (λ (other : f n ≡ value → ⊥). inr (λ k l e. last k l e none other))
    (cases_eq (f n) value))
    (some_one f value n)
  where
    last : (k : ℕ) → k < suc n → f k ≡ value → ((k : ℕ) → k < n → f k ≡ value → ⊥) → (f n ≡ value → ⊥) → ⊥
    last k l e none other = ⊎_elim
        (λ (less : k < n). none k less e)
        (λ (same : k ≡ n). other (subst (λ i. f i ≡ value) same e))
        (below_or k n l)

-- where the value m is taken, another one instead
abbrev instead : ℕ → ℕ → ℕ → ℕ
instead m value n = if nat_eq n m then value else n

instead_same : (m value n : ℕ) → n ≡ m → instead m value n ≡ value
instead_same m value n e = cond-true (nat_eq n m) value n (grind (arith, nat_tests))

instead_other : (m value n : ℕ) → (n ≡ m → ⊥) → instead m value n ≡ n
instead_other m value n ne = cond-false (nat_eq n m) value n (grind (arith, nat_tests))

pub twice : (n : ℕ) (f : ℕ → ℕ) → ((k : ℕ) → k ≤ n → f k < n) → AreTwice f n
twice zero f below = absurd (let l = below 0 (omega arith) in omega (arith, l))
twice (suc m) f below = ⊎_elim
    (λ found. record { first = found.0; other = suc m; before = found.1; within = omega arith; same = found.2 })
    (λ none.
    let value = f (suc m) in
    let low : (k : ℕ) → k ≤ m → instead m value (f k) < m =
    λ k l. ⊎_elim
    (λ (e : f k ≡ m).
    let g = instead_same m value (f k) e in
    let b = below (suc m) (omega arith) in
    let ne : value ≡ m → ⊥ = λ v. none k (omega (arith, l)) (e ∙ sym v) in
    let z : value < m = ⊎_elim (λ (less : value < m). less) (λ (same : value ≡ m). absurd (ne same)) (below_or value m b) in omega (arith, g, z))
    (λ (ne : f k ≡ m → ⊥).
    let g = instead_other m value (f k) ne in
    let b = below k (omega (arith, l)) in
    let z : f k < m = ⊎_elim (λ (less : f k < m). less) (λ (same : f k ≡ m). absurd (ne same)) (below_or (f k) m b) in omega (arith, g, z))
    (cases_eq (f k) m) in
    let t = twice m (λ k. instead m value (f k)) low in
    let before = t.before in
    let within = t.within in
    record {
      first = t.first;
      other = t.other;
      before = before;
      within = omega (arith, within);
      same = ⊎_elim
          (λ (e : f t.first ≡ m). ⊎_elim
          (λ (g : f t.other ≡ m). e ∙ sym g)
          (λ (h : f t.other ≡ m → ⊥).
          absurd (none t.other (omega (arith, within)) (sym (instead_other m value (f t.other) h) ∙ sym t.same ∙ instead_same m value (f t.first) e)))
          (cases_eq (f t.other) m))
          (λ (h : f t.first ≡ m → ⊥). ⊎_elim
          (λ (g : f t.other ≡ m).
          absurd (none t.first (omega (arith, before, within)) (sym (instead_other m value (f t.first) h) ∙ t.same ∙ instead_same m value (f t.other) g)))
          (λ (i : f t.other ≡ m → ⊥). sym (instead_other m value (f t.first) h) ∙ t.same ∙ instead_other m value (f t.other) i)
          (cases_eq (f t.other) m))
          (cases_eq (f t.first) m);
    })
    (some_one f (f (suc m)) (suc m))
