-- How many intervals, by their rows.
use Rattle.std.proofs.Common.{◌≡◌, ℕ, suc, zero, ◌<◌, ◌≤◌, ◌+◌, List, [], ◌∷◌, length, get_or, Bool, true, false, refl, ◌∙◌, arith, nat_eq, nat_lt, if◌then◌else◌, ◌&&◌}
use Rattle.std.specs.Prelude.{nat_le}
use Rattle.std.proofs.lemmas.List.Sums.{sum_by-cons}
use Rattle.std.proofs.lemmas.Bool.{false_from_ne_true}
use Rattle.interval_pack.specs.declared.interval.Interval.{Interval}
use Rattle.interval_pack.specs.Packing.{nowhere, crowd_at}

abbrev pub Test : Type 0
Test = Interval → ℕ → Bool

abbrev pub one_if : Bool → ℕ
one_if b = if b then 1 else 0

-- how many intervals pass, each with its row
abbrev pub passing : Test → List Interval → List ℕ → ℕ
passing test [] rows = 0
passing test (a ∷ as') [] = 0
passing test (a ∷ as') (r ∷ rows) = one_if (test a r) + passing test as' rows

pub none : (test : Test) (xs : List Interval) (rows : List ℕ) → length rows ≡ length xs → ((i : ℕ) → i < length xs → test (get_or xs i nowhere) (get_or rows i 0) ≡ false) → passing test xs rows ≡ 0
none test [] rows n f = refl
none test (a ∷ xs) [] n f = refl
none test (a ∷ xs) (r ∷ rows) n f =
    let h : test a r ≡ false = f 0 (omega arith) in
    let t : passing test xs rows ≡ 0 = none test xs rows (omega arith) (λ i l. f (suc i) (omega arith)) in
    rw h (omega arith)

pub some : (test : Test) (xs : List Interval) (rows : List ℕ) (i : ℕ) → length rows ≡ length xs → i < length xs → test (get_or xs i nowhere) (get_or rows i 0) ≡ true → 1 ≤ passing test xs rows
some test [] rows i n l e = absurd (omega arith)
some test (a ∷ xs) [] i n l e = absurd (omega arith)
some test (a ∷ xs) (r ∷ rows) zero n l e = let e' : test a r ≡ true = e in rw e' (omega arith)
some test (a ∷ xs) (r ∷ rows) (suc i) n l e = let h = some test xs rows i (omega arith) (omega arith) e in omega (arith, h)

most_by : (test : Test) (a : Interval) (r : ℕ) (xs : List Interval) (rows : List ℕ) → length rows ≡ length xs → (test a r ≡ true → (i : ℕ) → i < length xs
    → test (get_or xs i nowhere) (get_or rows i 0) ≡ false) → passing test xs rows ≤ 1 → (b : Bool) → test a r ≡ b → one_if b + passing test xs rows ≤ 1
most_by test a r xs rows n f h true e = let z = none test xs rows n (f e) in omega (arith, z)
most_by test a r xs rows n f h false e = omega (arith, h)

pub at_most : (test : Test) (xs : List Interval) (rows : List ℕ) → length rows ≡ length xs → ((i j : ℕ) → i < length xs → j < length xs
    → test (get_or xs i nowhere) (get_or rows i 0) ≡ true → test (get_or xs j nowhere) (get_or rows j 0) ≡ true → i ≡ j) → passing test xs rows ≤ 1
at_most test [] rows n f = omega arith
at_most test (a ∷ xs) [] n f = omega arith
at_most test (a ∷ xs) (r ∷ rows) n f =
    let h = at_most test xs rows (omega arith) (λ i j l m p q. (let e : suc i ≡ suc j = f (suc i) (suc j) (omega arith) (omega arith) p q in omega arith)) in
    most_by test a r xs rows (omega arith) (λ e i l. false_from_ne_true (test (get_or xs i nowhere) (get_or rows i 0)) (λ p. (let q : 0 ≡ suc i = f 0 (suc i) (omega arith)
    (omega arith) e p in omega arith))) h (test a r) refl

pub same_passing : (s t : Test) (xs : List Interval) (rows : List ℕ) → length rows ≡ length xs → ((i : ℕ) → i < length xs
    → s (get_or xs i nowhere) (get_or rows i 0) ≡ t (get_or xs i nowhere) (get_or rows i 0)) → passing s xs rows ≡ passing t xs rows
same_passing s t [] rows n f = refl
same_passing s t (a ∷ xs) [] n f = refl
same_passing s t (a ∷ xs) (r ∷ rows) n f =
    let e : s a r ≡ t a r = f 0 (omega arith) in
    let h : passing s xs rows ≡ passing t xs rows = same_passing s t xs rows (omega arith) (λ i l. f (suc i) (omega arith)) in
    rw e (omega (arith, h))

pub sum_passing : (s t u : Test) (xs : List Interval) (rows : List ℕ) → ((a : Interval) (r : ℕ) → one_if (s a r) ≡ one_if (t a r) + one_if (u a r))
    → passing s xs rows ≡ passing t xs rows + passing u xs rows
sum_passing s t u [] rows f = refl
sum_passing s t u (a ∷ xs) [] f = refl
sum_passing s t u (a ∷ xs) (r ∷ rows) f = let e = f a r in let h = sum_passing s t u xs rows f in omega (arith, e, h)

abbrev pub holds : ℕ → Interval → Bool
holds p a = nat_le a.start p && nat_lt p a.end

pub holds_from : (p : ℕ) (a : Interval) → a.start ≤ p → p < a.end → holds p a ≡ true
holds_from p a l m = grind arith

pub start_held : (p : ℕ) (a : Interval) → holds p a ≡ true → a.start ≤ p
start_held p a e = grind arith

pub end_held : (p : ℕ) (a : Interval) → holds p a ≡ true → p < a.end
end_held p a e = grind arith

pub crowd-passing : (p : ℕ) (xs : List Interval) (rows : List ℕ) → length rows ≡ length xs → crowd_at xs p ≡ passing (λ a r. holds p a) xs rows
crowd-passing p [] rows n = refl
crowd-passing p (a ∷ xs) [] n = absurd (omega arith)
crowd-passing p (a ∷ xs) (r ∷ rows) n =
    let h : crowd_at xs p ≡ passing (λ a r. holds p a) xs rows = crowd-passing p xs rows (omega arith) in
    let c = sum_by-cons (λ (b : Interval). if holds p b then 1 else 0) a xs in
    omega (arith, h, c)

-- the intervals of the rows below k
abbrev below : ℕ → ℕ → Test
below p k a r = holds p a && nat_lt r k

abbrev exactly : ℕ → ℕ → Test
exactly p k a r = holds p a && nat_eq r k

split_at : (p k : ℕ) (a : Interval) (r : ℕ) (b : Bool) → one_if (b && nat_lt r (suc k)) ≡ one_if (b && nat_lt r k) + one_if (b && nat_eq r k)
split_at p k a r true = grind arith
split_at p k a r false = refl

module _ (p : ℕ) (xs : List Interval) (rows : List ℕ) (n : length rows ≡ length xs) (one : (i j : ℕ) → i < length xs → j < length xs → holds p (get_or xs i nowhere) ≡ true
    → holds p (get_or xs j nowhere) ≡ true → get_or rows i 0 ≡ get_or rows j 0 → i ≡ j) where
  one_of : (k : ℕ) → passing (exactly p k) xs rows ≤ 1
  one_of k = at_most (exactly p k) xs rows n (λ i j l m e f. one i j l m (grind arith) (grind arith) (grind arith))

  more_rows : (k : ℕ) → passing (below p (suc k)) xs rows ≡ passing (below p k) xs rows + passing (exactly p k) xs rows
  more_rows k = sum_passing (below p (suc k)) (below p k) (exactly p k) xs rows (λ a r. split_at p k a r (holds p a))

  no_rows : passing (below p 0) xs rows ≡ 0
  no_rows = none (below p 0) xs rows n (λ i l. grind arith)

  pub at_most_rows : (k : ℕ) → passing (below p k) xs rows ≤ k
  at_most_rows zero = omega (arith, no_rows)
  at_most_rows (suc k) = let h = at_most_rows k in let m = more_rows k in let o = one_of k in omega arith

  pub all_rows : (k : ℕ) → ((r : ℕ) → r < k → (i : ℕ) × (i < length xs) × (holds p (get_or xs i nowhere) ≡ true) × (get_or rows i 0 ≡ r)) → passing (below p k) xs rows ≡ k
  all_rows zero w = no_rows
  all_rows (suc k) w =
      let h = all_rows k (λ r l. w r (omega arith)) in
      let m = more_rows k in
      let o = one_of k in
      let x = w k (omega arith) in
      let s = some (exactly p k) xs rows x.0 n x.1 (grind arith) in
      omega arith

  pub counted : (k : ℕ) → ((i : ℕ) → i < length xs → holds p (get_or xs i nowhere) ≡ true → get_or rows i 0 < k) → crowd_at xs p ≡ passing (below p k) xs rows
  counted k f = crowd-passing p xs rows n ∙ same_passing (λ a r. holds p a) (below p k) xs rows n (λ i l. same_test (holds p (get_or xs i nowhere)) (get_or rows i 0) (f i l))
    where
      same_test : (b : Bool) (r : ℕ) → (b ≡ true → r < k) → b ≡ (b && nat_lt r k)
      same_test true r g = let l = g refl in grind arith
      same_test false r g = refl
