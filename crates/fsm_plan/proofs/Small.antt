-- Numbers by the left edge are below the number of things.
use Rattle.std.proofs.Common.{◌≡◌, ℕ, zero, suc, ◌+◌, ◌<◌, ◌≤◌, List, [], ◌∷◌, length, get_or, Bool, true, false, nat_lt, nat_eq, refl, ap, ◌∙◌, arith}
use Rattle.std.specs.List.{count_by, range_with_len}
use Rattle.std.proofs.lemmas.List.Sums.{sum_by-cons, count_by-le-length}
use Rattle.std.proofs.lemmas.List.FromFn.{length-range_with_len, get_or-range_with_len}
use Rattle.std.proofs.lemmas.Bool.{eq-eqb}
use Rattle.interval_pack.specs.LeftEdge.{IsLeftEdge}
use Rattle.interval_pack.proofs.Counts.{one_if}

count-cons : (test : ℕ → Bool) (x : ℕ) (xs : List ℕ) → count_by test (x ∷ xs) ≡ one_if (test x) + count_by test xs
count-cons test x xs = sum_by-cons (λ (y : ℕ). one_if (test y)) x xs

some_one : (test : ℕ → Bool) (xs : List ℕ) (i : ℕ) → i < length xs → test (get_or xs i 0) ≡ true → 1 ≤ count_by test xs
some_one test [] i l e = absurd (omega arith)
some_one test (x ∷ xs) zero l e =
    let one : one_if (test x) ≡ 1 = ap one_if e in
    let c = count-cons test x xs in
    omega (arith, one, c)
some_one test (x ∷ xs) (suc i) l e =
    let h = some_one test xs i (omega arith) e in
    let c = count-cons test x xs in
    omega (arith, h, c)

at_most_one : (b : Bool) → one_if b ≤ 1
at_most_one true = omega arith
at_most_one false = omega arith

not_all : (test : ℕ → Bool) (xs : List ℕ) (i : ℕ) → i < length xs → test (get_or xs i 0) ≡ false → count_by test xs < length xs
not_all test [] i l e = absurd (omega arith)
not_all test (x ∷ xs) zero l e =
    let none : one_if (test x) ≡ 0 = ap one_if e in
    let c = count-cons test x xs in
    let h = count_by-le-length test xs in
    omega (arith, none, c, h)
not_all test (x ∷ xs) (suc i) l e =
    let h = not_all test xs i (omega arith) e in
    let c = count-cons test x xs in
    let one = at_most_one (test x) in
    omega (arith, h, c, one)

one_if_less : (x m : ℕ) → one_if (nat_lt x (suc m)) ≡ one_if (nat_lt x m) + one_if (nat_eq x m)
one_if_less x m = grind arith

split : (number : ℕ → ℕ) (m : ℕ) (xs : List ℕ) →
    count_by (λ (i : ℕ). nat_lt (number i) (suc m)) xs ≡ count_by (λ (i : ℕ). nat_lt (number i) m) xs + count_by (λ (i : ℕ). nat_eq (number i) m) xs
split number m [] = refl
split number m (x ∷ xs) =
    let h = split number m xs in
    let e = one_if_less (number x) m in
    let a = count-cons (λ (i : ℕ). nat_lt (number i) (suc m)) x xs in
    let b = count-cons (λ (i : ℕ). nat_lt (number i) m) x xs in
    let c = count-cons (λ (i : ℕ). nat_eq (number i) m) x xs in
    omega (arith, h, e, a, b, c)

not_below_itself : (x : ℕ) → nat_lt x x ≡ false
not_below_itself x = grind arith

module _ (n : ℕ) (start : ℕ → ℕ) (Clash : ℕ → ℕ → Type 0) (number : ℕ → ℕ) (edge : IsLeftEdge n start Clash number) where
  abbrev all : List ℕ
  all = range_with_len 0 n

  place : (i : ℕ) → i < n → get_or all i 0 ≡ i
  place i l = get_or-range_with_len 0 n i 0 l ∙ (let e : 0 + i ≡ i = omega arith in e)

  within : (i : ℕ) → i < n → i < length all
  within i l = omega (arith, length-range_with_len 0 n, l)

  hit : (j : ℕ) → j < n → (m : ℕ) → m ≤ number j → m ≤ count_by (λ (i : ℕ). nat_lt (number i) m) all
  hit j l zero h = omega arith
  hit j l (suc m) h =
      let w = edge.least j m l (omega arith) in
      let found = ap (λ (i : ℕ). nat_eq (number i) m) (place w.0 w.1) ∙ eq-eqb (number w.0) m w.4 in
      let one = some_one (λ (i : ℕ). nat_eq (number i) m) all w.0 (within w.0 w.1) found in
      let rest = hit j l m (omega arith) in
      let s = split number m all in
      omega (arith, one, rest, s)

  pub number_small : (j : ℕ) → j < n → number j < n
  number_small j l =
      let h = hit j l (number j) (omega arith) in
      let itself = ap (λ (i : ℕ). nat_lt (number i) (number j)) (place j l) ∙ not_below_itself (number j) in
      let f = not_all (λ (i : ℕ). nat_lt (number i) (number j)) all j (within j l) itself in
      omega (arith, h, f, length-range_with_len 0 n)
