-- The first and the last of the numbers that pass a test, and the writes of an array.
use Rattle.std.proofs.Common.{◌≡◌, ℕ, suc, zero, ◌+◌, ◌<◌, ◌≤◌, Bool, true, false, Option, Some, if◌then◌else◌, refl, ap, subst, sym, ◌⊎◌, inl, inr, arith}
use Rattle.std.proofs.lemmas.Bool.{cases_eq, eqb-true, eq-eqb}
use Rattle.op_graph.specs.declared.node.Kind.{Kind}
use Rattle.op_graph.specs.declared.node.Kind.TheVariants.{Simple, Multiply, Divide, Global, Array}
use Rattle.op_graph.specs.Reduced.{last_below, first_from, writes_array}

abbrev pub HasLast : (ℕ → Bool) → ℕ → ℕ → Option ℕ → Type 0
HasLast test k i o = (m : ℕ) × (o ≡ Some m) × (i ≤ m) × (m < k) × (test m ≡ true)

has_last_if : (b : Bool) (test : ℕ → Bool) (k i : ℕ) → test k ≡ b → i < suc k → test i ≡ true → (i < k → HasLast test k i (last_below test k)) →
    HasLast test (suc k) i (if b then Some k else last_below test k)
has_last_if true test k i t l e rest = (k, refl, omega arith, omega arith, t)
has_last_if false test k i t l e rest = by_place (cases_eq i k)
  where
    by_place : (i ≡ k) ⊎ (i ≡ k → ⊥) → HasLast test (suc k) i (last_below test k)
    by_place (inl same) = let not_it : test k ≡ true = subst (λ (z : ℕ). test z ≡ true) same e in absurd cc
    by_place (inr other) =
        let h = rest (omega (arith, other)) in
        (h.0, h.1, h.2, omega (arith, h.3), h.4)

pub has_last : (test : ℕ → Bool) (k i : ℕ) → i < k → test i ≡ true → HasLast test k i (last_below test k)
has_last test zero i l e = absurd (omega arith)
has_last test (suc k) i l e = has_last_if (test k) test k i refl l e (λ less. has_last test k i less e)

abbrev pub IsFirst : (ℕ → Bool) → ℕ → ℕ → ℕ → Type 0
IsFirst test i m k = (i ≤ k) × (k < i + m) × (test k ≡ true)

first_if : (b : Bool) (test : ℕ → Bool) (i m k : ℕ) → test i ≡ b → (if b then Some i else first_from test (suc i) m) ≡ Some k → (first_from test (suc i) m ≡ Some k → IsFirst test (suc i) m k) →
    IsFirst test i (suc m) k
first_if true test i m k t e rest =
    let same : i ≡ k = cc in
    (omega arith, omega arith, subst (λ (z : ℕ). test z ≡ true) same t)
first_if false test i m k t e rest = let h = rest e in (omega (arith, h.0), omega (arith, h.1), h.2)

pub first_is : (test : ℕ → Bool) (i m k : ℕ) → first_from test i m ≡ Some k → IsFirst test i m k
first_is test i zero k e = absurd cc
first_is test i (suc m) k e = first_if (test i) test i m k refl e (first_is test (suc i) m k)

abbrev pub HasFirst : (ℕ → Bool) → ℕ → ℕ → ℕ → Option ℕ → Type 0
HasFirst test i m k o = (f : ℕ) × (o ≡ Some f) × (i ≤ f) × (f ≤ k) × (test f ≡ true)

has_first_if : (b : Bool) (test : ℕ → Bool) (i m k : ℕ) → test i ≡ b → i ≤ k → k < i + suc m → test k ≡ true →
    (suc i ≤ k → k < suc i + m → HasFirst test (suc i) m k (first_from test (suc i) m)) → HasFirst test i (suc m) k (if b then Some i else first_from test (suc i) m)
has_first_if true test i m k t l h e rest = (i, refl, omega arith, omega arith, t)
has_first_if false test i m k t l h e rest = by_place (cases_eq i k)
  where
    by_place : (i ≡ k) ⊎ (i ≡ k → ⊥) → HasFirst test i (suc m) k (first_from test (suc i) m)
    by_place (inl same) = let not_it : test i ≡ true = subst (λ (z : ℕ). test z ≡ true) (sym same) e in absurd cc
    by_place (inr other) =
        let f = rest (omega (arith, other)) (omega arith) in
        (f.0, f.1, omega (arith, f.2), f.3, f.4)

pub has_first : (test : ℕ → Bool) (i m k : ℕ) → i ≤ k → k < i + m → test k ≡ true → HasFirst test i m k (first_from test i m)
has_first test i zero k l h e = absurd (omega arith)
has_first test i (suc m) k l h e = has_first_if (test i) test i m k refl l h e (λ a b. has_first test (suc i) m k a b e)

pub write_kind : (x : ℕ) (k : Kind) → writes_array x k ≡ true → k ≡ Array x true
write_kind x Simple e = absurd cc
write_kind x (Multiply w) e = absurd cc
write_kind x (Divide w s) e = absurd cc
write_kind x (Global y w) e = absurd cc
write_kind x (Array y true) e = ap (λ (z : ℕ). Array z true) (eqb-true y x e)
write_kind x (Array y false) e = absurd cc

pub is_write : (x : ℕ) (k : Kind) → k ≡ Array x true → writes_array x k ≡ true
is_write x k e = rw e (eq-eqb x x refl)
