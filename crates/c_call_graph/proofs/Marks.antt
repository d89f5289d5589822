-- Marks and lists that grow.
use Rattle.std.proofs.Common.{◌≡◌, refl, sym, ap, ◌∙◌, subst, inl, inr, ◌⊎◌, ℕ, zero, suc, ◌<◌, ◌≤◌, Bool, true, false, List, [], ◌∷◌, length, arith}
use Rattle.std.specs.Prelude.{Some, slice_get, slice_set, replicate, Contains}
use Rattle.std.proofs.lemmas.Bool.{false≢true, cases_lt}
use Rattle.std.proofs.lemmas.List.{length-append}
use Rattle.std.proofs.lemmas.Option.{slice_get-get_or}
use Rattle.lists.proofs.Places.{get_front, get_last}
use Rattle.c_call_graph.specs.Graphs.{has, each_below}

pub at_Contains : {A : Type 0} (xs : List A) (x : A) → Contains xs x → (k : ℕ) × (slice_get xs k ≡ Some x)
at_Contains xs x c = (c.0, slice_get-get_or xs c.0 x c.1 ∙ ap Some c.2)

-- ---- what is given for each number below

module _ {A : Type 0} (of : ℕ → A) where
  pub each_length : (n : ℕ) → length (each_below of n) ≡ n
  each_length zero = refl
  each_length (suc n) =
      let whole = length-append (each_below of n) (of n ∷ []) in
      let before = each_length n in
      omega (arith, whole, before)

  pub each_at : (n k : ℕ) → k < n → slice_get (each_below of n) k ≡ Some (of k)
  each_at zero k lt = absurd (omega (arith, lt))
  each_at (suc n) k lt =
      elim (cases_lt k n) [
        | inl less ↦ get_front (each_below of n) (of n ∷ []) k (of k) (each_at n k less)
        | inr le ↦
            let same : n ≡ k = omega (arith, lt, le) in
            let P : ℕ → Type 0 = λ m. slice_get (each_below of (suc n)) m ≡ Some (of m) in
            let Q : ℕ → Type 0 = λ m. slice_get (each_below of (suc n)) m ≡ Some (of n) in
            subst P same (subst Q (each_length n) (get_last (each_below of n) (of n)))
      ]

-- ---- marks

pub has_inside : (marks : List Bool) (f : ℕ) → has marks f ≡ true → f < length marks
has_inside [] f h = absurd (false≢true h)
has_inside (b ∷ bs) zero h = omega arith
has_inside (b ∷ bs) (suc f) h = let inside = has_inside bs f h in omega arith

pub set_has : (marks : List Bool) (f : ℕ) → f < length marks → has (slice_set marks f true) f ≡ true
set_has [] f lt = absurd (omega arith)
set_has (b ∷ bs) zero lt = refl
set_has (b ∷ bs) (suc f) lt = set_has bs f (omega arith)

pub set_keeps : (marks : List Bool) (f h : ℕ) → has marks h ≡ true → has (slice_set marks f true) h ≡ true
set_keeps [] f h is = absurd (false≢true is)
set_keeps (b ∷ bs) zero zero is = refl
set_keeps (b ∷ bs) zero (suc h) is = is
set_keeps (b ∷ bs) (suc f) zero is = is
set_keeps (b ∷ bs) (suc f) (suc h) is = set_keeps bs f h is

pub set_back : (marks : List Bool) (f h : ℕ) → has (slice_set marks f true) h ≡ true → (f ≡ h) ⊎ (has marks h ≡ true)
set_back [] f h is = absurd (false≢true is)
set_back (b ∷ bs) zero zero is = inl refl
set_back (b ∷ bs) zero (suc h) is = inr is
set_back (b ∷ bs) (suc f) zero is = inr is
set_back (b ∷ bs) (suc f) (suc h) is = elim (set_back bs f h is) [ inl same ↦ inl (ap suc same) | inr was ↦ inr was ]

pub none_has : (n h : ℕ) → has (replicate n false) h ≡ false
none_has zero h = refl
none_has (suc n) zero = refl
none_has (suc n) (suc h) = none_has n h

-- ---- how many are marked

abbrev pub count : List Bool → ℕ
count [] = zero
count (true ∷ bs) = suc (count bs)
count (false ∷ bs) = count bs

pub count_none : (n : ℕ) → count (replicate n false) ≡ zero
count_none zero = refl
count_none (suc n) = count_none n

pub count_few : (bs : List Bool) → count bs ≤ length bs
count_few [] = omega arith
count_few (true ∷ bs) = let few = count_few bs in omega (arith, few)
count_few (false ∷ bs) = let few = count_few bs in omega (arith, few)

-- one mark more
pub count_set : (bs : List Bool) (f : ℕ) → f < length bs → has bs f ≡ false → count (slice_set bs f true) ≡ suc (count bs)
count_set [] f lt new = absurd (omega (arith, lt))
count_set (true ∷ bs) zero lt new = absurd (false≢true (sym new))
count_set (false ∷ bs) zero lt new = refl
count_set (true ∷ bs) (suc f) lt new = ap suc (count_set bs f (omega (arith, lt)) new)
count_set (false ∷ bs) (suc f) lt new = count_set bs f (omega (arith, lt)) new
