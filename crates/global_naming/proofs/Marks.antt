-- Marks on globals.
use Rattle.std.proofs.Common.{◌≡◌, refl, sym, ap, ◌∙◌, subst, inl, inr, ◌⊎◌, ℕ, zero, suc, ◌<◌, ◌≤◌, Bool, true, false, List, [], ◌∷◌, length, slice_set, nat_eq, filter, cond, arith}
use Rattle.std.proofs.lemmas.Bool.{false≢true, eqb-true}
use Rattle.std.proofs.lemmas.Bool.Decides.{nat_tests}
use Rattle.std.proofs.lemmas.List.{length-set}
use Rattle.c_call_graph.specs.Graphs.{has}
use Rattle.c_call_graph.proofs.Marks.{set_has, set_keeps, set_back}
use Rattle.global_naming.specs.Tables.{with_names}

pub set_beyond : (marks : List Bool) (k : ℕ) → length marks ≤ k → slice_set marks k true ≡ marks
set_beyond [] k beyond = refl
set_beyond (b ∷ bs) zero beyond = absurd (omega (arith, beyond))
set_beyond (b ∷ bs) (suc k) beyond = ap (λ (xs : List Bool). b ∷ xs) (set_beyond bs k (omega (arith, beyond)))

-- ---- marks on what is named

pub names_length : (names : List ℕ) (marks : List Bool) → length (with_names names marks) ≡ length marks
names_length [] marks = refl
names_length (y ∷ ys) marks = names_length ys (slice_set marks y true) ∙ length-set marks y true

pub keeps : (names : List ℕ) (marks : List Bool) (x : ℕ) → has marks x ≡ true → has (with_names names marks) x ≡ true
keeps [] marks x is = is
keeps (y ∷ ys) marks x is = keeps ys (slice_set marks y true) x (set_keeps marks y x is)

-- it is one of these
abbrev pub IsOf : ℕ → List ℕ → Type 0
IsOf x names = 0 < length (filter (nat_eq x) names)

by_head : (b : Bool) (y : ℕ) (rest : List ℕ) → b ≡ true → 0 < length (cond b (y ∷ rest) rest)
by_head true y rest is = omega arith
by_head false y rest is = absurd (false≢true is)

by_tail : (b : Bool) (y : ℕ) (rest : List ℕ) → 0 < length rest → 0 < length (cond b (y ∷ rest) rest)
by_tail true y rest more = omega (arith, more)
by_tail false y rest more = more

not_head : (b : Bool) (y : ℕ) (rest : List ℕ) → b ≡ false → 0 < length (cond b (y ∷ rest) rest) → 0 < length rest
not_head true y rest is more = absurd (false≢true (sym is))
not_head false y rest is more = more

pub marked_by : (names : List ℕ) (marks : List Bool) (x : ℕ) → has (with_names names marks) x ≡ true → (has marks x ≡ true) ⊎ IsOf x names
marked_by [] marks x is = inl is
marked_by (y ∷ ys) marks x is =
    elim (marked_by ys (slice_set marks y true) x is) [
      | inl set ↦
          elim (set_back marks y x set) [
            | inl same ↦ inr (by_head (nat_eq x y) y (filter (nat_eq x) ys) (grind (arith, nat_tests, same)))
            | inr was ↦ inl was
          ]
      | inr later ↦ inr (by_tail (nat_eq x y) y (filter (nat_eq x) ys) later)
    ]

pub marks_it : (names : List ℕ) (marks : List Bool) (x : ℕ) → x < length marks → IsOf x names → has (with_names names marks) x ≡ true
marks_it [] marks x inside named = absurd (omega (arith, named))
marks_it (y ∷ ys) marks x inside named = by (nat_eq x y) refl (marks_it ys (slice_set marks y true) x) where
  by : (b : Bool) → nat_eq x y ≡ b → (x < length (slice_set marks y true) → IsOf x ys → has (with_names ys (slice_set marks y true)) x ≡ true) → has (with_names ys (slice_set marks y true)) x ≡ true
  by true is later =
      let same : y ≡ x = sym (eqb-true x y is) in
      keeps ys (slice_set marks y true) x (subst (λ (k : ℕ). has (slice_set marks k true) x ≡ true) (sym same) (set_has marks x inside))
  by false is later =
      let long = length-set marks y true in
      later (omega (arith, inside, long)) (not_head (nat_eq x y) y (filter (nat_eq x) ys) is named)
