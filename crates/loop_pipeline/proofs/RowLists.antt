-- Rows behind rows.
use Rattle.std.proofs.Common.{◌≡◌, ℕ, suc, zero, ◌*◌, ◌<◌, ◌≤◌, List, [], ◌∷◌, ◌++◌, length, length-append, ap, subst, sym, ◌∙◌, ◌⊎◌, inl, inr, arith, append_assoc}
use Rattle.std.specs.List.{Contains}
use Rattle.std.proofs.lemmas.Bool.{cases_eq}
use Rattle.std.proofs.lemmas.List.Elements.{Contains-append_left, Contains-append_right, Contains-append_cases}
use Rattle.lists.proofs.Places.{in_none}
use Rattle.schedule_sdc.specs.declared.constraint.Constraint.{Constraint}
use Rattle.op_graph.specs.Listed.{rows_below}

pub one_step : (o p a x y : List Constraint) → x ≡ o ++ p → y ≡ x ++ a → y ≡ o ++ (p ++ a)
one_step o p a x y e f = f ∙ (ap (λ (z : List Constraint). z ++ a) e ∙ append_assoc o p a)

pub is_one : (x c : Constraint) → c ≡ x → Contains (x ∷ []) c
is_one x c e = (0, omega arith, sym e)

-- a row of one of the places is among them all
pub below_has : (rows : ℕ → List Constraint) (k j : ℕ) (c : Constraint) → j < k → Contains (rows j) c → Contains (rows_below rows k) c
below_has rows zero j c l h = absurd (omega arith)
below_has rows (suc k) j c l h = by_place (cases_eq j k) (below_has rows k j c)
  where
    by_place : (j ≡ k) ⊎ (j ≡ k → ⊥) → (j < k → Contains (rows j) c → Contains (rows_below rows k) c) → Contains (rows_below rows k ++ rows k) c
    by_place (inl e) rest = Contains-append_right (rows_below rows k) (rows k) c (subst (λ (z : ℕ). Contains (rows z) c) e h)
    by_place (inr ne) rest = Contains-append_left (rows_below rows k) (rows k) c (rest (omega (arith, ne)) h)

-- what holds of the rows of each place holds of all
pub of_below : (P : Constraint → Type 0) (rows : ℕ → List Constraint) (k : ℕ) → ((j : ℕ) → j < k → (c : Constraint) → Contains (rows j) c → P c) →
    (c : Constraint) → Contains (rows_below rows k) c → P c
of_below P rows zero each c h = absurd (in_none c h)
of_below P rows (suc k) each c h = by_part (of_below P rows k (λ j l. each j (omega arith)) c) (Contains-append_cases (rows_below rows k) (rows k) c h)
  where
    by_part : (Contains (rows_below rows k) c → P c) → (Contains (rows_below rows k) c) ⊎ (Contains (rows k) c) → P c
    by_part rest (inl x) = rest x
    by_part rest (inr x) = each k (omega arith) c x

-- few rows for each place are few
pub length-below : (rows : ℕ → List Constraint) (b k : ℕ) → ((j : ℕ) → length (rows j) ≤ b) → length (rows_below rows k) ≤ b * k
length-below rows b zero each = omega arith
length-below rows b (suc k) each =
    let h = length-below rows b k each in
    let one = each k in
    let n = length-append (rows_below rows k) (rows k) in
    omega (arith, h, one, n)
