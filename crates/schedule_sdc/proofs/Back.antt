-- The walk from a step to a later one of the same place.
use Rattle.std.proofs.Common.{◌≡◌, ℕ, suc, zero, ◌<◌, List, [], ◌∷◌, ◌++◌, length, reverse, arith, refl, ap, sym, ◌∙◌, ◌⊎◌, inl, inr, ℤ, pos, ◌+ℤ◌, ◌-ℤ◌, ◌≤ℤ◌}
use Rattle.std.proofs.lemmas.Int.{ints}
use Rattle.std.proofs.lemmas.List.{reverse-append}
use Rattle.std.proofs.lemmas.List.Elements.{All-contains}
use Rattle.schedule_sdc.specs.declared.history.Step.{Step}
use Rattle.schedule_sdc.specs.declared.constraint.Constraint.{Constraint}
use Rattle.schedule_sdc.specs.Solution.{Walks, end_of, IsPositiveCycle, IsSolution, Meets}
use Rattle.schedule_sdc.specs.History.{at, IsBehind, IsHistory, IsGiven, IsReturn}

pub record IsWalkBack (list : List Constraint) (steps : List Step) (walk : List ℕ) (here later : ℕ) : Type 0 where
  pub rest : List ℕ
  pub is : reverse walk ≡ (at steps here).place ∷ rest
  pub walks : Walks list (at steps here).place rest (pos (at steps later).start -ℤ pos (at steps here).start)
  pub ends : end_of (at steps here).place rest ≡ (at steps later).place

pub begun : (list : List Constraint) (steps : List Step) (later : ℕ) (walk : List ℕ) → walk ≡ (at steps later).place ∷ [] → IsWalkBack list steps walk later later
begun list steps later walk e = record { rest = []; is = rw e refl; walks = omega (arith, ints); ends = refl }

module _ (list : List Constraint) (n : ℕ) (steps : List Step) (history : IsHistory list n steps) (here : ℕ) (within : here < length steps) (earlier : ℕ) (differs : here ≡ earlier → ⊥) where
  given_by : (k : ℕ) → IsBehind steps (suc k) here earlier → ((((at steps here).depth ≡ 0) × ((at steps here).start ≡ 0)) ⊎ IsGiven list steps here (at steps here))
      → IsGiven list steps here (at steps here)
  given_by k b (inr g) = g
  given_by k b (inl h) = absurd (omega (arith, b.1, h.0))

  pub given_at : (k : ℕ) → IsBehind steps k here earlier → IsGiven list steps here (at steps here)
  given_at zero b = absurd (differs b.0)
  given_at (suc k) b = given_by k b (history.step here within).linked

  pub behind_before : (k : ℕ) → IsBehind steps k here earlier → (j : ℕ) × IsBehind steps j (at steps here).before earlier
  behind_before zero b = absurd (differs b.0)
  behind_before (suc k) b = let g = given_at (suc k) b in (k, (b.0, omega (arith, b.1, g.deeper)))

pub further : (list : List Constraint) (steps : List Step) (walk : List ℕ) (here later : ℕ) → IsGiven list steps here (at steps here) → IsWalkBack list steps walk here later
    → (new : List ℕ) → new ≡ walk ++ (at steps (at steps here).before).place ∷ [] → IsWalkBack list steps new (at steps here).before later
further list steps walk here later g w new e =
    let sum : (pos (at steps later).start -ℤ pos (at steps (at steps here).before).start) -ℤ g.by.gap ≡ pos (at steps later).start -ℤ pos (at steps here).start = omega (arith, ints, g.sum) in
    record {
      rest = (at steps here).place ∷ w.rest;
      is = rw (e, reverse-append walk ((at steps (at steps here).before).place ∷ [])) (ap (λ (x : List ℕ). (at steps (at steps here).before).place ∷ x) w.is);
      walks = (g.by, g.listed, g.leaves, g.reaches, rw sum w.walks);
      ends = w.ends;
    }

pub closed : (list : List Constraint) (n : ℕ) (steps : List Step) → IsHistory list n steps → (walk : List ℕ) (later earlier here : ℕ) → IsReturn steps later earlier
    → here ≡ earlier → IsWalkBack list steps walk here later → IsPositiveCycle list (reverse walk)
closed list n steps history walk later earlier here r e w =
    let lt : (at steps earlier).start < (at steps later).start = history.rising earlier later r.order r.within r.place in
    let lt' : (at steps here).start < (at steps later).start = rw e lt in
    let same : (at steps later).place ≡ (at steps here).place = rw e (sym r.place) in
    rw w.is (pos (at steps later).start -ℤ pos (at steps here).start, w.walks, w.ends ∙ same, omega (arith, ints, lt'))

walk_bound : (list : List Constraint) (t : ℕ → ℕ) → IsSolution list t → (p : ℕ) (rest : List ℕ) (sum : ℤ) → Walks list p rest sum → (pos (t p) +ℤ sum) ≤ℤ pos (t (end_of p rest))
walk_bound list t solves p [] sum w = let e : sum ≡ pos 0 = w in omega (arith, ints, e)
walk_bound list t solves p (q ∷ rest) sum w =
    let c = w.0 in
    let m : (pos (t c.from) +ℤ c.gap) ≤ℤ pos (t c.to) = All-contains (Meets t) list c solves w.1 in
    let f : t c.from ≡ t p = ap t w.2 in
    let g : t c.to ≡ t q = ap t w.3 in
    let h = walk_bound list t solves q rest (sum -ℤ c.gap) w.4 in
    omega (arith, ints, m, f, g, h)

pub no_solution : (list : List Constraint) (walk : List ℕ) → IsPositiveCycle list walk → (t : ℕ → ℕ) → IsSolution list t → ⊥
no_solution list [] c t solves = absurd c
no_solution list (p ∷ rest) c t solves =
    let h = walk_bound list t solves p rest c.0 c.1 in
    let e : t (end_of p rest) ≡ t p = ap t c.2 in
    omega (arith, ints, h, e, c.3)
