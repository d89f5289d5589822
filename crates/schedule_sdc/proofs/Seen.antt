-- The places met on the way back.
use Rattle.std.proofs.Common.{◌≡◌, ◌≢◌, ℕ, suc, zero, ◌<◌, ◌≤◌, ◌+◌, List, [], ◌∷◌, length, get_or, set, arith, refl, ap, sym, ◌∙◌, ◌⊎◌, inl, inr, Option}
use Rattle.std.proofs.Common.{Some, None, replicate, get_or-set_other, get_or-set_same}
use Rattle.std.proofs.lemmas.Bool.{cases_eq}
use Rattle.std.proofs.lemmas.List.{get_or_read}
use Rattle.schedule_sdc.specs.declared.history.Step.{Step}
use Rattle.schedule_sdc.specs.declared.constraint.Constraint.{Constraint}
use Rattle.schedule_sdc.specs.History.{at, back, IsBehind, IsHistory, IsGiven, IsReturn}

abbrev pub unseen : List (Option ℕ) → ℕ
unseen [] = 0
unseen (None ∷ xs) = suc (unseen xs)
unseen (Some x ∷ xs) = unseen xs

pub unseen-none : (n : ℕ) → unseen (replicate n None) ≡ n
unseen-none zero = refl
unseen-none (suc n) = ap suc (unseen-none n)

pub unseen-set : (xs : List (Option ℕ)) (i x : ℕ) → i < length xs → get_or xs i None ≡ None → unseen (set xs i (Some x)) + 1 ≡ unseen xs
unseen-set [] i x l e = absurd (omega arith)
unseen-set (None ∷ xs) zero x l e = omega arith
unseen-set (Some y ∷ xs) zero x l e = absurd (cc)
unseen-set (None ∷ xs) (suc i) x l e = let lt : i < length xs = omega arith in let h = unseen-set xs i x lt e in omega (arith, h)
unseen-set (Some y ∷ xs) (suc i) x l e = let lt : i < length xs = omega arith in unseen-set xs i x lt e

pub unseen-positive : (xs : List (Option ℕ)) (i : ℕ) → i < length xs → get_or xs i None ≡ None → 0 < unseen xs
unseen-positive xs i l e = let h = unseen-set xs i 0 l e in omega (arith, h)

-- each place seen was met at a later step of the way
pub record IsMet (steps : List Step) (v : ℕ) (here : ℕ) (later : ℕ) : Type 0 where
  pub order : here < later
  pub within : later < length steps
  pub place : (at steps later).place ≡ v
  pub count : ℕ
  pub behind : IsBehind steps count later here

abbrev pub AreBehind : List Step → List (Option ℕ) → ℕ → Type 0
AreBehind steps seen here = (v later : ℕ) → get_or seen v None ≡ Some later → IsMet steps v here later

pub back_more : (steps : List Step) (k i e : ℕ) → back steps k i ≡ e → back steps (suc k) i ≡ (at steps e).before
back_more steps zero i e h = ap (λ x. (at steps x).before) h
back_more steps (suc k) i e h = back_more steps k (at steps i).before e h

pub none_behind : (steps : List Step) (n here : ℕ) → AreBehind steps (replicate n None) here
none_behind steps n here v later e = absurd (none v n e)
  where
    none : (v n : ℕ) → get_or (replicate n None) v None ≡ Some later → ⊥
    none v zero h = cc
    none zero (suc n) h = cc
    none (suc v) (suc n) h = none v n h

module _ (list : List Constraint) (n : ℕ) (steps : List Step) (history : IsHistory list n steps) (seen : List (Option ℕ)) (here : ℕ) (within : here < length steps)
    (wide : length seen ≡ n) (top : ℕ) (left : unseen seen + top ≤ (at steps here).depth + n) (behind : AreBehind steps seen here)
    (free : get_or seen (at steps here).place None ≡ None) where
  -- at the first step of all
  pub few_behind : (at steps here).depth ≡ 0 → top < n
  few_behind first =
      let lt : (at steps here).place < length seen = omega (arith, (history.step here within).place, wide) in
      let u = unseen-positive seen (at steps here).place lt free in
      omega (arith, u)

  module _ (more : (at steps here).depth ≢ 0) where
    given_by : ((((at steps here).depth ≡ 0) × ((at steps here).start ≡ 0)) ⊎ IsGiven list steps here (at steps here)) → IsGiven list steps here (at steps here)
    given_by (inr g) = g
    given_by (inl h) = absurd (more h.0)

    pub given : IsGiven list steps here (at steps here)
    given = given_by (history.step here within).linked

    met_at : (v later : ℕ) → (v ≡ (at steps here).place) ⊎ (v ≡ (at steps here).place → ⊥) → get_or (set seen (at steps here).place (Some here)) v None ≡ Some later
        → IsMet steps v (at steps here).before later
    met_at v later (inl e) h =
        let lt : (at steps here).place < length seen = omega (arith, (history.step here within).place, wide) in
        let s = get_or-set_same seen (at steps here).place (Some here) None lt in
        let h' = rw (e, s) at h in
        let same : here ≡ later = cc in
        rw (← same) (record { order = given.earlier; within = within; place = sym e; count = 1; behind = (refl, given.deeper) })
    met_at v later (inr ne) h =
        let ne' : v ≢ (at steps here).place = ne in
        let m = behind v later (rw (get_or-set_other seen (at steps here).place v (Some here) None ne') at h) in
        record {
          order = omega (arith, given.earlier, m.order);
          within = m.within;
          place = m.place;
          count = suc m.count;
          behind = (back_more steps m.count later here m.behind.0, omega (arith, m.behind.1, given.deeper));
        }

    pub still_behind : AreBehind steps (set seen (at steps here).place (Some here)) (at steps here).before
    still_behind v later h = met_at v later (cases_eq v (at steps here).place) h

    pub still_left : unseen (set seen (at steps here).place (Some here)) + top ≤ (at steps (at steps here).before).depth + n
    still_left =
        let lt : (at steps here).place < length seen = omega (arith, (history.step here within).place, wide) in
        let u = unseen-set seen (at steps here).place here lt free in
        omega (arith, u, given.deeper)

module _ (list : List Constraint) (n : ℕ) (steps : List Step) (history : IsHistory list n steps) (seen : List (Option ℕ)) (here : ℕ) (within : here < length steps) (wide : length seen ≡ n) where
  pub read : (o : Option ℕ) → o ≡ get_or seen (at steps here).place o → o ≡ get_or seen (at steps here).place None
  read o e =
      let lt : (at steps here).place < length seen = omega (arith, (history.step here within).place, wide) in
      get_or_read seen (at steps here).place o lt e None

  pub seen_free : (o : Option ℕ) → o ≡ get_or seen (at steps here).place o → o ≡ None → get_or seen (at steps here).place None ≡ None
  seen_free o e h = sym (read o e) ∙ h

  pub seen_return : AreBehind steps seen here → (o : Option ℕ) → o ≡ get_or seen (at steps here).place o → (later : ℕ) → o ≡ Some later → IsReturn steps later here
  seen_return behind o e later h =
      let m = behind (at steps here).place later (sym (read o e) ∙ h) in
      record { order = m.order; within = m.within; place = sym m.place; count = m.count; behind = m.behind }
