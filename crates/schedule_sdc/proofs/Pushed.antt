-- One more step.
use Rattle.std.proofs.Common.{◌≡◌, ◌≢◌, ℕ, ◌<◌, ◌≤◌, ◌+◌, List, [], ◌∷◌, ◌++◌, length, get_or, set, arith, pos, ◌+ℤ◌, ◌^◌, refl, ap, sym, ◌∙◌, ◌⊎◌, inl, inr, get_or-set_other, get_or-set_same}
use Rattle.std.specs.List.{All, Contains}
use Rattle.std.proofs.lemmas.List.{get_or_append_left, get_or_push, length_push, length-set, get_or_read}
use Rattle.std.proofs.lemmas.Bool.{cases_eq, cases_lt}
use Rattle.schedule_sdc.specs.declared.constraint.Constraint.{Constraint}
use Rattle.schedule_sdc.specs.declared.history.Step.{Step}
use Rattle.schedule_sdc.specs.History.{at, nowhere, IsGiven, IsStep, IsLatest, IsSound, IsShallow, IsChange}
use Rattle.schedule_sdc.specs.declared.history.Change.TheVariants.{Raised}
use Rattle.std.proofs.lemmas.List.Elements.{All-contains}
use Rattle.schedule_sdc.proofs.Gaps.{one_more, in_range}

pub at_old : (steps : List Step) (e : Step) (i : ℕ) → i < length steps → at (steps ++ e ∷ []) i ≡ at steps i
at_old steps e i l = get_or_append_left steps (e ∷ []) nowhere i l

pub at_new : (steps : List Step) (e : Step) → at (steps ++ e ∷ []) (length steps) ≡ e
at_new steps e = get_or_push steps e nowhere (length steps) refl

given_kept : (list : List Constraint) (steps : List Step) (e : Step) (i : ℕ) (s : Step) → i < length steps → IsGiven list steps i s → IsGiven list (steps ++ e ∷ []) i s
given_kept list steps e i s l g =
    let lt : s.before < length steps = omega (arith, g.earlier) in
    let q = at_old steps e s.before lt in
    record { earlier = g.earlier; by = g.by; listed = g.listed; leaves = rw q g.leaves; reaches = g.reaches; sum = rw q g.sum; deeper = rw q g.deeper }

linked_kept : (list : List Constraint) (steps : List Step) (e : Step) (i : ℕ) (s : Step) → i < length steps → ((s.depth ≡ 0) × (s.start ≡ 0)) ⊎ IsGiven list steps i s
    → ((s.depth ≡ 0) × (s.start ≡ 0)) ⊎ IsGiven list (steps ++ e ∷ []) i s
linked_kept list steps e i s l (inl h) = inl h
linked_kept list steps e i s l (inr g) = inr (given_kept list steps e i s l g)

module _ (list : List Constraint) (n : ℕ) (starts last : List ℕ) (steps : List Step) (sound : IsSound list n starts last steps) (c : Constraint) (listed : Contains list c)
    (from : c.from < n) (to : c.to < n) where
  abbrev pub source : Step
  source = at steps (get_or last c.from 0)

  pub source_start : source.start ≡ get_or starts c.from 0
  source_start = (sound.latest c.from from).start

  module _ (v : ℕ) (sum : pos (get_or starts c.from 0) +ℤ c.gap ≡ pos v) (risen : get_or starts c.to 0 < v) (near : v ≤ source.start + 2 ^ 63) (shallow : IsShallow n steps) where
    abbrev pub made : Step
    made = record { place = c.to; before = get_or last c.from 0; depth = source.depth + 1; start = v }

    made_step : IsStep list n (steps ++ made ∷ []) (length steps) made
    made_step =
        let from_latest = sound.latest c.from from in
        let w : get_or last c.from 0 < length steps = from_latest.within in
        let q = at_old steps made (get_or last c.from 0) w in
        let sh = shallow (get_or last c.from 0) w in
        let small = (sound.history.step (get_or last c.from 0) w).small in
        let sum' : pos source.start +ℤ c.gap ≡ pos v = rw source_start sum in
        record {
          place = to;
          depth = omega (arith, sh);
          small = one_more source.start source.depth v small near;
          linked = inr (record { earlier = w; by = c; listed = listed; leaves = rw q (sym from_latest.place); reaches = refl; sum = rw q sum'; deeper = rw q refl });
        }

    old_step : (i : ℕ) → i < length steps → IsStep list n (steps ++ made ∷ []) i (at steps i)
    old_step i l =
        let s = sound.history.step i l in
        record { place = s.place; depth = s.depth; small = s.small; linked = linked_kept list steps made i (at steps i) l s.linked }

    any_step : (i : ℕ) → i < length (steps ++ made ∷ []) → (i < length steps) ⊎ (length steps ≤ i) → IsStep list n (steps ++ made ∷ []) i (at (steps ++ made ∷ []) i)
    any_step i l (inl h) = rw (at_old steps made i h) (old_step i h)
    any_step i l (inr h) =
        let e : i ≡ length steps = omega (arith, length_push steps made) in
        rw e (rw (at_new steps made) made_step)

    rising : (i j : ℕ) → i < j → j < length (steps ++ made ∷ []) → (j < length steps) ⊎ (length steps ≤ j) → (at (steps ++ made ∷ []) i).place ≡ (at (steps ++ made ∷ []) j).place
        → (at (steps ++ made ∷ []) i).start < (at (steps ++ made ∷ []) j).start
    rising i j lt l (inl h) same =
        let hi : i < length steps = omega arith in
        let qi = at_old steps made i hi in
        let qj = at_old steps made j h in
        rw (qi, qj) (sound.history.rising i j lt h (rw (qi, qj) at same))
    rising i j lt l (inr h) same =
        let e : j ≡ length steps = omega (arith, length_push steps made) in
        let hi : i < length steps = omega arith in
        let qi = at_old steps made i hi in
        let qj : at (steps ++ made ∷ []) j ≡ made = rw e (at_new steps made) in
        let same' : (at steps i).place ≡ c.to = rw (qi, qj) at same in
        let p : (at steps i).start ≤ get_or starts (at steps i).place 0 = sound.passed i hi in
        let p' : (at steps i).start ≤ get_or starts c.to 0 = rw same' at p in
        rw (qi, qj) (omega (arith, p', risen))

    latest : (w : ℕ) → w < n → (w ≡ c.to) ⊎ (w ≡ c.to → ⊥) → IsLatest (set starts c.to v) (steps ++ made ∷ []) w (get_or (set last c.to (length steps)) w 0)
    latest w l (inl e) =
        let lt : c.to < length last = omega (arith, sound.last_length) in
        let ls : c.to < length starts = omega (arith, sound.starts_length) in
        let k = get_or-set_same last c.to (length steps) 0 lt in
        let q = at_new steps made in
        rw e (rw k (record { within = omega (arith, length_push steps made); place = rw q refl; start = rw (q, get_or-set_same starts c.to v 0 ls) refl }))
    latest w l (inr ne) =
        let ne' : w ≢ c.to = ne in
        let old = sound.latest w l in
        let k = get_or-set_other last c.to w (length steps) 0 ne' in
        let q = at_old steps made (get_or last w 0) old.within in
        rw k (record { within = omega (arith, length_push steps made, old.within); place = rw q old.place; start = rw (q, get_or-set_other starts c.to w v 0 ne') old.start })

    passed_old : (i : ℕ) → i < length steps → ((at steps i).place ≡ c.to) ⊎ ((at steps i).place ≡ c.to → ⊥) → (at steps i).start ≤ get_or (set starts c.to v) (at steps i).place 0
    passed_old i l (inl e) =
        let ls : c.to < length starts = omega (arith, sound.starts_length) in
        let p : (at steps i).start ≤ get_or starts (at steps i).place 0 = sound.passed i l in
        let p' : (at steps i).start ≤ get_or starts c.to 0 = rw e at p in
        rw (e, get_or-set_same starts c.to v 0 ls) (omega (arith, p', risen))
    passed_old i l (inr ne) =
        let ne' : (at steps i).place ≢ c.to = ne in
        rw (get_or-set_other starts c.to (at steps i).place v 0 ne') (sound.passed i l)

    passed : (i : ℕ) → i < length (steps ++ made ∷ []) → (i < length steps) ⊎ (length steps ≤ i) → (at (steps ++ made ∷ []) i).start ≤ get_or (set starts c.to v) (at (steps ++ made ∷ []) i).place 0
    passed i l (inl h) = rw (at_old steps made i h) (passed_old i h (cases_eq (at steps i).place c.to))
    passed i l (inr h) =
        let e : i ≡ length steps = omega (arith, length_push steps made) in
        let q : at (steps ++ made ∷ []) i ≡ made = rw e (at_new steps made) in
        let ls : c.to < length starts = omega (arith, sound.starts_length) in
        rw (q, get_or-set_same starts c.to v 0 ls) (omega arith)

    pub pushed_sound : IsSound list n (set starts c.to v) (set last c.to (length steps)) (steps ++ made ∷ [])
    pushed_sound = record {
      starts_length = length-set starts c.to v ∙ sound.starts_length;
      last_length = length-set last c.to (length steps) ∙ sound.last_length;
      latest = λ w l. latest w l (cases_eq w c.to);
      history = record { step = λ i l. any_step i l (cases_lt i (length steps)); rising = λ i j lt l. rising i j lt l (cases_lt j (length steps)) };
      passed = λ i l. passed i l (cases_lt i (length steps));
    }

    shallow_at : source.depth + 1 < n → (i : ℕ) → i < length (steps ++ made ∷ []) → (i < length steps) ⊎ (length steps ≤ i) → (at (steps ++ made ∷ []) i).depth < n
    shallow_at d i l (inl h) = rw (at_old steps made i h) (shallow i h)
    shallow_at d i l (inr h) =
        let e : i ≡ length steps = omega (arith, length_push steps made) in
        let q : at (steps ++ made ∷ []) i ≡ made = rw e (at_new steps made) in
        rw q d

    pub pushed_shallow : source.depth + 1 < n → IsShallow n (steps ++ made ∷ [])
    pushed_shallow d = λ i l. shallow_at d i l (cases_lt i (length steps))

abbrev pub step_to : ℕ → ℕ → ℕ → ℕ → Step
step_to place before depth start = record { place = place; before = before; depth = depth; start = start }

-- what is read before a constraint is looked at
pub record IsRead (list : List Constraint) (n : ℕ) (starts last : List ℕ) (steps : List Step) (c : Constraint) (before : ℕ) (from : Step) (to : ℕ) : Type 0 where
  pub from_in : c.from < n
  pub to_in : c.to < n
  pub before_is : before ≡ get_or last c.from 0
  pub from_is : from ≡ at steps (get_or last c.from 0)
  pub to_is : to ≡ get_or starts c.to 0
  pub start_is : from.start ≡ get_or starts c.from 0
  pub from_small : n < 2 ^ 64 → from.start < 2 ^ 127
  pub depth : from.depth < n

pub all_read : (list : List Constraint) (n : ℕ) (starts last : List ℕ) (steps : List Step) → IsSound list n starts last steps → IsShallow n steps → (c : Constraint)
    → Contains list c → All (λ d. (d.from < n) × (d.to < n)) list
    → (before : ℕ) → before ≡ get_or last c.from before → (from : Step) → from ≡ get_or steps before from → (to : ℕ) → to ≡ get_or starts c.to to → IsRead list n starts last steps c before from to
all_read list n starts last steps sound shallow c listed places before be from fe to te =
    let inside : (c.from < n) × (c.to < n) = All-contains (λ (d : Constraint). (d.from < n) × (d.to < n)) list c places listed in
    let from_in = inside.0 in
    let to_in = inside.1 in
    let last_in : c.from < length last = omega (arith, sound.last_length) in
    let starts_in : c.to < length starts = omega (arith, sound.starts_length) in
    let b : before ≡ get_or last c.from 0 = get_or_read last c.from before last_in be 0 in
    let lf = sound.latest c.from from_in in
    let lt = sound.latest c.to to_in in
    let within : before < length steps = rw b lf.within in
    let f : from ≡ at steps before = get_or_read steps before from within fe nowhere in
    let f' : from ≡ at steps (get_or last c.from 0) = rw (← b) f in
    let t : to ≡ get_or starts c.to 0 = get_or_read starts c.to to starts_in te 0 in
    let sf = sound.history.step (get_or last c.from 0) lf.within in
    let few = shallow (get_or last c.from 0) lf.within in
    record {
      from_in = from_in;
      to_in = to_in;
      before_is = b;
      from_is = f';
      to_is = t;
      start_is = ap (λ (x : Step). x.start) f' ∙ lf.start;
      from_small = λ fits. rw f' (in_range n _ _ few fits sf.small);
      depth = rw f' few;
    }

module _ (list : List Constraint) (n : ℕ) (starts last : List ℕ) (steps : List Step) (sound : IsSound list n starts last steps) (shallow : IsShallow n steps) (c : Constraint)
    (listed : Contains list c) (before : ℕ) (from : Step) (to : ℕ) (r : IsRead list n starts last steps c before from to) (v top : ℕ) (new : List Step) (risen : to < v)
    (near : v ≤ from.start + 2 ^ 63) (sum : pos from.start +ℤ c.gap ≡ pos v) (top_is : top ≡ length steps) (new_is : new ≡ steps ++ step_to c.to before (from.depth + 1) v ∷ []) where
  sum_is : pos (get_or starts c.from 0) +ℤ c.gap ≡ pos v
  sum_is = rw r.start_is at sum

  risen_is : get_or starts c.to 0 < v
  risen_is = rw r.to_is at risen

  near_is : v ≤ (at steps (get_or last c.from 0)).start + 2 ^ 63
  near_is = rw r.from_is at near

  pub rose_sound : IsSound list n (set starts c.to v) (set last c.to top) new
  rose_sound = rw (new_is, top_is, r.before_is, r.from_is) (pushed_sound list n starts last steps sound c listed r.from_in r.to_in v sum_is risen_is near_is shallow)

  pub rose_shallow : from.depth + 1 < n → IsShallow n new
  rose_shallow d =
      let d' : (at steps (get_or last c.from 0)).depth + 1 < n = rw r.from_is at d in
      rw (new_is, r.before_is, r.from_is) (pushed_shallow list n starts last steps sound c listed r.from_in r.to_in v sum_is risen_is near_is shallow d')

  pub rose_change : from.depth + 1 < n → IsChange c n starts (set starts c.to v) new Raised
  rose_change d = ((v, refl, risen_is, sum_is), rose_shallow d)
