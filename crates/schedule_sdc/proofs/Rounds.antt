-- One round over the constraints.
use Rattle.std.proofs.Common.{◌≡◌, ◌≢◌, ℕ, ◌<◌, ◌≤◌, ◌*◌, ◌^◌, ◌+◌, List, length, get_or, set, take, arith, ap, subst, sym, ◌∙◌, ◌⊎◌}
use Rattle.std.proofs.Common.{inl, inr, pos, ◌+ℤ◌, ◌≤ℤ◌, Bool, true, false, get_or-set_other, get_or-set_same}
use Rattle.std.specs.List.{All, Contains, sum}
use Rattle.std.proofs.lemmas.Int.{ints}
use Rattle.std.proofs.lemmas.Bool.{cases_eq}
use Rattle.std.proofs.lemmas.List.{get_or_default, take_all}
use Rattle.std.proofs.lemmas.List.Sums.{sum_by-set, sum_by-le}
use Rattle.std.proofs.lemmas.List.Elements.{All-contains, All-more}
use Rattle.std.proofs.Math.Nat.{mul-le-mul_right}
use Rattle.schedule_sdc.specs.declared.constraint.Constraint.{Constraint}
use Rattle.schedule_sdc.specs.declared.history.Step.{Step}
use Rattle.schedule_sdc.specs.Solution.{Meets, IsSolution, IsLeast}
use Rattle.schedule_sdc.specs.History.{at, IsSound, IsShallow, IsChange}
use Rattle.schedule_sdc.specs.declared.history.Change.{Change}
use Rattle.schedule_sdc.specs.declared.history.Change.TheVariants.{Kept, Raised}
use Rattle.schedule_sdc.proofs.Pushed.{step_to}
use Rattle.schedule_sdc.specs.Relaxed.{AreEarly, IsRise}

early_at : (list : List Constraint) (n : ℕ) (starts : List ℕ) → length starts ≡ n → AreEarly list n starts → (c : Constraint) → Contains list c → c.from < n → c.to < n → (v : ℕ)
    → pos (get_or starts c.from 0) +ℤ c.gap ≡ pos v → (t : ℕ → ℕ) → IsSolution list t → (i : ℕ) → i < n → (i ≡ c.to) ⊎ (i ≡ c.to → ⊥) → get_or (set starts c.to v) i 0 ≤ t i
early_at list n starts len early c listed from to v sum t solves i l (inl e) =
    let ls : c.to < length starts = omega arith in
    let m : (pos (t c.from) +ℤ c.gap) ≤ℤ pos (t c.to) = All-contains (Meets t) list c solves listed in
    let b = early t solves c.from from in
    let te : t i ≡ t c.to = ap t e in
    rw (e, get_or-set_same starts c.to v 0 ls) (omega (arith, ints, m, b, sum))
early_at list n starts len early c listed from to v sum t solves i l (inr ne) =
    let ne' : i ≢ c.to = ne in
    rw (get_or-set_other starts c.to i v 0 ne') (early t solves i l)

pub still_early : (list : List Constraint) (n : ℕ) (old new : List ℕ) → length old ≡ n → AreEarly list n old → (c : Constraint) → Contains list c
    → All (λ d. (d.from < n) × (d.to < n)) list → IsRise c old new → AreEarly list n new
still_early list n old new len early c listed places r =
    let inside : (c.from < n) × (c.to < n) = All-contains (λ (d : Constraint). (d.from < n) × (d.to < n)) list c places listed in
    λ t solves i l. rw r.1 (early_at list n old len early c listed inside.0 inside.1 r.0 r.3 t solves i l (cases_eq i c.to))

pub larger : (list : List Constraint) (n : ℕ) (old new : List ℕ) → length old ≡ n → (c : Constraint) → Contains list c → All (λ d. (d.from < n) × (d.to < n)) list
    → IsRise c old new → sum old < sum new
larger list n old new len c listed places r =
    let inside : (c.from < n) × (c.to < n) = All-contains (λ (d : Constraint). (d.from < n) × (d.to < n)) list c places listed in
    let ls : c.to < length old = omega (arith, inside.1) in
    let s = sum_by-set (λ (x : ℕ). x) old c.to r.0 0 ls in
    rw r.1 (omega (arith, s, r.2))

-- how far a round has come: it raised some start, or all constraints so far are met
abbrev pub IsRound : Bool → List ℕ → List ℕ → List Constraint → Type 0
IsRound false old new done = (old ≡ new) × All (Meets (λ i. get_or new i 0)) done
IsRound true old new done = sum old < sum new

-- the starts are bounded, so the rounds end
pub bounded : (list : List Constraint) (n : ℕ) (starts last : List ℕ) (steps : List Step) → IsSound list n starts last steps → (i : ℕ) → i < n → get_or starts i 0 ≤ n * 2 ^ 63
bounded list n starts last steps sound i l =
    let k = sound.latest i l in
    let s = sound.history.step (get_or last i 0) k.within in
    let m = mul-le-mul_right (2 ^ 63) s.depth in
    omega (arith, m, s.small, k.start)

bounded_at : (list : List Constraint) (n : ℕ) (starts last : List ℕ) (steps : List Step) → IsSound list n starts last steps → (i d : ℕ) → i < length starts → get_or starts i d ≤ n * 2 ^ 63
bounded_at list n starts last steps sound i d l =
    let l' : i < n = omega (arith, sound.starts_length) in
    let b = bounded list n starts last steps sound i l' in
    let e : get_or starts i d ≡ get_or starts i 0 = get_or_default starts i d 0 l in
    omega arith

pub sum_bounded : (list : List Constraint) (n : ℕ) (starts last : List ℕ) (steps : List Step) → IsSound list n starts last steps → sum starts ≤ n * (n * 2 ^ 63)
sum_bounded list n starts last steps sound =
    let h = sum_by-le (λ (x : ℕ). x) (n * 2 ^ 63) starts (λ i d l. bounded_at list n starts last steps sound i d l) in
    rw sound.starts_length at h

-- one more constraint
pub round_kept : (b : Bool) (old new newer : List ℕ) (list : List Constraint) (k : ℕ) (c : Constraint) → k < length list → c ≡ get_or list k c → new ≡ newer
    → Meets (λ i. get_or newer i 0) c → IsRound b old new (take k list) → IsRound b old newer (take (k + 1) list)
round_kept false old new newer list k c l e same m r =
    let h : All (Meets (λ i. get_or newer i 0)) (take k list) = rw same at r.1 in
    (r.0 ∙ same, All-more (Meets (λ i. get_or newer i 0)) list k c l h (subst (λ (d : Constraint). Meets (λ i. get_or newer i 0) d) e m))
round_kept true old new newer list k c l e same m r = rw same at r

pub round_raised : (b : Bool) (old new newer : List ℕ) (list : List Constraint) → sum new < sum newer → IsRound b old new list → sum old < sum newer
round_raised false old new newer list s r = let e : sum old ≡ sum new = ap sum r.0 in omega arith
round_raised true old new newer list s r = let h : sum old < sum new = r in omega arith

-- how the history begins
pub record IsBegun (k : ℕ) (last : List ℕ) (steps : List Step) : Type 0 where
  pub last_length : length last ≡ k
  pub steps_length : length steps ≡ k
  pub last_at : (i : ℕ) → i < k → get_or last i 0 ≡ i
  pub step_at : (i : ℕ) → i < k → at steps i ≡ step_to i i 0 0

pub round_grew : (b : Bool) (old new : List ℕ) (done : List Constraint) → b ≡ true → IsRound b old new done → sum old < sum new
round_grew b old new done e r = rw e at r

-- what holds inside a round, before constraint k
pub record InRound (list : List Constraint) (n : ℕ) (starts last : List ℕ) (steps : List Step) (raised : Bool) (old : List ℕ) (k : ℕ) : Type 0 where
  pub sound : IsSound list n starts last steps
  pub shallow : IsShallow n steps
  pub early : AreEarly list n starts
  pub round : IsRound raised old starts (take k list)

-- after a round that raised nothing the starts are least
pub least_after : (list : List Constraint) (n : ℕ) (starts last : List ℕ) (steps : List Step) (raised : Bool) (old : List ℕ) (k : ℕ)
    → InRound list n starts last steps raised old k → k ≡ length list → raised ≡ false → IsLeast n list starts
least_after list n starts last steps raised old k now all none =
    let round : IsRound false old starts (take (length list) list) = rw (all, none) at now.round in
    let le : length list ≤ length list = omega arith in
    let met : All (Meets (λ i. get_or starts i 0)) list = rw (take_all (length list) list le) at round.1 in
    record { places = now.sound.starts_length; meets = met; least = now.early }

module _ (list : List Constraint) (places : ℕ) (starts last : List ℕ) (steps : List Step) (raised : Bool) (old : List ℕ) (k : ℕ)
    (now : InRound list places starts last steps raised old k) (l : k < length list) (c : Constraint) (is : c ≡ get_or list k c)
    (inside : All (λ d. (d.from < places) × (d.to < places)) list) (newer later : List ℕ) (longer : List Step) (change : Change)
    (sound : IsSound list (length starts) newer later longer) (does : IsChange c (length starts) starts newer longer change) where
  same_length : length starts ≡ places
  same_length = now.sound.starts_length

  pub next_kept : (b : Bool) → change ≡ Kept → b ≡ raised → InRound list places newer later longer b old (k + 1)
  next_kept b e f =
      let d : IsChange c (length starts) starts newer longer Kept = rw e at does in
      let early' : AreEarly list places newer = rw (← d.0) now.early in
      record {
        sound = rw (← same_length) sound;
        shallow = rw (← same_length) d.2;
        early = early';
        round = rw f (round_kept raised old starts newer list k c l is d.0 d.1 now.round);
      }

  pub next_raised : (b : Bool) → change ≡ Raised → b ≡ true → InRound list places newer later longer b old (k + 1)
  next_raised b e f =
      let d : IsChange c (length starts) starts newer longer Raised = rw e at does in
      let listed : Contains list c = (k, l, sym is) in
      record {
        sound = rw (← same_length) sound;
        shallow = rw (← same_length) d.1;
        early = still_early list places starts newer same_length now.early c listed inside d.0;
        round = rw f (round_raised raised old starts newer (take k list) (larger list places starts newer same_length c listed inside d.0) now.round);
      }

abbrev pub origin : Constraint
origin = record { from = 0; to = 0; gap = pos 0 }
