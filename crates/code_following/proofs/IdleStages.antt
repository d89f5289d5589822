-- Blocks without steps lead on, so no more of them follow one another than there are.
use Rattle.std.proofs.Common.{◌≡◌, ℕ, zero, suc, ◌+◌, ◌-◌, ◌<◌, ◌≤◌, List, [], ◌∷◌, Option, Some, None, sym, ap, ◌∙◌, subst, refl, ⊎_elim, inl, inr, arith}
use Rattle.std.specs.Prelude.{slice_get, slice_set}
use Rattle.lists.proofs.Places.{set_element}
use Rattle.block_ir.specs.declared.block.Block.{Block}
use Rattle.block_ir.specs.declared.code.Stage.{Stage}
use Rattle.block_ir.specs.declared.code.Stage.TheVariants as stage
use Rattle.code_following.specs.Idle.{idle_stage, idle_count, idle_from, TakesStep, LeadsOn, IsComparison, AreComparisons, idle_at, fall_of, fall}

pub from_most : (stages : List Stage) (l : ℕ) → idle_from stages l ≤ idle_count stages
from_most [] l = omega arith
from_most (s ∷ stages) zero = omega arith
from_most (s ∷ stages) (suc l) = let h = from_most stages l in omega (arith, h)

-- those from a later stage on, and this one
from_later : (stages : List Stage) (l k : ℕ) (s : Stage) → slice_get stages l ≡ Some s → l < k → idle_from stages k + idle_stage s ≤ idle_from stages l
from_later [] l k s at lt = absurd cc
from_later (t ∷ stages) zero zero s at lt = absurd (omega (arith, lt))
from_later (t ∷ stages) zero (suc k) s at lt =
    let same : t ≡ s = cc in
    let e = ap idle_stage same in
    let h = from_most stages k in
    omega (arith, e, h)
from_later (t ∷ stages) (suc l) zero s at lt = absurd (omega (arith, lt))
from_later (t ∷ stages) (suc l) (suc k) s at lt = from_later stages l k s at (omega (arith, lt))

fall_within : (n behind : ℕ) → fall_of n behind ≤ behind
fall_within zero behind = omega arith
fall_within (suc n) behind = omega arith

pub fall_most : (stages : List Stage) (l : ℕ) → fall stages l ≤ idle_count stages
fall_most stages l =
    let here = fall_within (idle_at (slice_get stages l)) (idle_from stages l) in
    let most = from_most stages l in
    omega (arith, here, most)

-- none from a stage that takes a step
fall_none : (stages : List Stage) (l : ℕ) → TakesStep stages l → fall stages l ≡ 0
fall_none stages l takes = ap (λ n. fall_of n (idle_from stages l)) (by (slice_get stages l) refl)
  where
    by : (o : Option Stage) → slice_get stages l ≡ o → idle_at o ≡ 0
    by None e = refl
    by (Some (stage.Run b)) e = let h = takes b e in omega (arith, h)
    by (Some (stage.Act a next)) e = refl

module _ (stages : List Stage) (l : ℕ) (b : Block) (at : slice_get stages l ≡ Some (stage.Run b)) (none : b.steps ≡ 0) where
  fall_here : fall stages l ≡ idle_from stages l
  fall_here = ap (λ (o : Option Stage). fall_of (idle_at o) (idle_from stages l)) at ∙ ap (λ n. fall_of (1 - n) (idle_from stages l)) none

  -- FALLS: fewer may follow from where a block without steps leads on to
  pub falls : (k : ℕ) → LeadsOn stages l k → fall stages k < fall stages l
  falls k (inl lt) =
      let here = fall_here in
      let later = from_later stages l k (stage.Run b) at lt in
      let within = fall_within (idle_at (slice_get stages k)) (idle_from stages k) in
      omega (arith, none, here, later, within)
  falls k (inr takes) =
      let here = fall_here in
      let no = fall_none stages k takes in
      let some = from_later stages l (suc l) (stage.Run b) at (omega arith) in
      omega (arith, none, here, no, some)

-- with another stage at l
pub count_set : (stages : List Stage) (l : ℕ) (s t : Stage) → slice_get stages l ≡ Some s →
    idle_count (slice_set stages l t) + idle_stage s ≡ idle_count stages + idle_stage t
count_set [] l s t at = absurd cc
count_set (x ∷ stages) zero s t at = let same : x ≡ s = cc in let e = ap idle_stage same in omega (arith, e)
count_set (x ∷ stages) (suc l) s t at = let h = count_set stages l s t at in omega (arith, h)

-- ---- another block at l: what takes a step still does, and a block that takes none is a comparison

idle_same : (x y : ℕ) → (0 < x → 0 < y) → (0 < y → 0 < x) → 1 - y ≡ 1 - x
idle_same zero zero busy still = refl
idle_same zero (suc y) busy still = absurd (let h = still (omega arith) in omega (arith, h))
idle_same (suc x) zero busy still = absurd (let h = busy (omega arith) in omega (arith, h))
idle_same (suc x) (suc y) busy still = omega arith

module _ (stages : List Stage) (l : ℕ) (b c : Block) (at : slice_get stages l ≡ Some (stage.Run b)) (busy : 0 < b.steps → 0 < c.steps) where
  abbrev changed : List Stage
  changed = slice_set stages l (stage.Run c)

  pub count_changed : (0 < c.steps → 0 < b.steps) → idle_count changed ≡ idle_count stages
  count_changed still =
      let h = count_set stages l (stage.Run b) (stage.Run c) at in
      let same = idle_same b.steps c.steps busy still in
      omega (arith, h, same)

  takes_changed : (k : ℕ) → TakesStep stages k → TakesStep changed k
  takes_changed k takes x e =
      ⊎_elim
      (λ p. let same : x ≡ c = (let h : stage.Run x ≡ stage.Run c = p.1 in cc) in
      let some = busy (takes b (ap (slice_get stages) p.0 ∙ at)) in let steps = ap (λ (z : Block). z.steps) same in omega (arith, some, steps))
      (λ p. takes x p.1)
      (set_element stages l k (stage.Run c) (stage.Run x) e)

  leads_changed : (k m : ℕ) → LeadsOn stages k m → LeadsOn changed k m
  leads_changed k m (inl lt) = inl lt
  leads_changed k m (inr takes) = inr (takes_changed m takes)

  comparison_changed : (k : ℕ) (x : Block) → IsComparison stages k x → IsComparison changed k x
  comparison_changed k x is = record {
    one = is.one;
    test = is.test;
    nonzero = is.nonzero;
    zero_ = is.zero_;
    next = is.next;
    on_nonzero = leads_changed k is.nonzero is.on_nonzero;
    on_zero = leads_changed k is.zero_ is.on_zero;
  }

  pub comparisons_changed : (c.steps ≡ 0 → IsComparison stages l c) → AreComparisons stages → AreComparisons changed
  comparisons_changed compares are k x e none =
      comparison_changed k x
      (⊎_elim
      (λ p. let same : c ≡ x = (let h : stage.Run x ≡ stage.Run c = p.1 in cc) in
      let steps = ap (λ (z : Block). z.steps) same in
      subst (IsComparison stages k) same (subst (λ n. IsComparison stages n c) (sym p.0) (compares (omega (arith, none, steps)))))
      (λ p. are k x p.1 none)
      (set_element stages l k (stage.Run c) (stage.Run x) e))
