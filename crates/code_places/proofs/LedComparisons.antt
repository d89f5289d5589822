-- Where labels have become stages, blocks without steps are comparisons.
use Rattle.std.proofs.Common.{◌≡◌, ℕ, zero, suc, ◌+◌, ◌<◌, ◌≤◌, List, [], ◌∷◌, length, Option, Some, None, sym, ap, ◌∙◌, subst, refl, inl, inr, arith}
use Rattle.std.specs.Prelude.{◌⊎◌, slice_get, slice_index}
use Rattle.lists.proofs.Places.{get_unmapped}
use Rattle.block_ir.specs.declared.block.Block.{Block}
use Rattle.block_ir.specs.declared.code.Stage.{Stage}
use Rattle.block_ir.specs.declared.code.Stage.TheVariants.{Run, Act}
use Rattle.code_following.specs.Idle.{idle_count, TakesStep, LeadsOn, IsComparison, AreComparisons}
use Rattle.code_places.specs.declared.stages.Place.{Place}
use Rattle.code_places.specs.declared.stages.Place.TheVariants as place
use Rattle.code_places.specs.declared.stages.Stages.{Stages}
use Rattle.code_places.specs.Labels.{LeadsTo, IsBusy, AreAhead, IsFit, AreStages, stage_at, led_next, led_stage, led}

-- as many blocks take no step
pub led_count : (stage_of : ℕ → ℕ) (stages : List Stage) → idle_count (led stage_of stages) ≡ idle_count stages
led_count stage_of [] = refl
led_count stage_of (Run b ∷ stages) = let h = led_count stage_of stages in omega (arith, h)
led_count stage_of (Act act next ∷ stages) = let h = led_count stage_of stages in omega (arith, h)

index_past : (xs : List ℕ) (k : ℕ) → length xs ≤ k → slice_index xs k ≡ 0
index_past [] k le = refl
index_past (x ∷ xs) zero le = absurd (omega (arith, le))
index_past (x ∷ xs) (suc k) le = index_past xs k (omega (arith, le))

get_past : {A : Type 0} (xs : List A) (k : ℕ) → slice_get xs k ≡ None → length xs ≤ k
get_past [] k e = omega arith
get_past (x ∷ xs) zero e = cc
get_past (x ∷ xs) (suc k) e = let h = get_past xs k e in omega (arith, h)

module _ (s : Stages) (came : List ℕ) (are : AreStages s.labels s.places (length s.stages.items) came) (fit : IsFit s) (ahead : AreAhead s) (some : 0 < length s.stages.items) where
  -- a later stage than l, or one that takes a step
  abbrev IsOn : ℕ → ℕ → Type 0
  IsOn l n = (l < n) ⊎ IsBusy n s

  first_on : (l : ℕ) → IsOn l 0
  first_on l = inr (some, ahead.first)

  none_there : (number : ℕ) → length s.places ≤ number → slice_index came number ≡ 0
  none_there number le = index_past came number (let size = are.size in omega (arith, size, le))

  -- what a place comes to, by what the places after it come to; there are `left` of these
  module _ (l number : ℕ) (stages : (k n : ℕ) → number ≤ k → slice_get s.places k ≡ Some (place.Stage n) → IsOn l n) where
    place_on : (left k : ℕ) → number ≤ k → length s.places ≤ k + left → IsOn l (slice_index came k)
    place_on zero k le all = subst (IsOn l) (sym (none_there k (omega arith))) (first_on l)
    place_on (suc left) k le all =
        by (slice_get s.places k) refl (λ other later. place_on left other (omega (arith, le, later)) (omega (arith, all, later)))
      where
        same_on : (label : ℕ) → slice_get s.places k ≡ Some (place.Same label) → (o : Option (Option ℕ)) → slice_get s.labels label ≡ o →
            ((other : ℕ) → k < other → IsOn l (slice_index came other)) → IsOn l (stage_at came o)
        same_on label at None e on = first_on l
        same_on label at (Some None) e on = first_on l
        same_on label at (Some (Some other)) e on = on other (fit.later k label other at e)

        by : (o : Option Place) → slice_get s.places k ≡ o → ((other : ℕ) → k < other → IsOn l (slice_index came other)) → IsOn l (slice_index came k)
        by None e on = subst (IsOn l) (sym (none_there k (get_past s.places k e))) (first_on l)
        by (Some (place.Stage n)) e on = subst (IsOn l) (sym (are.each k (place.Stage n) e)) (stages k n le e)
        by (Some (place.Same label)) e on = subst (IsOn l) (sym (are.each k (place.Same label) e)) (same_on label e (slice_get s.labels label) refl on)

  -- where a label of a block without steps leads
  label_on : (l : ℕ) (b : Block) (label : ℕ) → slice_get s.stages.items l ≡ Some (Run b) → b.steps ≡ 0 → LeadsTo b.next label → (o : Option (Option ℕ)) → slice_get s.labels label ≡ o →
      IsOn l (stage_at came o)
  label_on l b label at idle to None e = first_on l
  label_on l b label at idle to (Some None) e = first_on l
  label_on l b label at idle to (Some (Some number)) e =
      place_on l number (λ k n le there. ahead.ahead l b label number k n at idle to e le there) (length s.places) number (omega arith) (omega arith)

  module _ (stage_of : ℕ → ℕ) (table : (label : ℕ) → stage_of label ≡ stage_at came (slice_get s.labels label)) where
    abbrev all : List Stage
    all = led stage_of s.stages.items

    takes_led : (n : ℕ) → IsBusy n s → TakesStep all n
    takes_led n busy x at = let g = get_unmapped (led_stage stage_of) s.stages.items n (Run x) at in by g.0 g.1 g.2
      where
        by : (t : Stage) → slice_get s.stages.items n ≡ Some t → led_stage stage_of t ≡ Run x → 0 < x.steps
        by (Run b) e same =
            let new : record b { next = led_next stage_of b.next } ≡ x = cc in
            let steps = ap (λ (z : Block). z.steps) new in
            let h = busy.1 b e in
            omega (arith, h, steps)
        by (Act act next) e same = absurd cc

    on_led : (l n : ℕ) → IsOn l n → LeadsOn all l n
    on_led l n (inl lt) = inl lt
    on_led l n (inr busy) = inr (takes_led n busy)

    leads_led : (l : ℕ) (b : Block) (label : ℕ) → slice_get s.stages.items l ≡ Some (Run b) → b.steps ≡ 0 → LeadsTo b.next label → LeadsOn all l (stage_of label)
    leads_led l b label at idle to = on_led l (stage_of label) (subst (IsOn l) (sym (table label)) (label_on l b label at idle to (slice_get s.labels label) refl))

    pub led_comparisons : AreComparisons all
    led_comparisons l x at none = let g = get_unmapped (led_stage stage_of) s.stages.items l (Run x) at in by g.0 g.1 g.2
      where
        by : (t : Stage) → slice_get s.stages.items l ≡ Some t → led_stage stage_of t ≡ Run x → IsComparison all l x
        by (Act act next) e same = absurd cc
        by (Run b) e same =
            let new : record b { next = led_next stage_of b.next } ≡ x = cc in
            let idle : b.steps ≡ 0 = ap (λ (z : Block). z.steps) new ∙ none in
            let is = ahead.choices l b e idle in
            record {
              one = subst (λ (z : Block). length z.operations ≤ 1) new is.one;
              test = is.test;
              nonzero = stage_of is.nonzero;
              zero_ = stage_of is.otherwise;
              next = sym (ap (λ (z : Block). z.next) new) ∙ ap (led_next stage_of) is.next;
              on_nonzero = leads_led l b is.nonzero e idle (subst (λ nx. LeadsTo nx is.nonzero) (sym is.next) (inl refl));
              on_zero = leads_led l b is.otherwise e idle (subst (λ nx. LeadsTo nx is.otherwise) (sym is.next) (inr refl));
            }
