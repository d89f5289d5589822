-- Labels of parts of the code, and where the code begins.
use Rattle.std.proofs.Common.{◌≡◌, ℕ, zero, suc, Bool, true, false, List, [], ◌∷◌, length, length-append, Some, None, refl, sym, ap, ◌∙◌, subst, ⊎_elim, inl, inr, arith}
use Rattle.std.specs.Prelude.{◌⊎◌, slice_get, slice_set}
use Rattle.std.proofs.lemmas.Bool.Decides.{eqb_tells}
use Rattle.std.proofs.lemmas.Option.{slice_get_within}
use Rattle.lists.proofs.Places.{get_front, get_last, set_other}
use Rattle.block_ir.specs.declared.block.Next.TheVariants.{Jump}
use Rattle.block_ir.specs.declared.code.Act.{Act}
use Rattle.block_ir.specs.declared.code.Act.TheVariants.{Return}
use Rattle.block_ir.specs.declared.code.Stage.{Stage}
use Rattle.block_ir.specs.declared.code.Stage.TheVariants as stage
use Rattle.code_places.specs.declared.stages.Stages.{Stages}
use Rattle.code_places.specs.declared.lowering.Lowering.{Lowering}
use Rattle.code_places.specs.Labels.{IsHere, Pushes, with_used, is_used, IsOpen, HasNoPlace, Advances, IsFirst}
use Rattle.code_places.specs.Control.{marked, placed, with_label, LeadsOn, EndsBusy, Jumps, Begins, Binds, Leaps, BeginsStage, ActsAt, EndsCall, IsAtHand, Begun, Waits, BegunOr}
use Rattle.code_places.proofs.LabelSteps.{None_, advances_refl, advances_new, advances_both, advances_label, first_after, labels_more, marks, binds_label}
use Rattle.code_places.proofs.LabelSteps.{pushes_advance, pushed_open, pushed_obeys, busy_may, act_may, pushed_first, leads_advance, led_here}
use Rattle.code_places.proofs.LabelTargets.{target_marked, open_ended, placed_here, here_placed}

-- ---- labels that are led to

pub marks_keep : (used : List Bool) (label other : ℕ) → is_used used other ≡ true → is_used (with_used used label) other ≡ true
marks_keep [] label other e = cc
marks_keep (u ∷ us) zero zero e = refl
marks_keep (u ∷ us) zero (suc other) e = e
marks_keep (u ∷ us) (suc label) zero e = e
marks_keep (u ∷ us) (suc label) (suc other) e = marks_keep us label other e

pub is_marked : (used : List Bool) (label : ℕ) → is_used (with_used used label) label ≡ true
is_marked [] zero = refl
is_marked [] (suc label) = is_marked [] label
is_marked (u ∷ us) zero = refl
is_marked (u ∷ us) (suc label) = is_marked us label

unmarked : (used : List Bool) (label other : ℕ) → (other ≡ label → ⊥) → is_used (with_used used label) other ≡ is_used used other
unmarked [] zero zero apart = absurd (apart refl)
unmarked [] zero (suc other) apart = refl
unmarked [] (suc label) zero apart = refl
unmarked [] (suc label) (suc other) apart = unmarked [] label other (λ e. apart (ap suc e))
unmarked (u ∷ us) zero zero apart = absurd (apart refl)
unmarked (u ∷ us) zero (suc other) apart = refl
unmarked (u ∷ us) (suc label) zero apart = refl
unmarked (u ∷ us) (suc label) (suc other) apart = unmarked us label other (λ e. apart (ap suc e))

-- a new label has no place yet
pub label_open : (label : ℕ) (old new : Lowering) → label ≡ length old.stages.labels → new ≡ with_label old → IsOpen label new.stages
label_open label old new number is = ap (λ (z : Lowering). slice_get z.stages.labels label) is ∙ ap (slice_get (with_label old).stages.labels) number ∙ get_last old.stages.labels None

pub act_next : (act : Act) (next : ℕ) (mid : Lowering) (labelled pushed : Stages) → next ≡ length mid.stages.labels → labelled ≡ (with_label mid).stages → Pushes (stage.Act act next) labelled pushed →
    IsOpen next pushed
act_next act next mid labelled pushed number is pushes =
    pushed_open (stage.Act act next) labelled pushed pushes next
    (ap (λ (z : Stages). slice_get z.labels next) is ∙ ap (slice_get (with_label mid).stages.labels) number ∙ get_last mid.stages.labels None)

-- ---- where the code begins

-- a stage at the place at hand
pub pushed_begun : (stage_ : Stage) (old : Lowering) (mid new : Stages) → Advances None_ old.stages mid → mid.stages.items ≡ old.stages.stages.items →
    ((label : ℕ) → IsHere old.stages label → IsHere mid label) →
    Pushes stage_ mid new → (start : ℕ) → Begun start old → IsFirst start new
pushed_begun stage_ old mid new to_mid items here pushes start (inl hand) =
    pushed_first stage_ mid new pushes start hand.label (items ∙ hand.none) (here hand.label hand.here) (λ stage_of o. hand.alike stage_of (to_mid.obeys stage_of o))
pushed_begun stage_ old mid new to_mid items here pushes start (inr first) =
    let f = first_after None_ old.stages mid start to_mid first in
    record {
      some = (let s = f.some in let long = ap length pushes.stages ∙ length-append mid.stages.items (stage_ ∷ []) in omega (arith, s, long));
      first = λ stage_of o. f.first stage_of (pushed_obeys stage_ mid new pushes stage_of o);
    }

pub label_begun : (start : ℕ) (c : Lowering) → Begun start c → Begun start (with_label c)
label_begun start c (inr first) = inr (first_after None_ c.stages (with_label c).stages start (labels_more c.stages (with_label c).stages refl) first)
label_begun start c (inl hand) = inl (record {
  none = hand.none;
  on = hand.on;
  label = hand.label;
  here = get_front c.stages.labels (None ∷ []) hand.label (Some (length c.stages.places)) hand.here;
  alike = λ stage_of o. hand.alike stage_of ((labels_more c.stages (with_label c).stages refl).obeys stage_of o);
  unused = λ other o. unused_in hand other o;
})
  where
    unused_in : (hand : IsAtHand start c) (other : ℕ) → HasNoPlace other (with_label c).stages → is_used c.stages.used other ≡ false
    unused_in hand other o = hand.unused other (λ number e. o number (get_front c.stages.labels (None ∷ []) other (Some number) e))

-- ---- a label is begun

-- the state that a begun label leaves where nothing was in the way
module _ (label : ℕ) (c : Lowering) (open_ : IsOpen label (marked label c).stages) where
  abbrev after : Lowering
  after = placed label (marked label c)

  pub here_advance : Advances (λ other. other ≡ label) c.stages after.stages
  here_advance =
      advances_label (λ other. other ≡ label) c.stages (marked label c).stages after.stages (marks label c.stages (marked label c).stages refl)
      (binds_label label (marked label c).stages after.stages open_ refl)

  -- another label without a place was one before
  was_open : (other : ℕ) → HasNoPlace other after.stages → (other ≡ label → ⊥) × HasNoPlace other c.stages
  was_open other o = (apart, λ number e. o number (set_other c.stages.labels label other (Some (length c.stages.places)) apart ∙ e))
    where
      apart : other ≡ label → ⊥
      apart e = o (length c.stages.places) (ap (slice_get after.stages.labels) e ∙ placed_here label (marked label c) open_)

  pub unused_after : ((other : ℕ) → (other ≡ label → ⊥) → HasNoPlace other c.stages → is_used c.stages.used other ≡ false) → (other : ℕ) → HasNoPlace other after.stages →
      is_used after.stages.used other ≡ false
  unused_after h other o = let w = was_open other o in unmarked c.stages.used label other w.0 ∙ h other w.0 w.1

  pub here_begun : (start : ℕ) → Begun start c → Begun start after
  here_begun start (inr first) = inr (first_after (λ other. other ≡ label) c.stages after.stages start here_advance first)
  here_begun start (inl hand) = inl (record {
    none = hand.none;
    on = refl;
    label = hand.label;
    here = here_placed label hand.label (marked label c) open_ hand.here;
    alike = λ stage_of o. hand.alike stage_of (here_advance.obeys stage_of o);
    unused = unused_after (λ other apart o. hand.unused other o);
  })

  -- it was waited for
  pub here_waited : (Out : ℕ → Type 0) (start : ℕ) → is_used c.stages.used label ≡ true → IsOpen label c.stages → Waits Out start c → IsAtHand start after
  here_waited Out start used open_before w =
      let none : HasNoPlace label c.stages = λ number e. absurd (let o = open_before in cc) in
      let is : label ≡ w.label = w.alone label none used in
      record {
        none = w.none;
        on = refl;
        label = label;
        here = placed_here label (marked label c) open_;
        alike = λ stage_of o. w.alike stage_of (here_advance.obeys stage_of o) ∙ ap stage_of (sym is);
        unused = unused_after (λ other apart o. by other apart o (is_used c.stages.used other) refl);
      }
    where
      by : (other : ℕ) → (other ≡ label → ⊥) → HasNoPlace other c.stages → (b : Bool) → is_used c.stages.used other ≡ b → is_used c.stages.used other ≡ false
      by other apart o true e = absurd (apart (w.alone other o e ∙ sym (w.alone label (λ number f. absurd (let o = open_before in cc)) used)))
      by other apart o false e = e

module _ (label : ℕ) (old new : Lowering) where
  after_marked : (mid : Lowering) → EndsBusy label (marked label old) mid → Advances None_ old.stages mid.stages
  after_marked mid p =
      advances_both None_ old.stages (marked label old).stages mid.stages (marks label old.stages (marked label old).stages refl)
      (pushes_advance (stage.Run p.ends.block) (marked label old).stages mid.stages p.ends.pushes
      (busy_may p.ends.block (marked label old).stages (let busy = p.busy in let steps = p.ends.closes.steps in omega (arith, busy, steps))))

  pub first_marked : (mid : Lowering) → EndsBusy label (marked label old) mid → (start : ℕ) → Begun start old → IsFirst start mid.stages
  first_marked mid p =
      pushed_begun (stage.Run p.ends.block) old (marked label old).stages mid.stages (marks label old.stages (marked label old).stages refl) refl (λ h here. here) p.ends.pushes

  pub begins_advance : Begins label old new → Advances (λ other. other ≡ label) old.stages new.stages
  begins_advance (inl p) = subst (λ (z : Lowering). Advances (λ other. other ≡ label) old.stages z.stages) (sym p.same) (here_advance label old p.open_)
  begins_advance (inr p) =
      subst (λ (z : Lowering). Advances (λ other. other ≡ label) old.stages z.stages) (sym p.same)
      (advances_label (λ other. other ≡ label) old.stages p.mid.stages (placed label p.mid).stages (after_marked p.mid p.ends)
      (binds_label label p.mid.stages (placed label p.mid).stages (open_ended (Jump label) label (marked label old) p.mid p.ends.ends p.open_) refl))

  pub begins_begun : Begins label old new → (start : ℕ) → Begun start old → Begun start new
  begins_begun (inl p) start begun = subst (Begun start) (sym p.same) (here_begun label old p.open_ start begun)
  begins_begun (inr p) start begun =
      subst (Begun start) (sym p.same)
      (inr (first_after (λ other. other ≡ label) p.mid.stages (placed label p.mid).stages start
      (binds_label label p.mid.stages (placed label p.mid).stages (open_ended (Jump label) label (marked label old) p.mid p.ends.ends p.open_) refl)
      (first_marked p.mid p.ends start begun)))

  pub binds_advance : Binds label old new → Advances (λ other. other ≡ label) old.stages new.stages
  binds_advance (inl p) = subst (λ (z : Lowering). Advances (λ other. other ≡ label) old.stages z.stages) (sym p.same) (advances_refl (λ other. other ≡ label) old.stages)
  binds_advance (inr p) = begins_advance p.begins

  -- once a label has its place it is not waited for
  pub binds_begun : Binds label old new → IsOpen label old.stages → (Out : ℕ → Type 0) (start : ℕ) → BegunOr Out start old → BegunOr (λ l. Out l × (l ≡ label → ⊥)) start new
  binds_begun (inl p) open_ Out start (inl begun) = inl (subst (Begun start) (sym p.same) begun)
  binds_begun (inl p) open_ Out start (inr w) = inr (subst (Waits (λ l. Out l × (l ≡ label → ⊥)) start) (sym p.same) (record {
    none = w.none;
    off = w.off;
    label = w.label;
    out = (w.out, λ e. absurd (let u = w.used in let n = p.unused in let d = ap (is_used old.stages.used) e in cc));
    alike = w.alike;
    used = w.used;
    alone = w.alone;
  }))
  binds_begun (inr p) open_ Out start (inl begun) = inl (begins_begun p.begins start begun)
  binds_begun (inr p) open_ Out start (inr w) = inl (by p.begins)
    where
      by : Begins label old new → Begun start new
      by (inl q) = inl (subst (IsAtHand start) (sym q.same) (here_waited label old q.open_ Out start p.used open_ w))
      by (inr q) = absurd (let a = q.reached in let b = w.off in cc)

  -- ---- it is gone on at a label

  pub jumps_advance : Jumps label old new → Advances None_ old.stages new.stages
  jumps_advance p = by p.way
    where
      by : LeadsOn label (marked label old) new ⊎ EndsBusy label (marked label old) new → Advances None_ old.stages new.stages
      by (inl q) =
          advances_both None_ old.stages (marked label old).stages new.stages (marks label old.stages (marked label old).stages refl)
          (leads_advance label (marked label old).stages new.stages q.settles (target_marked label old p.target))
      by (inr q) = after_marked new q

  pub jumps_begun : Jumps label old new → (start : ℕ) → Begun start old → BegunOr (λ l. l ≡ label) start new
  jumps_begun p start (inr first) = inl (inr (first_after None_ old.stages new.stages start (jumps_advance p) first))
  jumps_begun p start (inl hand) = by p.way
    where
      by : LeadsOn label (marked label old) new ⊎ EndsBusy label (marked label old) new → BegunOr (λ l. l ≡ label) start new
      by (inr q) = inl (inr (first_marked new q start (inl hand)))
      by (inl q) = inr (record {
        none = ap (λ v. v.items) q.settles.stages ∙ hand.none;
        off = ap (λ (z : Lowering). z.reached) q.same;
        label = label;
        out = refl;
        alike = λ stage_of o.
            hand.alike stage_of ((jumps_advance p).obeys stage_of o)
            ∙ led_here label (marked label old).stages new.stages q.settles (target_marked label old p.target) stage_of o hand.label hand.here;
        used = ap (λ us. is_used us label) q.settles.used ∙ is_marked old.stages.used label;
        alone = λ other o used. ⊎_elim (λ t. t.1)
            (λ t. absurd (let was = hand.unused other (λ number e. o number (ap (λ ls. slice_get ls other) q.settles.labels ∙ e)) in
            let is = sym (unmarked old.stages.used label other t.1) ∙ ap (λ us. is_used us other) (sym q.settles.used) ∙ used in cc))
            (eqb_tells other label);
      })

  pub leaps_advance : Leaps label old new → Advances None_ old.stages new.stages
  leaps_advance (inl p) = subst (λ (z : Lowering). Advances None_ old.stages z.stages) (sym p.same) (advances_refl None_ old.stages)
  leaps_advance (inr p) = jumps_advance p.jumps

-- ---- acts

module _ (old new : Lowering) where
  pub stage_advance : BeginsStage old new → Advances None_ old.stages new.stages
  stage_advance (inl p) = subst (λ (z : Lowering). Advances None_ old.stages z.stages) (sym p.same) (advances_refl None_ old.stages)
  stage_advance (inr p) =
      advances_new None_ (λ other. other ≡ p.next) old.stages (with_label old).stages new.stages (labels_more old.stages (with_label old).stages refl)
      (begins_advance p.next (with_label old) new p.begins)
      (λ other e o. absurd (let lt = slice_get_within old.stages.labels other None o in let n = p.next_ in omega (arith, lt, e, n)))

  pub stage_begun : BeginsStage old new → (start : ℕ) → Begun start old → Begun start new
  stage_begun (inl p) start begun = subst (Begun start) (sym p.same) begun
  stage_begun (inr p) start begun = begins_begun p.next (with_label old) new p.begins start (label_begun start old begun)

module _ (act : Act) (old new : Lowering) (a : ActsAt act old new) where
  abbrev placed_ : Stages
  placed_ = record a.pushed { labels = slice_set a.pushed.labels a.next (Some (length a.pushed.places)) }

  label_mid : Advances None_ a.mid.stages (with_label a.mid).stages
  label_mid = labels_more a.mid.stages (with_label a.mid).stages refl

  pub act_open : IsOpen a.next a.pushed
  act_open =
      pushed_open (stage.Act act a.next) (with_label a.mid).stages a.pushed a.pushes a.next
      (ap (slice_get (with_label a.mid).stages.labels) a.next_ ∙ get_last a.mid.stages.labels None)

  mid_pushed : Advances None_ a.mid.stages a.pushed
  mid_pushed = advances_both None_ a.mid.stages (with_label a.mid).stages a.pushed label_mid (pushes_advance (stage.Act act a.next) (with_label a.mid).stages a.pushed a.pushes (act_may act a.next (with_label a.mid).stages))

  pushed_new : Advances (λ other. other ≡ a.next) a.pushed new.stages
  pushed_new = subst (λ (z : Lowering). Advances (λ other. other ≡ a.next) a.pushed z.stages) (sym a.same) (binds_label a.next a.pushed placed_ act_open refl)

  pub acts_after : Advances None_ a.mid.stages new.stages
  acts_after =
      advances_new None_ (λ other. other ≡ a.next) a.mid.stages a.pushed new.stages mid_pushed pushed_new
      (λ other e o. absurd (let lt = slice_get_within a.mid.stages.labels other None o in let n = a.next_ in omega (arith, lt, e, n)))

  pub acts_advance : Advances None_ old.stages new.stages
  acts_advance = advances_both None_ old.stages a.mid.stages new.stages (stage_advance old a.mid a.begins) acts_after

  pub acts_first : (start : ℕ) → Begun start old → IsFirst start new.stages
  acts_first start begun =
      first_after (λ other. other ≡ a.next) a.pushed new.stages start pushed_new
      (pushed_begun (stage.Act act a.next) a.mid (with_label a.mid).stages a.pushed label_mid refl
      (λ label here. get_front a.mid.stages.labels (None ∷ []) label (Some (length a.mid.stages.places)) here) a.pushes start (stage_begun old a.mid a.begins start begun))

module _ (old new : Lowering) (e : EndsCall old new) where
  pub call_after : Advances None_ e.mid.stages new.stages
  call_after = pushes_advance (stage.Act Return 0) e.mid.stages new.stages e.pushes (act_may Return 0 e.mid.stages)

  pub call_advance : Advances None_ old.stages new.stages
  call_advance = advances_both None_ old.stages e.mid.stages new.stages (stage_advance old e.mid e.begins) call_after

  pub call_first : (start : ℕ) → Begun start old → IsFirst start new.stages
  call_first start begun =
      pushed_begun (stage.Act Return 0) e.mid e.mid.stages new.stages (advances_refl None_ e.mid.stages) refl (λ label here. here) e.pushes start (stage_begun old e.mid e.begins start begun)
