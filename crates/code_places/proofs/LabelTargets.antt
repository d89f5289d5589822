-- Where code with labels goes on.
use Rattle.std.proofs.Common.{◌≡◌, ℕ, suc, ◌+◌, ◌<◌, ◌≤◌, Bool, true, false, List, [], ◌∷◌, ◌++◌, length, ℤ, Option, Some, None, refl, sym, ap, ◌∙◌, subst, inl, inr, arith}
use Rattle.std.proofs.Common.{append-nil, append_assoc}
use Rattle.std.specs.Prelude.{slice_get, ◌⊎◌}
use Rattle.std.proofs.lemmas.Option.{slice_get_within}
use Rattle.lists.proofs.Places.{set_other, set_same}
use Rattle.thread_semantics.specs.Work.{Work}
use Rattle.thread_semantics.specs.State.{Frame}
use Rattle.block_ir.specs.declared.operand.Operand.{Operand}
use Rattle.block_ir.specs.declared.block.Next.{Next}
use Rattle.block_ir.specs.declared.block.Next.TheVariants.{Jump, Branch}
use Rattle.block_ir.specs.declared.block.Block.{Block}
use Rattle.block_ir.specs.declared.code.Stage.{Stage}
use Rattle.block_ir.specs.declared.code.Stage.TheVariants as stage
use Rattle.block_ir.specs.Run.{Running, leads_to, variables_after, stage_after}
use Rattle.code_following.specs.Following.{Follows}
use Rattle.code_blocks.specs.declared.homes.Home.{Home}
use Rattle.code_blocks.specs.declared.homes.Home.TheVariants as home
use Rattle.code_places.specs.declared.stages.Stages.{Stages}
use Rattle.code_places.specs.declared.lowering.Lowering.{Lowering}
use Rattle.code_blocks.specs.Evaluating.{local_value, held_by}
use Rattle.code_blocks.specs.Closing.{HasNoted, IsFresh, Closes}
use Rattle.code_blocks.proofs.OperationRuns.{same_function}
use Rattle.code_places.specs.Resuming.{home_value, Setting, Keeping, nothing_kept, AreHeld, Stands, CallersResume, IsMid, InBlock, AtFresh, IsSound}
use Rattle.code_places.specs.Apart.{IsGood}
use Rattle.code_places.specs.Labels.{IsHere, leading, led_next, led_stage, led, IsWhole, Pushes, Settles, IsOpen, IsTarget}
use Rattle.code_places.specs.Control.{marked, placed, Branches, EndsAt, LeadsOn, EndsBusy, Jumps, BeginsHere, BeginsAfter, Begins, Whole, IsIn, AtLabelUpTo, GoesOn}
use Rattle.code_places.proofs.LabelSteps.{target_after, marks, binds_label, pushed_open, pushed_obeys, pushed_here, leads_advance, led_here}
use Rattle.code_places.proofs.ResumedPlaces.{stage_at, fresh_of_in}

led_append : (stage_of : ℕ → ℕ) (xs ys : List Stage) → led stage_of (xs ++ ys) ≡ led stage_of xs ++ led stage_of ys
led_append stage_of [] ys = refl
led_append stage_of (x ∷ xs) ys = ap (λ l. led_stage stage_of x ∷ l) (led_append stage_of xs ys)

pub led_length : (stage_of : ℕ → ℕ) (xs : List Stage) → length (led stage_of xs) ≡ length xs
led_length stage_of [] = refl
led_length stage_of (x ∷ xs) = ap suc (led_length stage_of xs)

-- what is whole after a change was whole before it
module _ (stage_of : ℕ → ℕ) (all : List Stage) (old new : Stages) (whole : IsWhole stage_of all new) where
  pub whole_pushed : (s : Stage) → Pushes s old new → IsWhole stage_of all old
  whole_pushed s p = record {
    part = record {
      more = led_stage stage_of s ∷ whole.part.more;
      is =
          whole.part.is ∙ ap (λ l. led stage_of l ++ whole.part.more) p.stages
          ∙ ap (λ l. l ++ whole.part.more) (led_append stage_of old.stages.items (s ∷ []))
          ∙ append_assoc (led stage_of old.stages.items) (led_stage stage_of s ∷ []) whole.part.more;
    };
    obeys = pushed_obeys s old new p stage_of whole.obeys;
  }

  -- and the stage is there
  pub pushed_at : (s : Stage) → Pushes s old new → slice_get all (length old.stages.items) ≡ Some (led_stage stage_of s)
  pushed_at s p =
      ap (slice_get all) (sym (led_length stage_of old.stages.items))
      ∙ stage_at (led stage_of old.stages.items) whole.part.more all (led_stage stage_of s)
      (whole.part.is ∙ ap (λ l. led stage_of l ++ whole.part.more) p.stages ∙ ap (λ l. l ++ whole.part.more) (led_append stage_of old.stages.items (s ∷ [])))

  pub whole_settled : (label : ℕ) → IsTarget label old → Settles (leading old.places (slice_get old.labels label) label) old new → IsWhole stage_of all old
  whole_settled label target s = record {
    part = record { more = whole.part.more; is = whole.part.is ∙ ap (λ v. led stage_of v.items ++ whole.part.more) s.stages };
    obeys = (leads_advance label old new s target).obeys stage_of whole.obeys;
  }

pub goes_of_in : (W : Whole) (homes : List Home) (Kept : Keeping) (size n : ℕ) (c : Lowering) (k : List Work) → IsSound size c.block →
    InBlock W.setting homes Kept n (length c.stages.stages.items) c.block k →
    ((label : ℕ) → IsHere c.stages label → W.stage_of label ≡ length c.stages.stages.items) → GoesOn W homes Kept n c k
goes_of_in W homes Kept size n c k sound inside here = record {
  fresh = λ idle label among.
      subst (λ l. AtFresh W.setting homes Kept n l k) (sym (here label among))
      (fresh_of_in W.setting homes Kept (size + 4) n (length c.stages.stages.items) c.block k (sound.fresh idle) inside);
  busy = λ h. inside;
  here = λ h label among. here label among;
}

pub target_marked : (label : ℕ) (c : Lowering) → IsTarget label c.stages → IsTarget label (marked label c).stages
target_marked label c target = target_after c.stages (marked label c).stages label (marks label c.stages (marked label c).stages refl) target

pub open_marked : (label other : ℕ) (c : Lowering) → IsOpen other c.stages → IsOpen other (marked label c).stages
open_marked label other c open_ = (marks label c.stages (marked label c).stages refl).open_ other (λ b. b) open_

pub open_ended : (next : Next) (label : ℕ) (old new : Lowering) → EndsAt next old new → IsOpen label old.stages → IsOpen label new.stages
open_ended next label old new e open_ = pushed_open (stage.Run e.block) old.stages new.stages e.pushes label open_

-- a label that is given the place at hand is there, and so are those that were
pub placed_here : (label : ℕ) (c : Lowering) → IsOpen label c.stages → IsHere (placed label c).stages label
placed_here label c open_ = set_same c.stages.labels label (Some (length c.stages.places)) (slice_get_within c.stages.labels label None open_)

pub here_placed : (label other : ℕ) (c : Lowering) → IsOpen label c.stages → IsHere c.stages other → IsHere (placed label c).stages other
here_placed label other c open_ here =
    set_other c.stages.labels label other (Some (length c.stages.places)) (λ e. absurd (let a = open_ in let b = ap (slice_get c.stages.labels) e in cc)) ∙ here

module _ (W : Whole) (homes : List Home) (n : ℕ) (k : List Work) where
  -- the block at hand ends, and where it leads the thread goes on
  module _ (next : Next) (c new : Lowering) (noted : HasNoted c.block) (busy : 0 < c.block.steps) (e : EndsAt next c new) (whole : IsIn W new) where
    abbrev final : Block
    final = record e.block { next = led_next W.stage_of e.block.next }

    module _ (variables : ℕ → ℤ) (r : Running) where
      after_is : (x : ℕ) → variables_after final variables r x ≡ held_by c.block.current variables r.values x
      after_is x = e.closes.finals noted variables r.values x

      pub after_local : (x j : ℕ) (o : Option Home) → home_value o (variables_after final variables r) r.arrays x j ≡ local_value o c.block.current variables r x j
      after_local x j (Some (home.Array a)) = refl
      after_local x j (Some (home.Variable i)) = after_is i
      after_local x j None = after_is x

      pub after_held : held_by c.block.current variables r.values ≡ variables_after final variables r
      after_held = same_function (held_by c.block.current variables r.values) (variables_after final variables r) (λ x. sym (after_is x))

      -- what stands in a run stands behind the block
      pub mid_stands : (S : Setting) (seats : List Home) (Kept : Keeping) (f : Frame) (fs : List Frame) (globals : List (List ℤ)) → IsMid S seats Kept c.block variables r f fs globals →
          Stands S seats Kept (variables_after final variables r) r.arrays f fs
      mid_stands S seats Kept f fs globals mid = record {
        number = mid.number;
        shape = mid.shape;
        locals = λ x i v q. after_local x i (slice_get seats x) ∙ mid.holds.locals x i v q;
        kept = subst (λ vs. Kept vs f.kept) after_held mid.kept;
        callers = subst (λ vs. AreHeld S.callers vs r.arrays fs) after_held mid.callers;
      }

    pub ends_goes_on : (Kept : Keeping) →
        ((j : ℕ) → j < n → CallersResume W.setting j → (variables : ℕ → ℤ) (r : Running) (f : Frame) (fs : List Frame) (globals : List (List ℤ)) → f.work ≡ k →
        IsMid W.setting homes Kept c.block variables r f fs globals →
        Follows W.setting.program W.setting.stages j (stage_after final variables r) (variables_after final variables r) r.arrays (f ∷ fs)) →
        GoesOn W homes Kept n c k
    ends_goes_on Kept lands = record {
      fresh = λ idle. absurd (omega arith);
      busy = λ h. record {
        block = final;
        at = pushed_at W.stage_of W.setting.stages c.stages new.stages whole (stage.Run e.block) e.pushes;
        rest = [];
        operations = e.closes.operations ∙ sym (append-nil c.block.operations);
        count = 0;
        steps = (let s = e.closes.steps in omega arith);
        goes = λ j lt resume variables r f fs globals is mid. (refl, lands j lt resume variables r f fs globals is mid);
      };
      here = λ h label among. pushed_here (stage.Run e.block) c.stages new.stages e.pushes W.stage_of whole.obeys label among;
    }

    pub jump_lands : (Kept : Keeping) (label : ℕ) → next ≡ Jump label → ((j : ℕ) → j < n → AtFresh W.setting homes Kept j (W.stage_of label) k) → GoesOn W homes Kept n c k
    jump_lands Kept label is at = ends_goes_on Kept (λ j lt resume variables r f fs globals work mid.
        subst (λ l. Follows W.setting.program W.setting.stages j l (variables_after final variables r) r.arrays (f ∷ fs))
        (ap (λ (z : Next). leads_to variables r.values (led_next W.stage_of z)) (sym (e.closes.next_ ∙ is)))
        (at j lt resume (variables_after final variables r) r.arrays f fs work (mid_stands variables r W.setting homes Kept f fs globals mid)))

  -- JUMP: the place at hand leads to the label
  pub jump_goes_on : (label : ℕ) (old new : Lowering) → HasNoted old.block → Jumps label old new → IsIn W new → AtLabelUpTo W homes n label k → GoesOn W homes nothing_kept n old k
  jump_goes_on label old new noted jumps whole at = by jumps.way
    where
      by : LeadsOn label (marked label old) new ⊎ EndsBusy label (marked label old) new → GoesOn W homes nothing_kept n old k
      by (inl p) = record {
        fresh = λ idle h among.
            subst (λ l. AtFresh W.setting homes nothing_kept n l k)
            (sym (led_here label (marked label old).stages new.stages p.settles (target_marked label old jumps.target) W.stage_of whole.obeys h among))
            (at n (omega arith));
        busy = λ h. absurd (let idle = p.idle in omega arith);
        here = λ h. absurd (let idle = p.idle in omega arith);
      }
      by (inr p) =
          let g = jump_lands (Jump label) (marked label old) new noted p.busy p.ends whole nothing_kept label refl (λ j lt. at j (omega arith)) in
          record { fresh = g.fresh; busy = g.busy; here = g.here }

  -- BEGIN: where the thread goes on at the label, so it does at the place before it, and wherever the label is led to
  pub begin_at : (Kept : Keeping) (label : ℕ) (old new : Lowering) → new.block.steps ≡ 0 → Begins label old new → GoesOn W homes Kept n new k →
      AtFresh W.setting homes Kept n (W.stage_of label) k
  begin_at Kept label old new idle (inl p) g =
      g.fresh idle label (subst (λ (z : Lowering). IsHere z.stages label) (sym p.same) (placed_here label (marked label old) p.open_))
  begin_at Kept label old new idle (inr p) g =
      g.fresh idle label
      (subst (λ (z : Lowering). IsHere z.stages label) (sym p.same) (placed_here label p.mid (open_ended (Jump label) label (marked label old) p.mid p.ends.ends p.open_)))

-- the whole is whole before a label is bound
pub whole_placed : (W : Whole) (label : ℕ) (c : Lowering) → IsOpen label c.stages → IsIn W (placed label c) → IsIn W c
whole_placed W label c open_ whole = record {
  part = record { more = whole.part.more; is = whole.part.is };
  obeys = (binds_label label c.stages (placed label c).stages open_ refl).obeys W.stage_of whole.obeys;
}

pub begun_idle : (label size : ℕ) (old new : Lowering) → IsGood size old → Begins label old new → new.block.steps ≡ 0
begun_idle label size old new good (inl p) = ap (λ (z : Lowering). z.block.steps) p.same ∙ by old.reached refl
  where
    by : (on : Bool) → old.reached ≡ on → old.block.steps ≡ 0
    by true e = p.idle e
    by false e = good.idle e
begun_idle label size old new good (inr p) = ap (λ (z : Lowering). z.block.steps) p.same ∙ (p.ends.ends.left good.sound.noted).steps

-- where the thread goes on at a place that has got a label, so it did before
pub begin_goes_on : (W : Whole) (homes : List Home) (n : ℕ) (k : List Work) (Kept : Keeping) (label size : ℕ) (old new : Lowering) → IsGood size old → old.reached ≡ true → Begins label old new →
    IsIn W new → ((j : ℕ) → j ≤ n → GoesOn W homes Kept j new k) → GoesOn W homes Kept n old k
begin_goes_on W homes n k Kept label size old new good reached (inl p) whole g = record {
  fresh = λ idle h among.
      (g n (omega arith)).fresh (begun_idle label size old new good (inl p)) h
      (subst (λ (z : Lowering). IsHere z.stages h) (sym p.same) (here_placed label h (marked label old) p.open_ among));
  busy = λ h. absurd (let idle = p.idle reached in omega arith);
  here = λ h. absurd (let idle = p.idle reached in omega arith);
}
begin_goes_on W homes n k Kept label size old new good reached (inr p) whole g =
    let whole_mid : IsIn W p.mid = whole_placed W label p.mid (open_ended (Jump label) label (marked label old) p.mid p.ends.ends p.open_) (subst (IsIn W) p.same whole) in
    let h =
    jump_lands W homes n k (Jump label) (marked label old) p.mid good.sound.noted p.ends.busy p.ends.ends whole_mid Kept label refl
    (λ j lt. begin_at W homes j k Kept label old new (begun_idle label size old new good (inr p)) (inr p) (g j (omega arith))) in
    record { fresh = h.fresh; busy = h.busy; here = h.here }

-- What the code of the parts gives.

pub ends_at : (next : Next) (old new : Lowering) (block : Block) → Closes old.block next block → new.block.operations ≡ [] → (HasNoted old.block → IsFresh (length old.block.current) new.block) →
    Pushes (stage.Run block) old.stages new.stages → new ≡ record old { block = new.block; stages = new.stages; reached = false } → EndsAt next old new
ends_at next old new block closes none left pushes same = record { block = block; closes = closes; none = none; left = left; pushes = pushes; same = same }

pub jumps_idle : (label : ℕ) (old marked_ new : Lowering) → IsTarget label old.stages → marked_ ≡ marked label old → marked_.block.steps ≡ 0 →
    Settles (leading marked_.stages.places (slice_get marked_.stages.labels label) label) marked_.stages new.stages →
    new ≡ record marked_ { stages = new.stages; reached = false } → Jumps label old new
jumps_idle label old marked_ new target is idle settles same =
    record { target = target; way = inl (subst (λ (z : Lowering). LeadsOn label z new) is (record { idle = idle; settles = settles; same = same })) }

pub jumps_busy : (label : ℕ) (old marked_ new : Lowering) → IsTarget label old.stages → marked_ ≡ marked label old → (marked_.block.steps ≡ 0 → ⊥) →
    EndsAt (Jump label) marked_ new → Jumps label old new
jumps_busy label old marked_ new target is busy ends =
    record { target = target; way = inr (subst (λ (z : Lowering). EndsBusy label z new) is (record { busy = omega arith; ends = ends })) }

pub begins_here : (label : ℕ) (old marked_ new : Lowering) → IsOpen label old.stages → marked_ ≡ marked label old → (marked_.reached ≡ true → marked_.block.steps ≡ 0) → new ≡ placed label marked_ →
    Begins label old new
begins_here label old marked_ new open_ is idle same =
    let open_marked_ = subst (λ (z : Lowering). IsOpen label z.stages) (sym is) (open_marked label label old open_) in
    inl (subst (λ (z : Lowering). BeginsHere label z new) is (record { open_ = open_marked_; idle = idle; same = same }))

pub begins_after : (label : ℕ) (old marked_ mid new : Lowering) → IsOpen label old.stages → marked_ ≡ marked label old → marked_.reached ≡ true → (marked_.block.steps ≡ 0 → ⊥) →
    EndsAt (Jump label) marked_ mid → new ≡ placed label mid → Begins label old new
begins_after label old marked_ mid new open_ is reached busy ends same =
    let open_marked_ = subst (λ (z : Lowering). IsOpen label z.stages) (sym is) (open_marked label label old open_) in
    inr (subst (λ (z : Lowering). BeginsAfter label z new) is (record { open_ = open_marked_; reached = reached; mid = mid; ends = record { busy = omega arith; ends = ends }; same = same }))

pub branches_at : (test : Operand) (nonzero otherwise : ℕ) (old both new : Lowering) → both ≡ marked otherwise (marked nonzero old) →
    EndsAt (Branch test nonzero otherwise) both new → Branches test nonzero otherwise old new
branches_at test nonzero otherwise old both new is ends = record {
  ends = subst (λ (z : Lowering). EndsAt (Branch test nonzero otherwise) z new) is ends;
}

-- a label without a place is still without one where it is given one
pub marked_open : (label : ℕ) (old marked_ : Lowering) → marked_ ≡ marked label old → IsOpen label old.stages → IsOpen label marked_.stages
marked_open label old marked_ is open_ = subst (λ (z : Lowering). IsOpen label z.stages) (sym is) (open_marked label label old open_)

pub ended_open : (label : ℕ) (old marked_ mid : Lowering) → marked_ ≡ marked label old → EndsAt (Jump label) marked_ mid → IsOpen label old.stages → IsOpen label mid.stages
ended_open label old marked_ mid is ends open_ = open_ended (Jump label) label marked_ mid ends (marked_open label old marked_ is open_)
