-- What the parts of the code keep, and where the thread goes on before them.
use Rattle.std.proofs.Common.{◌≡◌, ℕ, ◌+◌, ◌<◌, ◌≤◌, true, false, List, [], ◌∷◌, length, Some, None, refl, sym, ap, ◌∙◌, subst, inl, inr, arith}
use Rattle.std.specs.Prelude.{slice_get, slice_set, ◌⊎◌}
use Rattle.lists.proofs.Places.{get_front}
use Rattle.c_program.specs.Tree.{Program}
use Rattle.thread_semantics.specs.Work.{Work}
use Rattle.block_ir.specs.declared.block.Next.{Next}
use Rattle.block_ir.specs.declared.block.Next.TheVariants.{Jump}
use Rattle.block_ir.specs.declared.code.Act.{Act}
use Rattle.block_ir.specs.declared.code.Act.TheVariants.{Return}
use Rattle.block_ir.specs.declared.code.Stage.TheVariants as stage
use Rattle.code_blocks.specs.declared.homes.Home.{Home}
use Rattle.code_storage.specs.declared.objects.Objects.{Objects}
use Rattle.code_storage.specs.declared.rooms.Room.{Room}
use Rattle.code_storage.specs.declared.rooms.Rooms.{Rooms}
use Rattle.code_blocks.specs.declared.open_block.OpenBlock.{OpenBlock}
use Rattle.code_places.specs.declared.stages.Stages.{Stages}
use Rattle.code_places.specs.declared.lowering.Lowering.{Lowering}
use Rattle.code_blocks.specs.Closing.{HasNoted, IsFresh}
use Rattle.code_storage.specs.Housing.{homes_there, site_there}
use Rattle.code_storage.specs.Objects.{AreObjects}
use Rattle.code_blocks.specs.Typing.{Typing}
use Rattle.code_places.specs.Resuming.{Keeping, nothing_kept, InBlock, AtFresh, IsSound}
use Rattle.code_places.specs.Labels.{IsWhole, Pushes, is_used, with_used, IsOpen, IsTarget}
use Rattle.code_places.specs.Apart.{idle_now, room, IsTypedAnywhere, IsTypedNow, IsGood}
use Rattle.code_places.specs.Control.{with_label, marked, placed, EndsAt, LeadsOn, EndsBusy, Jumps, Begins, Binds, Leaps, BeginsStage, ActsAt, EndsCall, Whole, IsIn, GoesOn}
use Rattle.code_places.specs.Doing.{Grows, Shifts, Relabels, at_site, OnwardUpTo, IfUsed, IsNew, Starts}
use Rattle.code_places.proofs.ResumedPlaces.{fresh_sound}
use Rattle.code_places.proofs.TypedGrowth.{IsTypedBut, typed_but, open_more, room_more, stages_more, jump_typed, ends_typed}
use Rattle.code_places.proofs.LabelTargets.{target_marked, open_ended, whole_placed, whole_pushed, whole_settled, jump_goes_on, begin_at, begun_idle, begin_goes_on}
use Rattle.code_places.proofs.NewLabel.{label_keeps, goes_before_label}
use Rattle.code_places.proofs.LabelSteps.{None_, advances_both, labels_more, binds_label}
use Rattle.code_places.proofs.OpenLabels.{marks_keep, is_marked, label_begun, act_open}

-- ---- what is kept

pub grows_refl : (c : Lowering) → Grows c c
grows_refl c = record { homes = refl; back = refl; rooms = refl; variables = refl; arrays = refl; objects = refl; words = refl; good = λ size g. g; whole = λ W w. w; used = λ label is. is }

pub grows_both : (a b c : Lowering) → Grows a b → Grows b c → Grows a c
grows_both a b c h k = record {
  homes = k.homes ∙ h.homes;
  back = k.back ∙ h.back;
  rooms = k.rooms ∙ h.rooms;
  variables = k.variables ∙ h.variables;
  arrays = k.arrays ∙ h.arrays;
  objects = k.objects ∙ h.objects;
  words = k.words ∙ h.words;
  good = λ size g. k.good size (h.good size g);
  whole = λ W w. h.whole W (k.whole W w);
  used = λ label is. k.used label (h.used label is);
}

pub shifts_refl : (c : Lowering) → Shifts c c
shifts_refl c = record { grows = grows_refl c; site = refl; typed = λ S w size good now. now }

pub shifts_both : (a b c : Lowering) → Shifts a b → Shifts b c → Shifts a c
shifts_both a b c h k = record {
  grows = grows_both a b c h.grows k.grows;
  site = k.site ∙ h.site;
  typed = λ S w size good now. k.typed S w size (h.grows.good size good) (h.typed S w size good now);
}

pub site_grows : (site : ℕ) (c : Lowering) → Grows c (at_site site c)
site_grows site c = record {
  homes = refl;
  back = refl;
  rooms = refl;
  variables = refl;
  arrays = refl;
  objects = refl;
  words = refl;
  good = λ size g. record { variables = g.variables; sound = g.sound; idle = g.idle };
  whole = λ W w. w;
  used = λ label is. is;
}

pub site_typed : (site : ℕ) (c : Lowering) (S : Typing) (w : ℕ) → IsTypedNow S w c → IsTypedNow S w (at_site site c)
site_typed site c S w now = record { block = now.block; idle = now.idle; size = now.size; steps = now.steps; stages = now.stages }

-- ---- labels

pub label_relabels : (c : Lowering) → Relabels c (with_label c)
label_relabels c = record {
  shifts = record {
    grows = record {
      homes = refl;
      back = refl;
      rooms = refl;
      variables = refl;
      arrays = refl;
      objects = refl;
      words = refl;
      good = λ size g. record { variables = g.variables; sound = g.sound; idle = g.idle };
      whole = (label_keeps c).whole;
      used = (label_keeps c).used;
    };
    site = refl;
    typed = λ S w size good now. record { block = now.block; idle = now.idle; size = now.size; steps = now.steps; stages = now.stages };
  };
  block = refl;
  items = refl;
  here = λ label here. get_front c.stages.labels (None ∷ []) label (Some (length c.stages.places)) here;
  advances = labels_more c.stages (with_label c).stages refl;
  begun = λ start b. label_begun start c b;
  reached = refl;
}

pub relabels_both : (a b c : Lowering) → Relabels a b → Relabels b c → Relabels a c
relabels_both a b c h k = record {
  shifts = shifts_both a b c h.shifts k.shifts;
  block = k.block ∙ h.block;
  items = k.items ∙ h.items;
  here = λ label e. k.here label (h.here label e);
  advances = advances_both None_ a.stages b.stages c.stages h.advances k.advances;
  begun = λ start e. k.begun start (h.begun start e);
  reached = k.reached ∙ h.reached;
}

marked_shifts : (label : ℕ) (c : Lowering) → Shifts c (marked label c)
marked_shifts label c = record {
  grows = record {
    homes = refl;
    back = refl;
    rooms = refl;
    variables = refl;
    arrays = refl;
    objects = refl;
    words = refl;
    good = λ size g. record { variables = g.variables; sound = g.sound; idle = g.idle };
    whole = λ W w. record { part = record { more = w.part.more; is = w.part.is }; obeys = w.obeys };
    used = λ other is. marks_keep c.stages.used label other is;
  };
  site = refl;
  typed = λ S w size good now. record { block = now.block; idle = now.idle; size = now.size; steps = now.steps; stages = now.stages };
}

placed_shifts : (label : ℕ) (c : Lowering) → IsOpen label c.stages → Shifts c (placed label c)
placed_shifts label c open_ = record {
  grows = record {
    homes = refl;
    back = refl;
    rooms = refl;
    variables = refl;
    arrays = refl;
    objects = refl;
    words = refl;
    good = λ size g. record { variables = g.variables; sound = g.sound; idle = λ off. absurd cc };
    whole = λ W w. whole_placed W label c open_ w;
    used = λ other is. is;
  };
  site = refl;
  typed = λ S w size good now. record { block = now.block; idle = now.idle; size = now.size; steps = now.steps; stages = now.stages };
}

settled_shifts : (label : ℕ) (old new : Lowering) → IsTarget label old.stages → LeadsOn label old new → Shifts old new
settled_shifts label old new target p = record {
  grows = record {
    homes = ap (λ (z : Lowering). z.homes) p.same;
    back = ap (λ (z : Lowering). z.back) p.same;
    rooms = ap (λ (z : Lowering). z.rooms) p.same;
    variables = ap (λ (z : Lowering). z.variables) p.same;
    arrays = ap (λ (z : Lowering). z.arrays) p.same;
    objects = ap (λ (z : Lowering). z.objects) p.same;
    words = ap (λ (z : Lowering). z.act_operands) p.same;
    good = λ size g. record {
      variables = ap (λ (z : Lowering). length z.variables) p.same ∙ g.variables;
      sound = subst (λ (z : Lowering). IsSound size z.block) (sym p.same) g.sound;
      idle = λ off. ap (λ (z : Lowering). z.block.steps) p.same ∙ p.idle;
    };
    whole = λ W w. whole_settled W.stage_of W.setting.stages old.stages new.stages w label target p.settles;
    used = λ other is. ap (λ us. is_used us other) p.settles.used ∙ is;
  };
  site = ap (λ (z : Lowering). z.site) p.same;
  typed = λ S w size good now.
      subst (IsTypedNow S w) (sym p.same)
      (open_more S w w old (record old { stages = new.stages; reached = false }) (ap (λ v. v.items) p.settles.stages) (omega arith) now.block (omega arith) now.steps now);
}

pub ends_grows : (next : Next) (old new : Lowering) → EndsAt next old new → Grows old new
ends_grows next old new e = record {
  homes = ap (λ (z : Lowering). z.homes) e.same;
  back = ap (λ (z : Lowering). z.back) e.same;
  rooms = ap (λ (z : Lowering). z.rooms) e.same;
  variables = ap (λ (z : Lowering). z.variables) e.same;
  arrays = ap (λ (z : Lowering). z.arrays) e.same;
  objects = ap (λ (z : Lowering). z.objects) e.same;
  words = ap (λ (z : Lowering). z.act_operands) e.same;
  good = λ size g.
      let fresh = subst (λ n. IsFresh n new.block) g.sound.size (e.left g.sound.noted) in
      record { variables = ap (λ (z : Lowering). length z.variables) e.same ∙ g.variables; sound = fresh_sound size new.block fresh; idle = λ off. fresh.steps };
  whole = λ W w. whole_pushed W.stage_of W.setting.stages old.stages new.stages w (stage.Run e.block) e.pushes;
  used = λ label is. ap (λ us. is_used us label) e.pushes.used ∙ is;
}

ends_shifts : (label : ℕ) (old new : Lowering) → EndsBusy label old new → Shifts old new
ends_shifts label old new p = record {
  grows = ends_grows (Jump label) old new p.ends;
  site = ap (λ (z : Lowering). z.site) p.ends.same;
  typed = λ S w size good now. ends_typed S w (Jump label) old new p.busy good.sound.noted p.ends (jump_typed S.types old.block.operations label) (typed_but S w old now);
}

pub jumps_shifts : (label : ℕ) (old new : Lowering) → Jumps label old new → Shifts old new
jumps_shifts label old new p = shifts_both old (marked label old) new (marked_shifts label old) (by p.way)
  where
    by : LeadsOn label (marked label old) new ⊎ EndsBusy label (marked label old) new → Shifts (marked label old) new
    by (inl q) = settled_shifts label (marked label old) new (target_marked label old p.target) q
    by (inr q) = ends_shifts label (marked label old) new q

-- a busy block that ends
pub jumps_but : (label : ℕ) (old new : Lowering) → Jumps label old new → 0 < old.block.steps → HasNoted old.block → (S : Typing) (w : ℕ) → IsTypedBut S w old → IsTypedNow S w new
jumps_but label old new p busy noted S w typed = by p.way
  where
    by : LeadsOn label (marked label old) new ⊎ EndsBusy label (marked label old) new → IsTypedNow S w new
    by (inl q) = absurd (let idle = q.idle in omega (arith, busy, idle))
    by (inr q) =
        ends_typed S w (Jump label) (marked label old) new q.busy noted q.ends (jump_typed S.types old.block.operations label)
        (record { block = typed.block; idle = typed.idle; size = typed.size; stages = typed.stages })

pub begins_shifts : (label : ℕ) (old new : Lowering) → Begins label old new → Shifts old new
begins_shifts label old new (inl p) =
    shifts_both old (marked label old) new (marked_shifts label old) (subst (Shifts (marked label old)) (sym p.same) (placed_shifts label (marked label old) p.open_))
begins_shifts label old new (inr p) =
    shifts_both old (marked label old) new (marked_shifts label old)
    (shifts_both (marked label old) p.mid new (ends_shifts label (marked label old) p.mid p.ends)
    (subst (Shifts p.mid) (sym p.same) (placed_shifts label p.mid (open_ended (Jump label) label (marked label old) p.mid p.ends.ends p.open_))))

pub begun_reached : (label : ℕ) (old new : Lowering) → Begins label old new → new.reached ≡ true
begun_reached label old new (inl p) = ap (λ (z : Lowering). z.reached) p.same
begun_reached label old new (inr p) = ap (λ (z : Lowering). z.reached) p.same

pub binds_shifts : (label : ℕ) (old new : Lowering) → Binds label old new → Shifts old new
binds_shifts label old new (inl p) = subst (Shifts old) (sym p.same) (shifts_refl old)
binds_shifts label old new (inr p) = begins_shifts label old new p.begins

pub leaps_shifts : (label : ℕ) (old new : Lowering) → Leaps label old new → Shifts old new
leaps_shifts label old new (inl p) = subst (Shifts old) (sym p.same) (shifts_refl old)
leaps_shifts label old new (inr p) = jumps_shifts label old new p.jumps

pub stage_shifts : (old new : Lowering) → BeginsStage old new → Shifts old new
stage_shifts old new (inl p) = subst (Shifts old) (sym p.same) (shifts_refl old)
stage_shifts old new (inr p) = shifts_both old (with_label old) new (label_relabels old).shifts (begins_shifts p.next (with_label old) new p.begins)

pub stage_idle : (size : ℕ) (old new : Lowering) → IsGood size old → BeginsStage old new → new.block.steps ≡ 0
stage_idle size old new good (inl p) = ap (λ (z : Lowering). z.block.steps) p.same ∙ p.idle
stage_idle size old new good (inr p) =
    begun_idle p.next size (with_label old) new (record { variables = good.variables; sound = good.sound; idle = good.idle }) p.begins

pub stage_reached : (old new : Lowering) → old.reached ≡ true → BeginsStage old new → new.reached ≡ true
stage_reached old new on (inl p) = ap (λ (z : Lowering). z.reached) p.same ∙ on
stage_reached old new on (inr p) = begun_reached p.next (with_label old) new p.begins

module _ (act : Act) (old new : Lowering) (a : ActsAt act old new) where
  -- the whole is whole up to the act
  pub acts_pushed : (W : Whole) → IsIn W new → IsWhole W.stage_of W.setting.stages a.pushed
  acts_pushed W w =
      let v = subst (IsIn W) a.same w in
      record {
        part = record { more = v.part.more; is = v.part.is };
        obeys = (binds_label a.next a.pushed (record a.pushed { labels = slice_set a.pushed.labels a.next (Some (length a.pushed.places)) }) (act_open act old new a) refl).obeys W.stage_of v.obeys;
      }

  pub acts_whole : (W : Whole) → IsIn W new → IsIn W a.mid
  acts_whole W w =
      (label_relabels a.mid).shifts.grows.whole W
      (whole_pushed W.stage_of W.setting.stages (with_label a.mid).stages a.pushed (acts_pushed W w) (stage.Act act a.next) a.pushes)

  pub acts_grows : Grows old new
  acts_grows = grows_both old a.mid new (stage_shifts old a.mid a.begins).grows (record {
    homes = ap (λ (z : Lowering). z.homes) a.same;
    back = ap (λ (z : Lowering). z.back) a.same;
    rooms = ap (λ (z : Lowering). z.rooms) a.same;
    variables = ap (λ (z : Lowering). z.variables) a.same;
    arrays = ap (λ (z : Lowering). z.arrays) a.same;
    objects = ap (λ (z : Lowering). z.objects) a.same;
    words = ap (λ (z : Lowering). z.act_operands) a.same;
    good = λ size g. subst (IsGood size) (sym a.same) (record { variables = g.variables; sound = g.sound; idle = g.idle });
    whole = acts_whole;
    used = λ label is. ap (λ (z : Lowering). is_used z.stages.used label) a.same ∙ ap (λ us. is_used us label) a.pushes.used ∙ is;
  })

  pub acts_site : new.site ≡ old.site
  acts_site = ap (λ (z : Lowering). z.site) a.same ∙ (stage_shifts old a.mid a.begins).site

  pub acts_typed : (S : Typing) (w size : ℕ) → IsGood size old → ((m : ℕ) → IsTypedAnywhere S.types S.program m (stage.Act act a.next)) → IsTypedNow S w old → IsTypedNow S w new
  acts_typed S w size good typed now =
      let after = record a.mid { stages = record a.pushed { labels = slice_set a.pushed.labels a.next (Some (length a.pushed.places)) } } in
      let m = (stage_shifts old a.mid a.begins).typed S w size good now in
      let count : idle_now after ≡ idle_now a.mid = room_more w a.mid after (stage.Act act a.next) a.pushes.stages refl in
      subst (IsTypedNow S w) (sym a.same) (record {
        block = m.block;
        idle = (let few = m.idle in omega (arith, few, count));
        size = (let size = m.size in omega (arith, size, count));
        steps = m.steps;
        stages = stages_more S w a.mid after (stage.Act act a.next) a.pushes.stages refl (typed_but S w a.mid m) (typed (room w a.mid));
      })

module _ (old new : Lowering) (e : EndsCall old new) where
  pub call_whole : (W : Whole) → IsIn W new → IsIn W e.mid
  call_whole W w = whole_pushed W.stage_of W.setting.stages e.mid.stages new.stages w (stage.Act Return 0) e.pushes

  pub call_grows : Grows old new
  call_grows = record {
    homes = ap (λ (z : Lowering). z.homes) e.same ∙ g.homes;
    back = ap (λ (z : Lowering). z.back) e.same ∙ g.back;
    rooms = ap (λ (z : Lowering). z.rooms) e.same ∙ g.rooms;
    variables = ap (λ (z : Lowering). z.variables) e.same ∙ g.variables;
    arrays = ap (λ (z : Lowering). z.arrays) e.same ∙ g.arrays;
    objects = ap (λ (z : Lowering). z.objects) e.same ∙ g.objects;
    words = ap (λ (z : Lowering). z.act_operands) e.same ∙ g.words;
    good = λ size good.
        let m = g.good size good in
        subst (IsGood size) (sym e.same) (record { variables = m.variables; sound = m.sound; idle = λ off. stage_idle size old e.mid good e.begins });
    whole = λ W w. g.whole W (call_whole W w);
    used = λ label is. ap (λ us. is_used us label) e.pushes.used ∙ g.used label is;
  }
    where
      g : Grows old e.mid
      g = (stage_shifts old e.mid e.begins).grows

  pub call_shifts : Shifts old new
  call_shifts = record {
    grows = call_grows;
    site = ap (λ (z : Lowering). z.site) e.same ∙ (stage_shifts old e.mid e.begins).site;
    typed = λ S w size good now.
        let after = record e.mid { stages = new.stages; reached = false } in
        let m = (stage_shifts old e.mid e.begins).typed S w size good now in
        let count : idle_now after ≡ idle_now e.mid = room_more w e.mid after (stage.Act Return 0) e.pushes.stages refl in
        subst (IsTypedNow S w) (sym e.same) (record {
          block = m.block;
          idle = (let few = m.idle in omega (arith, few, count));
          size = (let size = m.size in omega (arith, size, count));
          steps = m.steps;
          stages = stages_more S w e.mid after (stage.Act Return 0) e.pushes.stages refl (typed_but S w e.mid m) (λ n stage_of below. tt);
        });
  }

-- ---- where the thread goes on

-- the same place where only labels differ
pub goes_relabelled : (W : Whole) (homes : List Home) (Kept : Keeping) (n : ℕ) (k : List Work) (old new : Lowering) → Relabels old new → GoesOn W homes Kept n new k → GoesOn W homes Kept n old k
goes_relabelled W homes Kept n k old new r g = record {
  fresh = λ idle label among. g.fresh (ap (λ (b : OpenBlock). b.steps) r.block ∙ idle) label (r.here label among);
  busy = λ busy.
      subst (λ (b : OpenBlock). InBlock W.setting homes Kept n (length old.stages.stages.items) b k) r.block
      (subst (λ v. InBlock W.setting homes Kept n (length v.items) new.block k) r.items (g.busy (subst (λ (b : OpenBlock). 0 < b.steps) (sym r.block) busy)));
  here = λ busy label among.
      g.here (subst (λ (b : OpenBlock). 0 < b.steps) (sym r.block) busy) label (r.here label among) ∙ ap (λ v. length v.items) r.items;
}

module _ (W : Whole) (homes : List Home) (n : ℕ) (k : List Work) where
  pub stage_goes : (Kept : Keeping) (size : ℕ) (old new : Lowering) → IsGood size old → old.reached ≡ true → BeginsStage old new → IsIn W new →
      ((j : ℕ) → j ≤ n → GoesOn W homes Kept j new k) → GoesOn W homes Kept n old k
  stage_goes Kept size old new good on (inl p) whole g = subst (λ (z : Lowering). GoesOn W homes Kept n z k) p.same (g n (omega arith))
  stage_goes Kept size old new good on (inr p) whole g =
      goes_before_label W homes Kept n old (with_label old) k refl
      (begin_goes_on W homes n k Kept p.next size (with_label old) new (record { variables = good.variables; sound = good.sound; idle = good.idle }) on p.begins whole g)

  -- a label's place
  module _ (label size : ℕ) (old new : Lowering) (good : IsGood size old) (binds : Binds label old new) (whole : IsIn W new) (after : OnwardUpTo W homes n new k) where
    pub binds_at : IfUsed W homes n old.stages.used label k
    binds_at used j le = by binds after
      where
        by : Binds label old new → OnwardUpTo W homes n new k → AtFresh W.setting homes nothing_kept j (W.stage_of label) k
        by (inl p) g = absurd (let off = p.unused in cc)
        by (inr p) g = begin_at W homes j k nothing_kept label old new (begun_idle label size old new good p.begins) p.begins (g (begun_reached label old new p.begins) j le)

    pub binds_goes : OnwardUpTo W homes n old k
    binds_goes on j le = by binds after whole
      where
        by : Binds label old new → OnwardUpTo W homes n new k → IsIn W new → GoesOn W homes nothing_kept j old k
        by (inl p) g w = subst (λ (z : Lowering). GoesOn W homes nothing_kept j z k) p.same (g (ap (λ (z : Lowering). z.reached) p.same ∙ on) j le)
        by (inr p) g w =
            begin_goes_on W homes j k nothing_kept label size old new good on p.begins w
            (λ i below. g (begun_reached label old new p.begins) i (omega arith))

  pub jumps_used : (label : ℕ) (old new : Lowering) → Jumps label old new → is_used new.stages.used label ≡ true
  jumps_used label old new p = by p.way ∙ is_marked old.stages.used label
    where
      by : LeadsOn label (marked label old) new ⊎ EndsBusy label (marked label old) new → is_used new.stages.used label ≡ is_used (with_used old.stages.used label) label
      by (inl q) = ap (λ us. is_used us label) q.settles.used
      by (inr q) = ap (λ us. is_used us label) q.ends.pushes.used

  pub jumps_goes : (label size : ℕ) (old new : Lowering) → IsGood size old → Jumps label old new → IsIn W new → IfUsed W homes n new.stages.used label k → OnwardUpTo W homes n old k
  jumps_goes label size old new good p whole at = λ on j le.
      jump_goes_on W homes j k label old new good.sound.noted p whole (λ i below. at (jumps_used label old new p) i (omega arith))

  pub leaps_goes : (label size : ℕ) (old new : Lowering) → IsGood size old → Leaps label old new → IsIn W new → IfUsed W homes n new.stages.used label k → OnwardUpTo W homes n old k
  leaps_goes label size old new good (inl p) whole at = λ on. absurd (let off = p.off in cc)
  leaps_goes label size old new good (inr p) whole at = jumps_goes label size old new good p.jumps whole at

-- ---- what the code of the parts gives

pub is_new : (P : Program) (number words : ℕ) (r : Rooms) (objects : Objects) (room : Room) (c : Lowering) (n : ℕ) → AreObjects P objects → room.homes ≡ homes_there (slice_get r.rooms number) →
    room.site ≡ site_there (slice_get r.rooms number) → c.homes ≡ room.homes → c.back ≡ None → c.rooms ≡ r.rooms → c.variables ≡ r.variables → c.arrays ≡ r.arrays →
    n ≡ length r.variables + 4 → IsFresh n c.block → c.stages.stages.items ≡ [] → c.stages.labels ≡ [] → c.stages.used ≡ [] → c.stages.places ≡ [] → c.reached ≡ true → c.site ≡ room.site →
    c.act_operands ≡ words → c.objects ≡ objects → IsNew P r number words c
is_new P number words r objects room c n objects_are homes_are site_is homes back rooms variables arrays long fresh items labels used places reached at count held = record {
  homes = homes ∙ homes_are;
  back = back;
  rooms = rooms;
  variables = variables;
  arrays = arrays;
  block = subst (λ k. IsFresh k c.block) long fresh;
  items = items;
  labels = labels;
  used = used;
  places = places;
  reached = reached;
  site = at ∙ site_is;
  words_ = count;
  objects = subst (AreObjects P) (sym held) objects_are;
}

pub binds_nothing : (label : ℕ) (c : Lowering) → is_used c.stages.used label ≡ false → Binds label c c
binds_nothing label c unused = inl (record { unused = unused; same = refl })

pub binds_used : (label : ℕ) (old new : Lowering) → is_used old.stages.used label ≡ true → Begins label old new → Binds label old new
binds_used label old new used begins = inr (record { used = used; begins = begins })

pub leaps_not : (label : ℕ) (c : Lowering) → c.reached ≡ false → Leaps label c c
leaps_not label c off = inl (record { off = off; same = refl })

pub leaps_to : (label : ℕ) (old new : Lowering) → old.reached ≡ true → Jumps label old new → Leaps label old new
leaps_to label old new on jumps = inr (record { on = on; jumps = jumps })

pub begins_idle : (c : Lowering) → c.block.steps ≡ 0 → BeginsStage c c
begins_idle c idle = inl (record { idle = idle; same = refl })

pub begins_busy : (next : ℕ) (old mid new : Lowering) → (old.block.steps ≡ 0 → ⊥) → next ≡ length old.stages.labels → mid ≡ with_label old → Begins next mid new → BeginsStage old new
begins_busy next old mid new busy number labelled begins =
    inr (record { busy = omega arith; next = next; next_ = number; begins = subst (λ (z : Lowering). Begins next z new) labelled begins })

pub acts_at : (act : Act) (next : ℕ) (old mid new : Lowering) (labelled pushed : Stages) → BeginsStage old mid → next ≡ length mid.stages.labels →
    labelled ≡ (with_label mid).stages → Pushes (stage.Act act next) labelled pushed →
    new ≡ record mid { stages = record pushed { labels = slice_set pushed.labels next (Some (length pushed.places)) } } → ActsAt act old new
acts_at act next old mid new labelled pushed begins number is pushes same = record {
  mid = mid;
  begins = begins;
  next = next;
  next_ = number;
  pushed = pushed;
  pushes = subst (λ (z : Stages). Pushes (stage.Act act next) z pushed) is pushes;
  same = same;
}

pub ends_call : (old mid new : Lowering) → BeginsStage old mid → Pushes (stage.Act Return 0) mid.stages new.stages → new ≡ record mid { stages = new.stages; reached = false } → EndsCall old new
ends_call old mid new begins pushes same = record { mid = mid; begins = begins; pushes = pushes; same = same }

pub starts_at : (start : ℕ) (old mid new : Lowering) → start ≡ length old.stages.labels → mid ≡ with_label old → Begins start mid new → Starts start old new
starts_at start old mid new number is begins = record { labelled = mid; number = number; is = is; relabels = subst (Relabels old) (sym is) (label_relabels old); begins = begins }
