-- Cuts: what stands before the step of an operand of a condition, and && and || as a value.
use Rattle.std.proofs.Common.{◌≡◌, ℕ, zero, suc, ◌+◌, ◌<◌, ◌≤◌, Bool, true, false, ◌&&◌, List, [], ◌∷◌, ◌++◌, length, Option, Some, None, refl, sym, ap, ◌∙◌, subst, inl, inr, arith, append-nil}
use Rattle.std.specs.Prelude.{◌⊎◌, Contains, max}
use Rattle.std.proofs.lemmas.Bool.{and_parts}
use Rattle.std.proofs.lemmas.List.Elements.{Contains-append_left, Contains-append_right}
use Rattle.std.proofs.lemmas.Option.{slice_get_within}
use Rattle.lists.proofs.Places.{get_front}
use Rattle.c_program.specs.Tree.{Statement, Function, Program}
use Rattle.c_program.specs.Calls.{calls_of}
use Rattle.c_program.specs.Limits.{print_count}
use Rattle.c_program.specs.Resolved.{IsJoined, IsCut, Around, IsStatement, nowhere, within}
use Rattle.thread_semantics.specs.Work.{Work, Do, Note as NoteWork, Onward, settled, decided}
use Rattle.code_following.specs.Following.{formats_of}
use Rattle.code_blocks.specs.declared.homes.Home.{Home}
use Rattle.code_blocks.specs.declared.truths.Note.{Note}
use Rattle.code_blocks.specs.Truths.{IsNoted, HasSlot}
use Rattle.code_blocks.specs.Typing.{Typing, HasWords}
use Rattle.code_storage.specs.Formats.{HasSites}
use Rattle.code_storage.specs.Values.{most_values}
use Rattle.code_places.specs.declared.targets.Loop.{Loop}
use Rattle.code_places.specs.declared.lowering.Lowering.{Lowering}
use Rattle.code_control.specs.declared.branching.ChoiceLabels.{ChoiceLabels}
use Rattle.code_places.specs.Apart.{IsTypedNow, IsGood}
use Rattle.code_places.specs.Resuming.{nothing_kept}
use Rattle.code_places.specs.Labels.{IsHere, with_used, is_used, Advances}
use Rattle.code_places.specs.Control.{with_label, marked, LeadsOn, EndsBusy, Jumps, Leaps, Begun, Begins, Binds, BeginsStage, Whole, IsIn, AtLabel, GoesOn}
use Rattle.code_places.specs.Doing.{Grows, Shifts, OnwardUpTo, HasCome, Proceeds, Suits, SuitsTyping, Leads}
use Rattle.code_places.specs.Weighing.{inlined_weight}
use Rattle.code_places.proofs.CodeGrowth.{grows_refl, grows_both, label_relabels, begins_shifts, begun_reached, binds_shifts, stage_shifts, stage_idle, stage_reached, stage_goes}
use Rattle.code_places.proofs.HeadPlaces.{come_on, stage_comes}
use Rattle.code_places.proofs.KeptLocals.{seat_on, typed_seat_on}
use Rattle.code_places.proofs.LabelSteps.{None_, advances_both, first_after, labels_more}
use Rattle.code_places.proofs.LabelTargets.{begin_at, begun_idle}
use Rattle.code_places.proofs.NewLabel.{goes_before_label}
use Rattle.code_places.proofs.OpenLabels.{is_marked, label_begun, begins_advance, binds_advance, stage_advance, stage_begun}
use Rattle.code_places.proofs.OpenParts.{none_begun, bound_new, begun_proceeds}
use Rattle.code_places.proofs.TypedGrowth.{now_more}
use Rattle.code_control.proofs.OpenControl.{turns_advance}
use Rattle.code_control.specs.Branching.{OpensChoice, TurnsChoice}
use Rattle.code_blocks.specs.declared.fault.LoweringFault.{LoweringFault}
use Rattle.code_blocks.proofs.Room.{full_more}
use Rattle.code_places.specs.Needing.{needed, IsFullFor}
use Rattle.code_control.specs.Deciding.{is_joined, is_cut, is_asked, side, unmet, SuitsAsked, SuitsAskedTyping, Decides, IsStill, ComesThrough, IsFullAsked}
use Rattle.code_control.proofs.Decisions.{opened_part, asked_part, asked_typing_part, unmet_none}
use Rattle.code_control.proofs.NestedStatements.{settled_sequence, suits_asked, typing_asked, no_sites}

-- ---- what a cut has not: a printf, words of its own

pub cut_prints : (s : Statement) → is_cut s ≡ true → print_count s ≡ 0
cut_prints Statement.Done is = refl
cut_prints (Statement.Sequence a b) is =
    let p = and_parts (is_cut a) (is_cut b) is in
    let x = cut_prints a p.0 in
    let y = cut_prints b p.1 in
    omega (arith, x, y)
cut_prints (Statement.Call offset into g es) is = refl
cut_prints (Statement.Keep offset slot ty e) is = refl
cut_prints (Statement.Truth slot d) is = refl
cut_prints (Statement.If d a b) is =
    let p = and_parts (is_asked d) (is_cut a && is_cut b) is in
    let q = and_parts (is_cut a) (is_cut b) p.1 in
    let x = cut_prints a q.0 in
    let y = cut_prints b q.1 in
    omega (arith, x, y)
cut_prints s is = absurd cc

pub cut_formats : (s : Statement) → is_cut s ≡ true → formats_of s ≡ []
cut_formats Statement.Done is = refl
cut_formats (Statement.Sequence a b) is =
    let p = and_parts (is_cut a) (is_cut b) is in
    ap (λ l. l ++ formats_of b) (cut_formats a p.0) ∙ cut_formats b p.1
cut_formats (Statement.Call offset into g es) is = refl
cut_formats (Statement.Keep offset slot ty e) is = refl
cut_formats (Statement.Truth slot d) is = refl
cut_formats (Statement.If d a b) is =
    let p = and_parts (is_asked d) (is_cut a && is_cut b) is in
    let q = and_parts (is_cut a) (is_cut b) p.1 in
    ap (λ l. l ++ formats_of b) (cut_formats a q.0) ∙ cut_formats b q.1
cut_formats s is = absurd cc

pub cut_values : (s : Statement) → is_cut s ≡ true → most_values s ≡ 0
cut_values Statement.Done is = refl
cut_values (Statement.Sequence a b) is =
    let p = and_parts (is_cut a) (is_cut b) is in
    let x = cut_values a p.0 in
    let y = cut_values b p.1 in
    omega (arith, x, y)
cut_values (Statement.Call offset into g es) is = refl
cut_values (Statement.Keep offset slot ty e) is = refl
cut_values (Statement.Truth slot d) is = refl
cut_values (Statement.If d a b) is =
    let p = and_parts (is_asked d) (is_cut a && is_cut b) is in
    let q = and_parts (is_cut a) (is_cut b) p.1 in
    let x = cut_values a q.0 in
    let y = cut_values b q.1 in
    omega (arith, x, y)
cut_values s is = absurd cc

-- a cut is a statement
pub cut_statement : (P : Program) (f : Function) (a : Around) (s : Statement) → IsCut P f s → IsStatement P f a s
cut_statement P f a Statement.Done is = tt
cut_statement P f a (Statement.Sequence b c) is = (cut_statement P f a b is.0, cut_statement P f a c is.1)
cut_statement P f a (Statement.Call offset (Some slot) g es) is = is
cut_statement P f a (Statement.Keep offset slot ty e) is = is
cut_statement P f a (Statement.Truth slot d) is = is
cut_statement P f a (Statement.If d b c) is = (is.0, cut_statement P f (within a) b is.1, cut_statement P f (within a) c is.2)
cut_statement P f a s is = absurd is

-- ---- a cut before an operand

stage_still : (label l : ℕ) (a b : Lowering) → a.reached ≡ true → BeginsStage a b → IsHere a.stages label → length a.stages.stages.items ≡ l →
    (IsHere b.stages label × (length b.stages.stages.items ≡ l)) ⊎ HasCome label l b.stages
stage_still label l a b on (inl p) here number =
    inl (subst (λ (z : Lowering). IsHere z.stages label) (sym p.same) here, ap (λ (z : Lowering). length z.stages.stages.items) p.same ∙ number)
stage_still label l a b on (inr p) here number = inr (stage_comes label l a b (inr p) (record { here = here; number = number; busy = p.busy; on = on }))

module _ (P : Program) (cut rest : Statement) (note : Option Note) (t f : ℕ) (old a b new : Lowering) (is_cut_ : is_cut cut ≡ true) (on : old.reached ≡ true)
    (lead : Leads P None cut old a) (proceeds : Proceeds None old a) (through : ComesThrough old a) (begins : BeginsStage a b) (second : Decides P rest note t f b new) where
  abbrev whole_ : Statement
  whole_ = Statement.Sequence cut rest

  a_b : Shifts a b
  a_b = stage_shifts a b begins

  old_b : Grows old b
  old_b = grows_both old a b lead.grows a_b.grows

  a_site : a.site ≡ old.site
  a_site = let e = lead.site in let none = cut_prints cut is_cut_ in omega (arith, e, none)

  b_site : b.site ≡ old.site
  b_site = a_b.site ∙ a_site

  cut_called : (g : ℕ) → Contains (calls_of cut) g → Contains (calls_of whole_) g
  cut_called = Contains-append_left (calls_of cut) (calls_of rest)

  rest_called : (g : ℕ) → Contains (calls_of rest) g → Contains (calls_of whole_) g
  rest_called = Contains-append_right (calls_of cut) (calls_of rest)

  cut_sites : (Q : Program) → HasSites Q Statement.Done old.site → HasSites Q cut old.site
  cut_sites Q sites = record { before = sites.before; after = sites.after; all = sites.all ∙ ap (λ l. sites.before ++ (l ++ sites.after)) (sym (cut_formats cut is_cut_)); number = sites.number }

  b_new : Advances None_ b.stages new.stages
  b_new = second.advances

  all_come : (label : ℕ) → IsHere old.stages label → HasCome label (length old.stages.stages.items) new.stages
  all_come label here = by (through.comes label here)
    where
      n : ℕ
      n = length old.stages.stages.items

      late : (IsHere b.stages label × (length b.stages.stages.items ≡ n)) ⊎ HasCome label n b.stages → HasCome label n new.stages
      late (inl still) = subst (λ k. HasCome label k new.stages) still.1 (second.comes label still.0)
      late (inr came) = come_on None_ label n b.stages new.stages b_new came

      by : IsStill label old a ⊎ HasCome label n a.stages → HasCome label n new.stages
      by (inl still) = late (stage_still label n a b through.reached begins still.here still.items)
      by (inr came) = late (inr (come_on None_ label n a.stages b.stages (stage_advance a b begins) came))

  cut_typing : (S : Typing) (size : ℕ) → SuitsAskedTyping P S size whole_ old → SuitsTyping P S size cut old
  cut_typing S size suits = record {
    seated = suits.seated;
    fits = suits.fits;
    words = subst (HasWords S.types size) (sym (cut_values cut is_cut_)) (λ j lt. absurd (omega (arith, lt)));
    good = suits.good;
    around = nowhere;
    resolved = cut_statement S.program S.function nowhere cut suits.resolved.0;
    sites = cut_sites S.program suits.sites;
    calls = λ g c. suits.calls g (cut_called g c);
  }

  cut_suits : (W : Whole) (homes : List Home) (size : ℕ) → SuitsAsked P W homes size whole_ old → Suits P W homes size cut old
  cut_suits W homes size suits = record {
    seated = suits.seated;
    homes_ = suits.homes_;
    good = suits.good;
    locals = suits.locals;
    around = nowhere;
    resolved = cut_statement W.setting.program W.setting.function nowhere cut suits.resolved.0;
    sites = cut_sites W.setting.program suits.sites;
    calls = λ g c. suits.calls g (cut_called g c);
  }

  b_idle : (size : ℕ) → IsGood size old → b.block.steps ≡ 0
  b_idle size good = stage_idle size a b (lead.grows.good size good) begins

  cut_leads : Decides P whole_ note t f old new
  cut_leads = record {
    grows = grows_both old b new old_b second.grows;
    site = second.site ∙ b_site;
    advances = advances_both None_ old.stages a.stages new.stages proceeds.advances (advances_both None_ a.stages b.stages new.stages (stage_advance a b begins) b_new);
    first = λ start begun. second.first start (stage_begun a b begins start (none_begun start a (proceeds.begun start (inl begun))));
    comes = all_come;
    typed = λ S w size slot suits now.
        let good_a = lead.grows.good size suits.good in
        let v = w + inlined_weight S.program cut in
        let at_b = a_b.typed S v size good_a (lead.typed S w size (cut_typing S size suits) now) in
        let none = unmet_none b.block.steps rest (b_idle size suits.good) in
        now_more S (v + (inlined_weight S.program rest + unmet b.block.steps rest)) (w + (inlined_weight S.program whole_ + unmet old.block.steps whole_)) new (omega (arith, none))
        (second.typed S v size slot (asked_typing_part P S size whole_ rest old b old_b b_site suits.resolved.1 rest_called suits) at_b);
    ends = second.ends;
    marks = second.marks;
    asks = λ W homes size n k suits slot whole keeps at.
        subst (GoesOn W homes nothing_kept n old) (sym (settled_sequence cut rest k))
        (lead.leads W homes size n (Do rest ∷ k) (cut_suits W homes size suits) (a_b.grows.whole W (second.grows.whole W whole)) tt
        (λ reached j le.
        stage_goes W homes j (settled Onward (Do rest ∷ k)) nothing_kept size a b (lead.grows.good size suits.good) reached begins (second.grows.whole W whole)
        (λ i below.
        second.asks W homes size i k (asked_part P W homes size whole_ rest old b old_b b_site suits.resolved.1 rest_called suits) slot whole keeps
        (λ m lt truth. at m (omega arith) truth)))
        on n (omega arith));
  }

pub sequence_decides : (P : Program) (d cut rest : Statement) (note : Option Note) (t f : ℕ) (old a b new : Lowering) → d ≡ Statement.Sequence cut rest → is_cut cut ≡ true → old.reached ≡ true →
    Leads P None cut old a → Proceeds None old a → ComesThrough old a → BeginsStage a b → Decides P rest note t f b new → Decides P d note t f old new
sequence_decides P d cut rest note t f old a b new is cut_is on lead proceeds through begins second =
    rw is (cut_leads P cut rest note t f old a b new cut_is on lead proceeds through begins second)

-- ---- cuts are come through

pub through_refl : (c : Lowering) → c.reached ≡ true → ComesThrough c c
through_refl c on = record { reached = on; comes = λ label here. inl (record { here = here; items = refl }) }

pub through_both : (a b c : Lowering) → Advances None_ b.stages c.stages → ComesThrough a b → ComesThrough b c → ComesThrough a c
through_both a b c advances h k = record { reached = k.reached; comes = λ label here. by label (h.comes label here) }
  where
    late : (label : ℕ) → length b.stages.stages.items ≡ length a.stages.stages.items → IsStill label b c ⊎ HasCome label (length b.stages.stages.items) c.stages →
        IsStill label a c ⊎ HasCome label (length a.stages.stages.items) c.stages
    late label items (inl still) = inl (record { here = still.here; items = still.items ∙ items })
    late label items (inr came) = inr (subst (λ n. HasCome label n c.stages) items came)

    by : (label : ℕ) → IsStill label a b ⊎ HasCome label (length a.stages.stages.items) b.stages → IsStill label a c ⊎ HasCome label (length a.stages.stages.items) c.stages
    by label (inl still) = late label still.items (k.comes label still.here)
    by label (inr came) = inr (come_on None_ label _ b.stages c.stages advances came)

-- a block that begins, and more of it
pub through_stage : (old mid new : Lowering) → old.reached ≡ true → BeginsStage old mid → new.stages ≡ mid.stages → new.reached ≡ mid.reached → ComesThrough old new
through_stage old mid new on begins stages reached = record {
  reached = reached ∙ stage_reached old mid on begins;
  comes = λ label here. by label (stage_still label (length old.stages.stages.items) old mid on begins here refl);
}
  where
    by : (label : ℕ) → (IsHere mid.stages label × (length mid.stages.stages.items ≡ length old.stages.stages.items)) ⊎ HasCome label (length old.stages.stages.items) mid.stages →
        IsStill label old new ⊎ HasCome label (length old.stages.stages.items) new.stages
    by label (inl still) = inl (record { here = subst (λ z. IsHere z label) (sym stages) still.0; items = ap (λ z. length z.stages.items) stages ∙ still.1 })
    by label (inr came) = inr (subst (HasCome label (length old.stages.stages.items)) (sym stages) came)

-- ---- && and || as a value

unmet_joined : (steps : ℕ) (d : Statement) → IsJoined d → unmet steps d ≡ 0
unmet_joined zero d is = refl
unmet_joined (suc steps) (Statement.Both a b) is = refl
unmet_joined (suc steps) (Statement.Either a b) is = refl
unmet_joined (suc steps) d is = absurd is

module _ (P : Program) (around : Option Loop) (slot : ℕ) (d : Statement) (next : ℕ) (old a m new : Lowering) (number : next ≡ length old.stages.labels) (label : a ≡ with_label old)
    (on : old.reached ≡ true) (decides : Decides P d (Some (record { slot = slot; turned = false })) next next a m) (begins : Begins next m new) where
  abbrev truth_ : Statement
  truth_ = Statement.Truth slot d

  to_a : Shifts old a
  to_a = subst (Shifts old) (sym label) (label_relabels old).shifts

  m_new : Shifts m new
  m_new = begins_shifts next m new begins

  old_m : Grows old m
  old_m = grows_both old a m to_a.grows decides.grows

  pub truth_leads : Leads P around truth_ old new
  truth_leads = record {
    grows = grows_both old m new old_m m_new.grows;
    site = (let x = m_new.site in let y = decides.site in let z = to_a.site in omega (arith, x, y, z));
    typed = λ S w size suits now.
        let none = unmet_joined a.block.steps d suits.resolved.1 in
        let now_a = to_a.typed S w size suits.good now in
        let v = w + (inlined_weight S.program d + unmet a.block.steps d) in
        let at_m = decides.typed S w size suits.resolved.0.local
        (typing_asked P S size truth_ d old a to_a.grows suits suits.resolved.2 (no_sites S.program truth_ old.site a.site suits.sites to_a.site) (λ g c. c)) now_a in
        now_more S v (w + inlined_weight S.program truth_) new (omega (arith, none)) (m_new.typed S v size (old_m.good size suits.good) at_m);
    leads = λ W homes size n k suits whole out after reached j le.
        subst (GoesOn W homes nothing_kept j old) (opened_part W.setting.program W.setting.function truth_ d k (NoteWork slot ∷ k) suits.resolved.2 refl)
        (goes_before_label W homes nothing_kept j old a (settled Onward (Do d ∷ NoteWork slot ∷ k)) label
        (decides.asks W homes size j (NoteWork slot ∷ k)
        (suits_asked P W homes size truth_ d old a to_a.grows suits suits.resolved.2 (no_sites W.setting.program truth_ old.site a.site suits.sites to_a.site) (λ g c. c))
        suits.resolved.0.local (m_new.grows.whole W whole) (λ truth. refl)
        (λ i lt truth. by W homes k i
        (begin_at W homes i (settled Onward k) nothing_kept next m new (begun_idle next size m new (old_m.good size suits.good) begins) begins
        (after (begun_reached next m new begins) i (omega arith))) truth)));
  }
    where
      by : (W : Whole) (homes : List Home) (k : List Work) (i : ℕ) → AtLabel W homes i next (settled Onward k) → (truth : Bool) →
          AtLabel W homes i (side next next truth) (decided truth (NoteWork slot ∷ k))
      by W homes k i at true = at
      by W homes k i at false = at

  pub truth_through : ComesThrough old new
  truth_through = record {
    reached = begun_reached next m new begins;
    comes = λ h here.
        inr (come_on (λ other. other ≡ next) h (length old.stages.stages.items) m.stages new.stages (begins_advance next m new begins)
        (subst (λ n. HasCome h n m.stages) (ap (λ (z : Lowering). length z.stages.stages.items) label)
        (decides.comes h (subst (λ (z : Lowering). IsHere z.stages h) (sym label) (get_front old.stages.labels (None ∷ []) h (Some (length old.stages.places)) here)))));
  }

  pub truth_proceeds : Proceeds around old new
  truth_proceeds =
      begun_proceeds around old new (m_new.grows.back ∙ decides.grows.back ∙ to_a.grows.back) on
      (bound_new next old.stages m.stages new.stages (omega (arith, number))
      (advances_both None_ old.stages a.stages m.stages (labels_more old.stages a.stages (ap (λ (z : Lowering). z.stages) label)) decides.advances) (begins_advance next m new begins))
      (λ start begun.
      inr (first_after (λ other. other ≡ next) m.stages new.stages start (begins_advance next m new begins)
      (decides.first start (subst (Begun start) (sym label) (label_begun start old begun)))))
      (λ h l head. inr (subst (λ n. HasCome h n new.stages) head.number (came h head.here)))
    where
      came : (h : ℕ) → IsHere old.stages h → HasCome h (length old.stages.stages.items) new.stages
      came h here =
          come_on (λ other. other ≡ next) h (length old.stages.stages.items) m.stages new.stages (begins_advance next m new begins)
          (subst (λ n. HasCome h n m.stages) (ap (λ (z : Lowering). length z.stages.stages.items) label)
          (decides.comes h (subst (λ (z : Lowering). IsHere z.stages h) (sym label) (get_front old.stages.labels (None ∷ []) h (Some (length old.stages.places)) here))))

pub truth_lowers : (P : Program) (around : Option Loop) (s d : Statement) (slot next : ℕ) (old a m new : Lowering) → s ≡ Statement.Truth slot d → next ≡ length old.stages.labels → a ≡ with_label old →
    old.reached ≡ true → Decides P d (Some (record { slot = slot; turned = false })) next next a m → Begins next m new → Leads P around s old new
truth_lowers P around s d slot next old a m new is number label on decides begins = rw is (truth_leads P around slot d next old a m new number label on decides begins)

pub truth_full : (P : Program) (depth slot : ℕ) (d : Statement) (old a : Lowering) (fault : LoweringFault) → a ≡ with_label old →
    IsFullAsked P depth d (Some (record { slot = slot; turned = false })) a fault → IsFullFor P depth (Statement.Truth slot d) old fault
truth_full P depth slot d old a fault label full = λ S w size suits deep now.
    let to_a : Shifts old a = subst (Shifts old) (sym label) (label_relabels old).shifts in
    full S w size suits.resolved.0.local
    (typing_asked P S size (Statement.Truth slot d) d old a to_a.grows suits suits.resolved.2
    (no_sites S.program (Statement.Truth slot d) old.site a.site suits.sites to_a.site) (λ g c. c))
    deep (to_a.typed S w size suits.good now)

-- ---- ?: as a cut

module _ (P : Program) (d : Statement) (l : ChoiceLabels) (old a b e g new : Lowering) (opens : OpensChoice P d l old a) (around : Option Loop) (first : Proceeds around a b)
    (through : a.reached ≡ true → b.reached ≡ true) (turns : TurnsChoice l b e) (e_g : Grows e g) (second : Proceeds around e g) (closes : Binds l.join g new) where
  a_reached : a.reached ≡ true
  a_reached = by opens.binds
    where
      by : Binds l.if_true opens.decided a → a.reached ≡ true
      by (inl p) = absurd (let off = p.unused in let marked_ = opens.decides.marks true in cc)
      by (inr p) = begun_reached l.if_true opens.decided a p.begins

  join_used : is_used g.stages.used l.join ≡ true
  join_used = e_g.used l.join ((binds_shifts l.if_false turns.mid e turns.binds).grows.used l.join (by turns.leaps))
    where
      leap_used : Jumps l.join b turns.mid → is_used turns.mid.stages.used l.join ≡ true
      leap_used p = way p.way ∙ is_marked b.stages.used l.join
        where
          way : LeadsOn l.join (marked l.join b) turns.mid ⊎ EndsBusy l.join (marked l.join b) turns.mid → is_used turns.mid.stages.used l.join ≡ is_used (with_used b.stages.used l.join) l.join
          way (inl q) = ap (λ us. is_used us l.join) q.settles.used
          way (inr q) = ap (λ us. is_used us l.join) q.ends.pushes.used

      by : Leaps l.join b turns.mid → is_used turns.mid.stages.used l.join ≡ true
      by (inl p) = absurd (let off = p.off in let reached = through a_reached in cc)
      by (inr p) = leap_used p.jumps

  pub choice_through : ComesThrough old new
  choice_through = record {
    reached = by closes;
    comes = λ label here.
        inr (come_on (λ other. other ≡ l.join) label n g.stages new.stages (binds_advance l.join g new closes)
        (come_on None_ label n e.stages g.stages second.advances
        (come_on (λ other. other ≡ l.if_false) label n b.stages e.stages (turns_advance l b e turns)
        (come_on None_ label n a.stages b.stages first.advances
        (come_on (λ other. other ≡ l.if_true) label n opens.decided.stages a.stages (binds_advance l.if_true opens.decided a opens.binds)
        (subst (λ k. HasCome label k opens.decided.stages) (ap (λ v. length v.items) opens.relabels.items) (opens.decides.comes label (opens.relabels.here label here))))))));
  }
    where
      n : ℕ
      n = length old.stages.stages.items

      by : Binds l.join g new → new.reached ≡ true
      by (inl p) = absurd (let off = p.unused in let on = join_used in cc)
      by (inr p) = begun_reached l.join g new p.begins

-- ---- what a cut and the rest of its condition need, where they are too large

module _ (P : Program) (depth : ℕ) (d cut rest : Statement) (note : Option Note) (old : Lowering) (fault : LoweringFault) (is : d ≡ Statement.Sequence cut rest) (is_cut_ : is_cut cut ≡ true) where
  cut_typed : (S : Typing) (size : ℕ) → SuitsAskedTyping P S size (Statement.Sequence cut rest) old → SuitsTyping P S size cut old
  cut_typed S size suits = record {
    seated = suits.seated;
    fits = suits.fits;
    words = subst (HasWords S.types size) (sym (cut_values cut is_cut_)) (λ j lt. absurd (omega (arith, lt)));
    good = suits.good;
    around = nowhere;
    resolved = cut_statement S.program S.function nowhere cut suits.resolved.0;
    sites = record {
      before = suits.sites.before;
      after = suits.sites.after;
      all = suits.sites.all ∙ ap (λ l. suits.sites.before ++ (l ++ suits.sites.after)) (sym (cut_formats cut is_cut_));
      number = suits.sites.number;
    };
    calls = λ g c. suits.calls g (Contains-append_left (calls_of cut) (calls_of rest) g c);
  }

  pub cut_at : IsFullFor P depth cut old fault → IsFullAsked P depth d note old fault
  cut_at full = rw is (λ S w size slot suits deep now.
      full_more fault (needed S size (w + inlined_weight S.program cut)) (needed S size (w + (inlined_weight S.program cut + inlined_weight S.program rest))) (omega arith)
      (full S w size (cut_typed S size suits) deep now))

  pub rest_at : (a b : Lowering) → old.reached ≡ true → Leads P None cut old a → ComesThrough old a → BeginsStage a b → IsFullAsked P depth rest note b fault → IsFullAsked P depth d note old fault
  rest_at a b on lead through begins full = rw is (λ S w size slot suits deep now.
      let a_b = stage_shifts a b begins in
      let v = w + inlined_weight S.program cut in
      let at_a = lead.typed S w size (cut_typed S size suits) now in
      let e = lead.site in
      let none = cut_prints cut is_cut_ in
      let site : a.site ≡ old.site = omega (arith, e, none) in
      full_more fault (needed S size (v + inlined_weight S.program rest)) (needed S size (w + (inlined_weight S.program cut + inlined_weight S.program rest))) (omega arith)
      (full S v size slot
      (asked_typing_part P S size (Statement.Sequence cut rest) rest old b (grows_both old a b lead.grows a_b.grows) (a_b.site ∙ site) suits.resolved.1
      (Contains-append_right (calls_of cut) (calls_of rest)) suits)
      deep (a_b.typed S v size (lead.grows.good size suits.good) at_a)))
