-- Statements with others in them: lists, ifs and loops.
use Rattle.std.proofs.Common.{◌≡◌, ℕ, zero, suc, ◌+◌, ◌<◌, ◌≤◌, Bool, true, false, List, [], ◌∷◌, ◌++◌, Option, Some, None, refl, sym, ap, ◌∙◌, subst, inl, inr, arith}
use Rattle.std.proofs.Common.{append-nil, append_assoc, length-append}
use Rattle.c_program.specs.Tree.{Statement, Function, Program}
use Rattle.std.specs.Prelude.{Contains, IfSome}
use Rattle.std.proofs.lemmas.List.Elements.{Contains-append_left, Contains-append_right}
use Rattle.c_program.specs.Calls.{calls_of}
use Rattle.c_program.specs.Limits.{print_count}
use Rattle.code_places.specs.Weighing.{inlined_weight}
use Rattle.c_program.specs.Resolved.{IsCondition, Around, IsStatement, nowhere, within}
use Rattle.c_program.specs.Resolved as resolved
use Rattle.thread_semantics.specs.Work.{Work, Do, Choose, Turn, Next, Loop as WorkLoop, Going, Onward, Leaving, Turning, in_order, in_loop, asked, while_loop, for_loop}
use Rattle.thread_semantics.specs.Work.{opened, settled, decided}
use Rattle.code_following.specs.Following.{formats_of}
use Rattle.code_blocks.specs.declared.homes.Home.{Home}
use Rattle.code_places.specs.declared.targets.Loop.{Loop}
use Rattle.code_control.specs.declared.branching.ChoiceLabels.{ChoiceLabels}
use Rattle.code_control.specs.declared.branching.LoopLabels.{LoopLabels}
use Rattle.code_places.specs.declared.lowering.Lowering.{Lowering}
use Rattle.code_storage.specs.Values.{most_values}
use Rattle.code_blocks.specs.Typing.{Typing, Fits}
use Rattle.code_places.specs.Resuming.{nothing_kept}
use Rattle.code_storage.specs.Formats.{HasSites}
use Rattle.code_places.specs.Labels.{is_used}
use Rattle.code_places.specs.Apart.{IsTypedNow, IsGood}
use Rattle.code_control.specs.Deciding.{side, SuitsAsked, SuitsAskedTyping}
use Rattle.code_places.specs.Control.{Binds, Whole, IsIn, AtLabel, AtLabelUpTo, GoesOn}
use Rattle.code_places.specs.Doing.{Grows, Shifts, at_site, OnwardUpTo, IfUsed, LeadsOut, Suits, SuitsTyping, Leads, LowersHere}
use Rattle.code_control.specs.Branching.{OpensChoice, TurnsChoice, OpensLoop, OpensTurn, ClosesTurn, Asks, ClosesDo}
use Rattle.code_storage.proofs.Sites.{formats_length, part_sites}
use Rattle.code_places.proofs.KeptLocals.{seat_on, typed_seat_on}
use Rattle.code_places.proofs.TypedGrowth.{now_more, words_less}
use Rattle.code_places.proofs.LabelTargets.{begin_at, begun_idle, begin_goes_on}
use Rattle.code_places.proofs.CodeGrowth.{grows_refl, grows_both, site_grows, site_typed, begins_shifts, begun_reached, binds_shifts, leaps_shifts, goes_relabelled, binds_at}
use Rattle.code_places.proofs.CodeGrowth.{binds_goes, leaps_goes}
use Rattle.code_control.proofs.Decisions.{opened_asked, opened_part, asked_part, asked_typing_part, decided_typed}
use Rattle.code_control.proofs.BoundLabels.{while_labels, labels_of}

-- ---- parts of statements

-- where break and continue lead, for what comes before
pub out_before : (W : Whole) (homes : List Home) (n : ℕ) (before after : Lowering) (around : Option Loop) (k : List Work) → Grows before after → LeadsOut W homes n after.stages.used around k →
    LeadsOut W homes n before.stages.used around k
out_before W homes n before after None k grows out = tt
out_before W homes n before after (Some l) k grows out = (
  λ used j le. out.0 (grows.used l.leaving used) j le,
  by l.turning out.1,
)
  where
    by : (o : Option ℕ) → IfSome o (λ turning. IfUsed W homes n after.stages.used turning (settled Turning k)) → IfSome o (λ turning. IfUsed W homes n before.stages.used turning (settled Turning k))
    by None to = tt
    by (Some turning) to = λ used j le. to (grows.used turning used) j le

module _ (P : Program) (W : Whole) (homes : List Home) (size : ℕ) (s t : Statement) (old c : Lowering) (grows : Grows old c) (suits : Suits P W homes size s old) where
  pub suits_part : (around : Around) → IsStatement W.setting.program W.setting.function around t → HasSites W.setting.program t c.site →
      ((g : ℕ) → Contains (calls_of t) g → Contains (calls_of s) g) → Suits P W homes size t c
  suits_part around resolved sites calls = record {
    seated = seat_on P W homes size old c grows.back grows.rooms grows.objects suits.seated;
    homes_ = grows.homes ∙ suits.homes_;
    good = grows.good size suits.good;
    locals = suits.locals;
    around = around;
    resolved = resolved;
    sites = sites;
    calls = λ g c. suits.calls g (calls g c);
  }

module _ (P : Program) (S : Typing) (size : ℕ) (s t : Statement) (old c : Lowering) (grows : Grows old c) (suits : SuitsTyping P S size s old) where
  pub typing_part : (around : Around) → most_values t ≤ most_values s → IsStatement S.program S.function around t → HasSites S.program t c.site →
      ((g : ℕ) → Contains (calls_of t) g → Contains (calls_of s) g) → SuitsTyping P S size t c
  typing_part around most resolved sites calls = record {
    seated = typed_seat_on P S size old c grows.back grows.rooms grows.objects suits.seated;
    fits = subst (Fits S) (sym grows.homes) suits.fits;
    words = words_less S.types size (most_values t) (most_values s) most suits.words;
    good = grows.good size suits.good;
    around = around;
    resolved = resolved;
    sites = sites;
    calls = λ g c. suits.calls g (calls g c);
  }

-- what the code of a condition in a statement rests on

pub no_sites : (Q : Program) (s : Statement) (site next : ℕ) → HasSites Q s site → next ≡ site → HasSites Q Statement.Done next
no_sites Q s site next sites is = part_sites Q s Statement.Done [] (formats_of s) site next sites refl (omega (arith, is))

module _ (P : Program) (W : Whole) (homes : List Home) (size : ℕ) (s d : Statement) (old c : Lowering) (grows : Grows old c) (suits : Suits P W homes size s old) where
  pub suits_asked : IsCondition W.setting.program W.setting.function d → HasSites W.setting.program Statement.Done c.site → ((g : ℕ) → Contains (calls_of d) g → Contains (calls_of s) g) →
      SuitsAsked P W homes size d c
  suits_asked resolved sites calls = record {
    seated = seat_on P W homes size old c grows.back grows.rooms grows.objects suits.seated;
    homes_ = grows.homes ∙ suits.homes_;
    good = grows.good size suits.good;
    locals = suits.locals;
    resolved = resolved;
    sites = sites;
    calls = λ g c. suits.calls g (calls g c);
  }

module _ (P : Program) (S : Typing) (size : ℕ) (s d : Statement) (old c : Lowering) (grows : Grows old c) (suits : SuitsTyping P S size s old) where
  pub typing_asked : IsCondition S.program S.function d → HasSites S.program Statement.Done c.site → ((g : ℕ) → Contains (calls_of d) g → Contains (calls_of s) g) → SuitsAskedTyping P S size d c
  typing_asked resolved sites calls = record {
    seated = typed_seat_on P S size old c grows.back grows.rooms grows.objects suits.seated;
    fits = subst (Fits S) (sym grows.homes) suits.fits;
    good = grows.good size suits.good;
    resolved = resolved;
    sites = sites;
    calls = λ g c. suits.calls g (calls g c);
  }

-- ---- what is left out

pub skips : (P : Program) (around : Option Loop) (s : Statement) (old new : Lowering) → old.reached ≡ false → new ≡ at_site (old.site + print_count s) old → Leads P around s old new
skips P around s old new off is = record {
  grows = subst (Grows old) (sym is) (site_grows (old.site + print_count s) old);
  site = ap (λ (z : Lowering). z.site) is;
  typed = λ S w size suits now.
      subst (IsTypedNow S (w + inlined_weight S.program s)) (sym is)
      (site_typed (old.site + print_count s) old S (w + inlined_weight S.program s) (now_more S w (w + inlined_weight S.program s) old (omega arith) now));
  leads = λ W homes size n k suits whole out after on. absurd cc;
}

pub simple_lowers : (P : Program) (around : Option Loop) (s : Statement) (old new : Lowering) → old.reached ≡ true → LowersHere P around s old new → Leads P around s old new
simple_lowers P around s old new on h = h on

-- ---- one statement after another

abbrev onward : (b : Statement) (k : List Work) → (going : Going) → in_order going (opened b k (λ g. settled g k)) (λ g. settled g k) ≡ settled going (Do b ∷ k)
onward b k Onward = refl
onward b k Leaving = refl
onward b k Turning = refl

pub settled_sequence : (a b : Statement) (k : List Work) → settled Onward (Do (Statement.Sequence a b) ∷ k) ≡ settled Onward (Do a ∷ Do b ∷ k)
settled_sequence a b k = λ d. opened a (Do b ∷ k) (λ going. onward b k going d)

-- a break or a continue passes by what follows in the same list
pub out_past : (W : Whole) (homes : List Home) (n : ℕ) (used : List Bool) (around : Option Loop) (b : Statement) (k : List Work) → LeadsOut W homes n used around k →
    LeadsOut W homes n used around (Do b ∷ k)
out_past W homes n used None b k out = tt
out_past W homes n used (Some l) b k out = out

module _ (P : Program) (around : Option Loop) (a b : Statement) (old mid new : Lowering) (first : Leads P around a old mid) (second : Leads P around b mid new) where
  abbrev pair : Statement
  pair = Statement.Sequence a b

  first_sites : (P : Program) → HasSites P pair old.site → HasSites P a old.site
  first_sites P sites = part_sites P pair a [] (formats_of b) old.site old.site sites refl (omega arith)

  rest_sites : (P : Program) → HasSites P pair old.site → HasSites P b mid.site
  rest_sites P sites =
      part_sites P pair b (formats_of a) [] old.site mid.site sites (ap (λ l. formats_of a ++ l) (sym (append-nil (formats_of b))))
      (let l = formats_length a in let e = first.site in omega (arith, l, e))

  pub sequence_leads : Leads P around pair old new
  sequence_leads = record {
    grows = grows_both old mid new first.grows second.grows;
    site = (let x = first.site in let y = second.site in omega (arith, x, y));
    typed = λ S w size suits now.
        let h = first.typed S w size
        (typing_part P S size pair a old old (grows_refl old) suits suits.around (omega arith) suits.resolved.0 (first_sites S.program suits.sites)
        (Contains-append_left (calls_of a) (calls_of b))) now in
        let k = second.typed S (w + inlined_weight S.program a) size
        (typing_part P S size pair b old mid first.grows suits suits.around (omega arith) suits.resolved.1 (rest_sites S.program suits.sites) (Contains-append_right (calls_of a) (calls_of b))) h in
        subst (λ v. IsTypedNow S v new) (let e : w + inlined_weight S.program a + inlined_weight S.program b ≡ w + (inlined_weight S.program a + inlined_weight S.program b) = omega arith in e) k;
    leads = λ W homes size n k suits whole out after.
        subst (λ w. OnwardUpTo W homes n old w) (sym (settled_sequence a b k))
        (first.leads W homes size n (Do b ∷ k)
        (suits_part P W homes size pair a old old (grows_refl old) suits suits.around suits.resolved.0 (first_sites W.setting.program suits.sites) (Contains-append_left (calls_of a) (calls_of b)))
        (second.grows.whole W whole)
        (out_past W homes n mid.stages.used around b k (out_before W homes n mid new around k second.grows out))
        (second.leads W homes size n k
        (suits_part P W homes size pair b old mid first.grows suits suits.around suits.resolved.1 (rest_sites W.setting.program suits.sites) (Contains-append_right (calls_of a) (calls_of b)))
        whole out after));
  }

-- ---- a block

pub block_lowers : (P : Program) (around : Option Loop) (s body : Statement) (old new : Lowering) → s ≡ Statement.Block body → Leads P around body old new → Leads P around s old new
block_lowers P around s body old new is h = rw is (
    let inner = h in
    record {
      grows = inner.grows;
      site = inner.site;
      typed = λ S w size suits now.
          now_more S (w + inlined_weight S.program body) (w + (inlined_weight S.program body + 1)) new (omega arith)
          (inner.typed S w size
          (typing_part P S size (Statement.Block body) body old old (grows_refl old) suits (within suits.around) (omega arith) suits.resolved (sites_of S.program suits.sites) (λ g c. c)) now);
      leads = λ W homes size n k suits whole out after.
          inner.leads W homes size n k
          (suits_part P W homes size (Statement.Block body) body old old (grows_refl old) suits (within suits.around) suits.resolved
          (sites_of W.setting.program suits.sites) (λ g c. c)) whole out after;
    })
  where
    sites_of : (P : Program) → HasSites P (Statement.Block body) old.site → HasSites P body old.site
    sites_of P sites = part_sites P (Statement.Block body) body [] [] old.site old.site sites (sym (append-nil (formats_of body))) (omega arith)

-- ---- an if

module _ (P : Program) (around : Option Loop) (d : Statement) (l : ChoiceLabels) (one other : Statement) (old a b e g new : Lowering) (opens : OpensChoice P d l old a) (first : Leads P around one a b)
    (turns : TurnsChoice l b e) (second : Leads P around other e g) (closes : Binds l.join g new) where
  abbrev choice : Statement
  choice = Statement.If d one other

  one_called : (g : ℕ) → Contains (calls_of one) g → Contains (calls_of choice) g
  one_called g c = Contains-append_right (calls_of d) (calls_of one ++ calls_of other) g (Contains-append_left (calls_of one) (calls_of other) g c)

  other_called : (g : ℕ) → Contains (calls_of other) g → Contains (calls_of choice) g
  other_called g c = Contains-append_right (calls_of d) (calls_of one ++ calls_of other) g (Contains-append_right (calls_of one) (calls_of other) g c)

  to_labelled : Grows old opens.labelled
  to_labelled = opens.relabels.shifts.grows

  to_decided : Grows opens.labelled opens.decided
  to_decided = opens.decides.grows

  to_a : Grows opens.decided a
  to_a = (binds_shifts l.if_true opens.decided a opens.binds).grows

  old_decided : Grows old opens.decided
  old_decided = grows_both old opens.labelled opens.decided to_labelled to_decided

  old_a : Grows old a
  old_a = grows_both old opens.decided a old_decided to_a

  old_b : Grows old b
  old_b = grows_both old a b old_a first.grows

  to_mid : Grows b turns.mid
  to_mid = (leaps_shifts l.join b turns.mid turns.leaps).grows

  to_e : Grows turns.mid e
  to_e = (binds_shifts l.if_false turns.mid e turns.binds).grows

  old_mid : Grows old turns.mid
  old_mid = grows_both old b turns.mid old_b to_mid

  old_e : Grows old e
  old_e = grows_both old turns.mid e old_mid to_e

  old_g : Grows old g
  old_g = grows_both old e g old_e second.grows

  to_new : Grows g new
  to_new = (binds_shifts l.join g new closes).grows

  a_site : a.site ≡ old.site
  a_site = (binds_shifts l.if_true opens.decided a opens.binds).site ∙ opens.decides.site ∙ opens.relabels.shifts.site

  e_site : e.site ≡ b.site
  e_site = (binds_shifts l.if_false turns.mid e turns.binds).site ∙ (leaps_shifts l.join b turns.mid turns.leaps).site

  one_sites : (P : Program) → HasSites P choice old.site → HasSites P one a.site
  one_sites P sites = part_sites P choice one [] (formats_of other) old.site a.site sites refl (let x = a_site in omega (arith, x))

  other_sites : (P : Program) → HasSites P choice old.site → HasSites P other e.site
  other_sites P sites =
      part_sites P choice other (formats_of one) [] old.site e.site sites (ap (λ l. formats_of one ++ l) (sym (append-nil (formats_of other))))
      (let c = formats_length one in let x = a_site in let y = first.site in let z = e_site in omega (arith, c, x, y, z))

  choice_typed : (S : Typing) (w size : ℕ) → SuitsTyping P S size choice old → IsTypedNow S w old → IsTypedNow S (w + inlined_weight S.program choice) new
  choice_typed S w size suits now =
      let at_labelled = opens.relabels.shifts.typed S w size suits.good now in
      let v = w + (inlined_weight S.program d + 1) in
      let at_decided = decided_typed P d None l.if_true l.if_false opens.labelled opens.decided opens.decides S w size tt
      (typing_asked P S size choice d old opens.labelled to_labelled suits suits.resolved.0
      (no_sites S.program choice old.site opens.labelled.site suits.sites opens.relabels.shifts.site) (Contains-append_left (calls_of d) (calls_of one ++ calls_of other))) at_labelled in
      let at_a = (binds_shifts l.if_true opens.decided a opens.binds).typed S v size (old_decided.good size suits.good) at_decided in
      let at_b = first.typed S v size (typing_part P S size choice one old a old_a suits (within suits.around) (omega arith) suits.resolved.1 (one_sites S.program suits.sites)
      one_called) at_a in
      let at_mid = (leaps_shifts l.join b turns.mid turns.leaps).typed S (v + inlined_weight S.program one) size (old_b.good size suits.good) at_b in
      let at_e = (binds_shifts l.if_false turns.mid e turns.binds).typed S (v + inlined_weight S.program one) size (old_mid.good size suits.good) at_mid in
      let at_g = second.typed S (v + inlined_weight S.program one) size
      (typing_part P S size choice other old e old_e suits (within suits.around) (omega arith) suits.resolved.2 (other_sites S.program suits.sites)
      other_called) at_e in
      now_more S (v + inlined_weight S.program one + inlined_weight S.program other) (w + inlined_weight S.program choice) new (omega arith)
      ((binds_shifts l.join g new closes).typed S (v + inlined_weight S.program one + inlined_weight S.program other) size (old_g.good size suits.good) at_g)

  module _ (W : Whole) (homes : List Home) (size n : ℕ) (k : List Work) (suits : Suits P W homes size choice old) (whole : IsIn W new) (out : LeadsOut W homes n new.stages.used around k)
      (after : OnwardUpTo W homes n new (settled Onward k)) where
    whole_g : IsIn W g
    whole_g = to_new.whole W whole

    whole_e : IsIn W e
    whole_e = second.grows.whole W whole_g

    whole_mid : IsIn W turns.mid
    whole_mid = to_e.whole W whole_e

    whole_b : IsIn W b
    whole_b = to_mid.whole W whole_mid

    whole_a : IsIn W a
    whole_a = first.grows.whole W whole_b

    other_goes : OnwardUpTo W homes n e (settled Onward (Do other ∷ k))
    other_goes =
        second.leads W homes size n k (suits_part P W homes size choice other old e old_e suits (within suits.around) suits.resolved.2 (other_sites W.setting.program suits.sites)
        other_called) whole_g
        (out_before W homes n g new around k to_new out) (binds_goes W homes n (settled Onward k) l.join size g new (old_g.good size suits.good) closes whole after)

    joins : IfUsed W homes n turns.mid.stages.used l.join (settled Onward k)
    joins used =
        binds_at W homes n (settled Onward k) l.join size g new (old_g.good size suits.good) closes whole after (second.grows.used l.join (to_e.used l.join used))

    one_goes : OnwardUpTo W homes n a (settled Onward (Do one ∷ k))
    one_goes =
        first.leads W homes size n k (suits_part P W homes size choice one old a old_a suits (within suits.around) suits.resolved.1 (one_sites W.setting.program suits.sites)
        one_called) whole_b
        (out_before W homes n b new around k (grows_both b e new (grows_both b turns.mid e to_mid to_e) (grows_both e g new second.grows to_new)) out)
        (leaps_goes W homes n (settled Onward k) l.join size b turns.mid (old_b.good size suits.good) turns.leaps whole_mid joins)

    sides : (truth : Bool) → AtLabelUpTo W homes n (side l.if_true l.if_false truth) (decided truth (Choose one other ∷ k))
    sides true =
        binds_at W homes n (settled Onward (Do one ∷ k)) l.if_true size opens.decided a (old_decided.good size suits.good) opens.binds whole_a one_goes (opens.decides.marks true)
    sides false =
        binds_at W homes n (settled Onward (Do other ∷ k)) l.if_false size turns.mid e (old_mid.good size suits.good) turns.binds whole_e other_goes
        (to_mid.used l.if_false (first.grows.used l.if_false (to_a.used l.if_false (opens.decides.marks false))))

    choice_goes : OnwardUpTo W homes n old (settled Onward (Do choice ∷ k))
    choice_goes on j le =
        subst (GoesOn W homes nothing_kept j old) (opened_part W.setting.program W.setting.function choice d k (Choose one other ∷ k) suits.resolved.0 refl)
        (goes_relabelled W homes nothing_kept j (settled Onward (Do d ∷ Choose one other ∷ k)) old opens.labelled opens.relabels
        (opens.decides.asks W homes size j (Choose one other ∷ k)
        (suits_asked P W homes size choice d old opens.labelled to_labelled suits suits.resolved.0
        (no_sites W.setting.program choice old.site opens.labelled.site suits.sites opens.relabels.shifts.site) (Contains-append_left (calls_of d) (calls_of one ++ calls_of other)))
        tt (to_a.whole W whole_a) (λ truth. refl) (λ i lt truth. sides truth i (omega arith))))

  pub choice_leads : Leads P around choice old new
  choice_leads = record {
    grows = grows_both old g new old_g to_new;
    site = (let x = a_site in let y = first.site in let z = e_site in let u = second.site in let v = (binds_shifts l.join g new closes).site in omega (arith, x, y, z, u, v));
    typed = choice_typed;
    leads = choice_goes;
  }

pub choice_lowers : (P : Program) (around : Option Loop) (s : Statement) (d : Statement) (one other : Statement) (l : ChoiceLabels) (old a b e g new : Lowering) → s ≡ Statement.If d one other →
    OpensChoice P d l old a →
    Leads P around one a b → TurnsChoice l b e → Leads P around other e g → Binds l.join g new → Leads P around s old new
choice_lowers P around s d one other l old a b e g new is opens first turns second closes =
    rw is (choice_leads P around d l one other old a b e g new opens first turns second closes)

-- ---- the turns of a loop

-- what holds of each number where it holds of those below it
from_below : (n : ℕ) (Q : ℕ → Type 0) → ((i : ℕ) → i ≤ n → ((j : ℕ) → j < i → Q j) → Q i) → (i : ℕ) → i ≤ n → Q i
from_below n Q step i le = step i le (λ j lt. below i le j lt)
  where
    below : (i : ℕ) → i ≤ n → (j : ℕ) → j < i → Q j
    below zero le j lt = absurd (omega arith)
    below (suc i) le j lt = step j (omega arith) (λ m less. below i (omega arith) m (omega arith))

-- the condition of a loop before the work k
abbrev pub asking : WorkLoop → List Work → List Work
asking loop k = asked loop k (λ going. settled going k)

asking_is : (P : Program) (f : Function) (loop : WorkLoop) (k : List Work) → IsCondition P f loop.condition → settled Onward (Do loop.condition ∷ Turn loop ∷ k) ≡ asking loop k
asking_is P f loop k ok = opened_asked P f loop.condition ok (Turn loop ∷ k) (λ going. settled going (Turn loop ∷ k)) (λ going. settled going k)

-- a head with its label
module _ (l : LoopLabels) (old begun : Lowering) (opens : OpensLoop l old begun) where
  pub loop_shifts : Shifts old begun
  loop_shifts = record {
    grows = grows_both old opens.labelled begun opens.relabels.shifts.grows (begins_shifts l.head opens.labelled begun opens.begins).grows;
    site = (begins_shifts l.head opens.labelled begun opens.begins).site ∙ opens.relabels.shifts.site;
    typed = λ S w size good now.
        (begins_shifts l.head opens.labelled begun opens.begins).typed S w size (opens.relabels.shifts.grows.good size good) (opens.relabels.shifts.typed S w size good now);
  }

  module _ (W : Whole) (homes : List Home) (size n : ℕ) (k : List Work) (good : IsGood size old) where
    pub head_at : GoesOn W homes nothing_kept n begun k → AtLabel W homes n l.head k
    head_at g =
        begin_at W homes n k nothing_kept l.head opens.labelled begun (begun_idle l.head size opens.labelled begun (opens.relabels.shifts.grows.good size good) opens.begins) opens.begins g

    pub head_goes : IsIn W begun → ((j : ℕ) → j ≤ n → GoesOn W homes nothing_kept j begun k) → OnwardUpTo W homes n old k
    head_goes whole g on j le =
        goes_relabelled W homes nothing_kept j k old opens.labelled opens.relabels
        (begin_goes_on W homes j k nothing_kept l.head size opens.labelled begun (opens.relabels.shifts.grows.good size good) (opens.relabels.reached ∙ on) opens.begins whole
        (λ i below. g i (omega arith)))

-- a condition at the head
module _ (P : Program) (loop : WorkLoop) (l : LoopLabels) (old a : Lowering) (opens : OpensTurn P loop.condition l old a) where
  abbrev d : Statement
  d = loop.condition

  old_begun : Shifts old opens.begun
  old_begun = loop_shifts l old opens.begun opens.opens

  begun_decided : Grows opens.begun opens.decided
  begun_decided = opens.decides.grows

  decided_a : Shifts opens.decided a
  decided_a = binds_shifts l.body opens.decided a opens.binds

  old_decided_ : Grows old opens.decided
  old_decided_ = grows_both old opens.begun opens.decided old_begun.grows begun_decided

  pub turn_grows : Grows old a
  turn_grows = grows_both old opens.decided a old_decided_ decided_a.grows

  pub turn_site : a.site ≡ old.site
  turn_site = decided_a.site ∙ opens.decides.site ∙ old_begun.site

  pub turn_typed : (S : Typing) (w size : ℕ) → SuitsAskedTyping P S size d old → IsTypedNow S w old → IsTypedNow S (w + (inlined_weight S.program d + 1)) a
  turn_typed S w size suits now =
      decided_a.typed S (w + (inlined_weight S.program d + 1)) size (old_decided_.good size suits.good)
      (decided_typed P d None l.body l.leaving opens.begun opens.decided opens.decides S w size tt
      (asked_typing_part P S size d d old opens.begun old_begun.grows old_begun.site suits.resolved (λ g c. c) suits) (old_begun.typed S w size suits.good now))

  pub turn_leaves : is_used a.stages.used l.leaving ≡ true
  turn_leaves = decided_a.grows.used l.leaving (opens.decides.marks false)

  module _ (W : Whole) (homes : List Home) (size n : ℕ) (k : List Work) (suits : SuitsAsked P W homes size d old) (whole : IsIn W a)
      (leave : AtLabelUpTo W homes n l.leaving (settled Onward k))
      (body : (i : ℕ) → i ≤ n → AtLabelUpTo W homes i l.head (asking loop k) → OnwardUpTo W homes i a (settled Onward (Do loop.body ∷ Next loop ∷ k))) where
    whole_decided : IsIn W opens.decided
    whole_decided = decided_a.grows.whole W whole

    turns_at : (i : ℕ) → i ≤ n → GoesOn W homes nothing_kept i opens.begun (asking loop k)
    turns_at = from_below n (λ i. GoesOn W homes nothing_kept i opens.begun (asking loop k))
        (λ i le earlier.
        subst (GoesOn W homes nothing_kept i opens.begun) (asking_is W.setting.program W.setting.function loop k suits.resolved)
        (opens.decides.asks W homes size i (Turn loop ∷ k)
        (asked_part P W homes size d d old opens.begun old_begun.grows old_begun.site suits.resolved (λ g c. c) suits) tt whole_decided (λ truth. refl)
        (λ j lt truth. by j truth (omega arith) (λ m less. head_at l old opens.begun opens.opens W homes size m (asking loop k) suits.good (earlier m (omega arith))))))
      where
        by : (j : ℕ) (truth : Bool) → j ≤ n → AtLabelUpTo W homes j l.head (asking loop k) → AtLabel W homes j (side l.body l.leaving truth) (decided truth (Turn loop ∷ k))
        by j true le at =
            binds_at W homes j (settled Onward (Do loop.body ∷ Next loop ∷ k)) l.body size opens.decided a (old_decided_.good size suits.good) opens.binds whole (body j le at)
            (opens.decides.marks true) j (omega arith)
        by j false le at = leave j le

    pub turns_go : OnwardUpTo W homes n old (asking loop k)
    turns_go = head_goes l old opens.begun opens.opens W homes size n (asking loop k) suits.good (begun_decided.whole W whole_decided) turns_at

-- the end of a turn
module _ (l : LoopLabels) (old new : Lowering) (closes : ClosesTurn l old new) where
  pub close_shifts : Shifts old new
  close_shifts = record {
    grows = grows_both old closes.mid new (leaps_shifts l.head old closes.mid closes.leaps).grows (binds_shifts l.leaving closes.mid new closes.binds).grows;
    site = (binds_shifts l.leaving closes.mid new closes.binds).site ∙ (leaps_shifts l.head old closes.mid closes.leaps).site;
    typed = λ S w size good now.
        (binds_shifts l.leaving closes.mid new closes.binds).typed S w size ((leaps_shifts l.head old closes.mid closes.leaps).grows.good size good)
        ((leaps_shifts l.head old closes.mid closes.leaps).typed S w size good now);
  }

  module _ (W : Whole) (homes : List Home) (size n : ℕ) (k : List Work) (good : IsGood size old) (whole : IsIn W new) where
    pub close_leaves : OnwardUpTo W homes n new k → IfUsed W homes n old.stages.used l.leaving k
    close_leaves after used =
        binds_at W homes n k l.leaving size closes.mid new ((leaps_shifts l.head old closes.mid closes.leaps).grows.good size good) closes.binds whole after
        ((leaps_shifts l.head old closes.mid closes.leaps).grows.used l.leaving used)

    pub close_turns : (i : ℕ) → AtLabelUpTo W homes i l.head k → OnwardUpTo W homes i old k
    close_turns i at =
        leaps_goes W homes i k l.head size old closes.mid good closes.leaps ((binds_shifts l.leaving closes.mid new closes.binds).grows.whole W whole) (λ used. at)

-- the numbers of printf calls say nothing of it
site_goes : (W : Whole) (homes : List Home) (n : ℕ) (k : List Work) (site : ℕ) (c : Lowering) → OnwardUpTo W homes n (at_site site c) k → OnwardUpTo W homes n c k
site_goes W homes n k site c g = λ on j le. let h = g on j le in record { fresh = h.fresh; busy = h.busy; here = h.here }

less_label : (W : Whole) (homes : List Home) (n i label : ℕ) (k : List Work) → i ≤ n → AtLabelUpTo W homes n label k → AtLabelUpTo W homes i label k
less_label W homes n i label k le at = λ j below. at j (omega arith)

-- ---- while

module _ (P : Program) (around : Option Loop) (d : Statement) (l : LoopLabels) (body : Statement) (old a b new : Lowering) (opens : OpensTurn P d l old a)
    (inner : Leads P (Some (while_labels l)) body a b)
    (closes : ClosesTurn l b new) where
  abbrev while_ : Statement
  while_ = Statement.While d body

  abbrev while_work : WorkLoop
  while_work = while_loop d body

  while_old_a : Grows old a
  while_old_a = turn_grows P while_work l old a opens

  while_old_b : Grows old b
  while_old_b = grows_both old a b while_old_a inner.grows

  while_sites : (Q : Program) → HasSites Q while_ old.site → HasSites Q body a.site
  while_sites Q sites =
      part_sites Q while_ body [] [] old.site a.site sites (sym (append-nil (formats_of body))) (let x = turn_site P while_work l old a opens in omega (arith, x))

  pub while_leads : Leads P around while_ old new
  while_leads = record {
    grows = grows_both old b new while_old_b (close_shifts l b new closes).grows;
    site = (let x = turn_site P while_work l old a opens in let y = inner.site in let z = (close_shifts l b new closes).site in omega (arith, x, y, z));
    typed = λ S w size suits now.
        let at_a = turn_typed P while_work l old a opens S w size
        (typing_asked P S size while_ d old old (grows_refl old) suits suits.resolved.0 (no_sites S.program while_ old.site old.site suits.sites refl)
        (Contains-append_left (calls_of d) (calls_of body))) now in
        let at_b = inner.typed S (w + (inlined_weight S.program d + 1)) size
        (typing_part P S size while_ body old a while_old_a suits resolved.in_loop (omega arith) suits.resolved.1 (while_sites S.program suits.sites)
        (Contains-append_right (calls_of d) (calls_of body))) at_a in
        now_more S (w + (inlined_weight S.program d + 1) + inlined_weight S.program body) (w + inlined_weight S.program while_) new (omega arith)
        ((close_shifts l b new closes).typed S (w + (inlined_weight S.program d + 1) + inlined_weight S.program body) size (while_old_b.good size suits.good) at_b);
    leads = λ W homes size n k suits whole out after.
        let good_b = while_old_b.good size suits.good in
        let whole_b = (close_shifts l b new closes).grows.whole W whole in
        let leaves = close_leaves l b new closes W homes size n (settled Onward k) good_b whole after in
        turns_go P while_work l old a opens W homes size n k
        (suits_asked P W homes size while_ d old old (grows_refl old) suits suits.resolved.0 (no_sites W.setting.program while_ old.site old.site suits.sites refl)
        (Contains-append_left (calls_of d) (calls_of body))) (inner.grows.whole W whole_b)
        (leaves (inner.grows.used l.leaving (turn_leaves P while_work l old a opens)))
        (λ i le at.
        inner.leads W homes size i (Next while_work ∷ k) (suits_part P W homes size while_ body old a while_old_a suits resolved.in_loop suits.resolved.1
        (while_sites W.setting.program suits.sites) (Contains-append_right (calls_of d) (calls_of body))) whole_b
        (λ used. less_label W homes n i l.leaving (settled Onward k) le (leaves used), λ used. at)
        (close_turns l b new closes W homes size i (asking while_work k) good_b whole i at));
  }

pub while_lowers : (P : Program) (around : Option Loop) (s : Statement) (d : Statement) (body : Statement) (l : LoopLabels) (old a b new : Lowering) → s ≡ Statement.While d body →
    OpensTurn P d l old a →
    Leads P (Some (while_labels l)) body a b → ClosesTurn l b new → Leads P around s old new
while_lowers P around s d body l old a b new is opens inner closes = rw is (while_leads P around d l body old a b new opens inner closes)

-- ---- do

abbrev turned : (d : Statement) (body : Statement) (k : List Work) → (going : Going) →
    in_loop going (asking (while_loop d body) k) (λ g. settled g k) ≡ settled going (Next (while_loop d body) ∷ k)
turned d body k Onward = refl
turned d body k Leaving = refl
turned d body k Turning = refl

settled_do : (d : Statement) (body : Statement) (k : List Work) → settled Onward (Do (Statement.DoWhile body d) ∷ k) ≡ settled Onward (Do body ∷ Next (while_loop d body) ∷ k)
settled_do d body k = λ e. opened body (Next (while_loop d body) ∷ k) (λ going. turned d body k going e)

module _ (P : Program) (d : Statement) (l : LoopLabels) (old new : Lowering) (asks : Asks P d l old new) where
  pub asks_grows : Grows old new
  asks_grows = by asks
    where
      by : Asks P d l old new → Grows old new
      by (inl p) = subst (Grows old) (sym p.same) (grows_refl old)
      by (inr p) = p.decides.grows

  pub asks_site : new.site ≡ old.site
  asks_site = by asks
    where
      by : Asks P d l old new → new.site ≡ old.site
      by (inl p) = ap (λ (z : Lowering). z.site) p.same
      by (inr p) = p.decides.site

  pub asks_typed : (S : Typing) (w size : ℕ) → SuitsAskedTyping P S size d old → IsTypedNow S w old → IsTypedNow S (w + (inlined_weight S.program d + 1)) new
  asks_typed S w size suits now = by asks
    where
      by : Asks P d l old new → IsTypedNow S (w + (inlined_weight S.program d + 1)) new
      by (inl p) = subst (IsTypedNow S (w + (inlined_weight S.program d + 1))) (sym p.same) (now_more S w (w + (inlined_weight S.program d + 1)) old (omega arith) now)
      by (inr p) = decided_typed P d None l.head l.leaving old new p.decides S w size tt suits now

  pub asks_go : (W : Whole) (homes : List Home) (size n : ℕ) (loop : WorkLoop) (k : List Work) → SuitsAsked P W homes size d old → IsIn W new →
      ((j : ℕ) → j < n → AtLabel W homes j l.head (settled Onward (Do loop.body ∷ Next loop ∷ k))) → IfUsed W homes n new.stages.used l.leaving (settled Onward k) →
      OnwardUpTo W homes n old (opened d (Turn loop ∷ k) (λ going. settled going k))
  asks_go W homes size n loop k suits whole turns leaves = by asks
    where
      by : Asks P d l old new → OnwardUpTo W homes n old (opened d (Turn loop ∷ k) (λ going. settled going k))
      by (inl p) = λ on. absurd (let off = p.off in cc)
      by (inr p) = λ on j le.
          subst (GoesOn W homes nothing_kept j old)
          (opened_asked W.setting.program W.setting.function d suits.resolved (Turn loop ∷ k) (λ going. settled going (Turn loop ∷ k)) (λ going. settled going k))
          (p.decides.asks W homes size j (Turn loop ∷ k) suits tt whole (λ truth. refl) (λ i lt truth. at i truth (omega arith)))
        where
          at : (i : ℕ) (truth : Bool) → i < n → AtLabel W homes i (side l.head l.leaving truth) (decided truth (Turn loop ∷ k))
          at i true lt = turns i lt
          at i false lt = leaves (p.decides.marks false) i (omega arith)

module _ (P : Program) (around : Option Loop) (d : Statement) (l : LoopLabels) (body : Statement) (old a b new : Lowering) (opens : OpensLoop l old a) (inner : Leads P (Some (labels_of l)) body a b)
    (closes : ClosesDo P d l b new) where
  abbrev do_ : Statement
  do_ = Statement.DoWhile body d

  abbrev do_work : WorkLoop
  do_work = while_loop d body

  do_old_a : Grows old a
  do_old_a = (loop_shifts l old a opens).grows

  do_old_b : Grows old b
  do_old_b = grows_both old a b do_old_a inner.grows

  b_turned : Shifts b closes.turned
  b_turned = binds_shifts l.turning b closes.turned closes.turns

  do_old_turned : Grows old closes.turned
  do_old_turned = grows_both old b closes.turned do_old_b b_turned.grows

  turned_asked : Grows closes.turned closes.asked
  turned_asked = asks_grows P d l closes.turned closes.asked closes.asks

  do_old_asked : Grows old closes.asked
  do_old_asked = grows_both old closes.turned closes.asked do_old_turned turned_asked

  asked_new : Shifts closes.asked new
  asked_new = binds_shifts l.leaving closes.asked new closes.binds

  do_sites : (P : Program) → HasSites P do_ old.site → HasSites P body a.site
  do_sites P sites =
      part_sites P do_ body [] [] old.site a.site sites (sym (append-nil (formats_of body))) (let x = (loop_shifts l old a opens).site in omega (arith, x))

  do_asked_sites : (Q : Program) → HasSites Q do_ old.site → HasSites Q Statement.Done closes.turned.site
  do_asked_sites Q sites =
      part_sites Q do_ Statement.Done (formats_of body) [] old.site closes.turned.site sites (sym (append-nil (formats_of body)))
      (let c = formats_length body in let x = (loop_shifts l old a opens).site in let y = inner.site in let z = b_turned.site in omega (arith, c, x, y, z))

  do_typed : (S : Typing) (w size : ℕ) → SuitsTyping P S size do_ old → IsTypedNow S w old → IsTypedNow S (w + inlined_weight S.program do_) new
  do_typed S w size suits now =
      let at_a = (loop_shifts l old a opens).typed S w size suits.good now in
      let at_b = inner.typed S w size (typing_part P S size do_ body old a do_old_a suits resolved.in_loop (omega arith) suits.resolved.0 (do_sites S.program suits.sites)
      (Contains-append_left (calls_of body) (calls_of d))) at_a in
      let at_turned = b_turned.typed S (w + inlined_weight S.program body) size (do_old_b.good size suits.good) at_b in
      let at_asked = asks_typed P d l closes.turned closes.asked closes.asks S (w + inlined_weight S.program body) size
      (typing_asked P S size do_ d old closes.turned do_old_turned suits suits.resolved.1 (do_asked_sites S.program suits.sites) (Contains-append_right (calls_of body) (calls_of d)))
      at_turned in
      now_more S (w + inlined_weight S.program body + (inlined_weight S.program d + 1)) (w + inlined_weight S.program do_) new (omega arith)
      (asked_new.typed S (w + inlined_weight S.program body + (inlined_weight S.program d + 1)) size (do_old_asked.good size suits.good) at_asked)

  module _ (W : Whole) (homes : List Home) (size n : ℕ) (k : List Work) (suits : Suits P W homes size do_ old) (whole : IsIn W new) (after : OnwardUpTo W homes n new (settled Onward k)) where
    abbrev top : List Work
    top = settled Onward (Do body ∷ Next do_work ∷ k)

    do_whole_asked : IsIn W closes.asked
    do_whole_asked = asked_new.grows.whole W whole

    do_whole_turned : IsIn W closes.turned
    do_whole_turned = turned_asked.whole W do_whole_asked

    do_whole_b : IsIn W b
    do_whole_b = b_turned.grows.whole W do_whole_turned

    do_leaves : IfUsed W homes n closes.asked.stages.used l.leaving (settled Onward k)
    do_leaves = binds_at W homes n (settled Onward k) l.leaving size closes.asked new (do_old_asked.good size suits.good) closes.binds whole after

    do_turns : (i : ℕ) → i ≤ n → GoesOn W homes nothing_kept i a top
    do_turns = from_below n (λ i. GoesOn W homes nothing_kept i a top)
        (λ i le earlier.
        let good_b = do_old_b.good size suits.good in
        let asks : OnwardUpTo W homes i closes.turned (asking do_work k) =
        asks_go P d l closes.turned closes.asked closes.asks W homes size i do_work k
        (suits_asked P W homes size do_ d old closes.turned do_old_turned suits suits.resolved.1 (do_asked_sites W.setting.program suits.sites) (Contains-append_right (calls_of body) (calls_of d)))
        do_whole_asked
        (λ j lt. head_at l old a opens W homes size j top suits.good (earlier j lt)) (λ used. less_label W homes n i l.leaving (settled Onward k) le (do_leaves used)) in
        inner.leads W homes size i (Next do_work ∷ k) (suits_part P W homes size do_ body old a do_old_a suits resolved.in_loop suits.resolved.0
        (do_sites W.setting.program suits.sites) (Contains-append_left (calls_of body) (calls_of d))) do_whole_b (
          λ used. less_label W homes n i l.leaving (settled Onward k) le (do_leaves (turned_asked.used l.leaving (b_turned.grows.used l.leaving used))),
          binds_at W homes i (asking do_work k) l.turning size b closes.turned good_b closes.turns do_whole_turned asks,
        )
        (binds_goes W homes i (asking do_work k) l.turning size b closes.turned good_b closes.turns do_whole_turned asks)
        (begun_reached l.head opens.labelled a opens.begins) i (omega arith))

    do_goes : OnwardUpTo W homes n old (settled Onward (Do do_ ∷ k))
    do_goes =
        subst (λ w. OnwardUpTo W homes n old w) (sym (settled_do d body k))
        (head_goes l old a opens W homes size n top suits.good (inner.grows.whole W do_whole_b) do_turns)

  pub do_leads : Leads P around do_ old new
  do_leads = record {
    grows = grows_both old closes.asked new do_old_asked asked_new.grows;
    site = (let x = (loop_shifts l old a opens).site in let y = inner.site in let z = b_turned.site in let u = asks_site P d l closes.turned closes.asked closes.asks in let v = asked_new.site in
        omega (arith, x, y, z, u, v));
    typed = do_typed;
    leads = λ W homes size n k suits whole out after. do_goes W homes size n k suits whole after;
  }

pub do_lowers : (P : Program) (around : Option Loop) (s : Statement) (d : Statement) (body : Statement) (l : LoopLabels) (old a b new : Lowering) → s ≡ Statement.DoWhile body d → OpensLoop l old a →
    Leads P (Some (labels_of l)) body a b → ClosesDo P d l b new → Leads P around s old new
do_lowers P around s d body l old a b new is opens inner closes = rw is (do_leads P around d l body old a b new opens inner closes)

-- ---- for

past : (P : Program) (f : Function) (loop : WorkLoop) (k : List Work) → IsCondition P f loop.condition → (going : Going) →
    in_order going (asking loop k) (λ g. settled g k) ≡ settled going (Do loop.condition ∷ Turn loop ∷ k)
past P f loop k ok Onward = sym (asking_is P f loop k ok)
past P f loop k ok Leaving = refl
past P f loop k ok Turning = refl

settled_for : (P : Program) (f : Function) (first d last body : Statement) (k : List Work) → IsCondition P f d →
    settled Onward (Do (Statement.For first d last body) ∷ k) ≡ settled Onward (Do first ∷ Do d ∷ Turn (for_loop d last body) ∷ k)
settled_for P f first d last body k ok = λ e. opened first (Do d ∷ Turn (for_loop d last body) ∷ k) (λ going. past P f (for_loop d last body) k ok going e)

settled_next : (P : Program) (f : Function) (d last body : Statement) (k : List Work) → IsCondition P f d →
    settled Onward (Next (for_loop d last body) ∷ k) ≡ settled Onward (Do last ∷ Do d ∷ Turn (for_loop d last body) ∷ k)
settled_next P f d last body k ok = λ e. opened last (Do d ∷ Turn (for_loop d last body) ∷ k) (λ going. past P f (for_loop d last body) k ok going e)

module _ (P : Program) (around : Option Loop) (first_ : Statement) (d last body : Statement) (l : LoopLabels) (old a0 a b c e new : Lowering) (last_site after_site : ℕ)
    (first : Leads P None first_ old a0) (last_is : last_site ≡ a0.site) (opens : OpensTurn P d l (at_site (a0.site + print_count last) a0) a) (inner : Leads P (Some (labels_of l)) body a b)
    (after_is : after_site ≡ b.site) (turns : Binds l.turning (at_site last_site b) c) (last_ : Leads P None last c e) (closes : ClosesTurn l (at_site after_site e) new) where
  abbrev for_ : Statement
  for_ = Statement.For first_ d last body

  abbrev for_work : WorkLoop
  for_work = for_loop d last body

  last_called : (g : ℕ) → Contains (calls_of last) g → Contains (calls_of for_) g
  last_called g c =
      Contains-append_right (calls_of first_) (calls_of d ++ (calls_of last ++ calls_of body)) g
      (Contains-append_right (calls_of d) (calls_of last ++ calls_of body) g (Contains-append_left (calls_of last) (calls_of body) g c))

  body_called : (g : ℕ) → Contains (calls_of body) g → Contains (calls_of for_) g
  body_called g c =
      Contains-append_right (calls_of first_) (calls_of d ++ (calls_of last ++ calls_of body)) g
      (Contains-append_right (calls_of d) (calls_of last ++ calls_of body) g (Contains-append_right (calls_of last) (calls_of body) g c))

  abbrev skipped : Lowering
  skipped = at_site (a0.site + print_count last) a0

  old_skipped : Grows old skipped
  old_skipped = grows_both old a0 skipped first.grows (site_grows (a0.site + print_count last) a0)

  for_old_a : Grows old a
  for_old_a = grows_both old skipped a old_skipped (turn_grows P for_work l skipped a opens)

  for_old_b : Grows old b
  for_old_b = grows_both old a b for_old_a inner.grows

  b_sited : Grows b (at_site last_site b)
  b_sited = site_grows last_site b

  for_old_sited : Grows old (at_site last_site b)
  for_old_sited = grows_both old b (at_site last_site b) for_old_b b_sited

  sited_c : Shifts (at_site last_site b) c
  sited_c = binds_shifts l.turning (at_site last_site b) c turns

  for_old_c : Grows old c
  for_old_c = grows_both old (at_site last_site b) c for_old_sited sited_c.grows

  for_old_e : Grows old e
  for_old_e = grows_both old c e for_old_c last_.grows

  e_sited : Grows e (at_site after_site e)
  e_sited = site_grows after_site e

  for_old_closing : Grows old (at_site after_site e)
  for_old_closing = grows_both old e (at_site after_site e) for_old_e e_sited

  closing_new : Shifts (at_site after_site e) new
  closing_new = close_shifts l (at_site after_site e) new closes

  body_site : a.site ≡ old.site + (print_count first_ + print_count last)
  body_site = let x = turn_site P for_work l skipped a opens in let y = first.site in omega (arith, x, y)

  for_first_sites : (P : Program) → HasSites P for_ old.site → HasSites P first_ old.site
  for_first_sites P sites = part_sites P for_ first_ [] (formats_of last ++ formats_of body) old.site old.site sites refl (omega arith)

  for_last_sites : (P : Program) → HasSites P for_ old.site → HasSites P last c.site
  for_last_sites P sites =
      part_sites P for_ last (formats_of first_) (formats_of body) old.site c.site sites refl
      (let x = formats_length first_ in let y = sited_c.site in let z = first.site in omega (arith, x, y, z, last_is))

  for_body_sites : (P : Program) → HasSites P for_ old.site → HasSites P body a.site
  for_body_sites P sites =
      part_sites P for_ body (formats_of first_ ++ formats_of last) [] old.site a.site sites
      (sym (append_assoc (formats_of first_) (formats_of last) (formats_of body ++ []) ∙ ap (λ z. formats_of first_ ++ (formats_of last ++ z)) (append-nil (formats_of body))))
      (let x = formats_length first_ in let y = formats_length last in let z = body_site in let u = length-append (formats_of first_) (formats_of last) in omega (arith, x, y, z, u))

  d_called : (g : ℕ) → Contains (calls_of d) g → Contains (calls_of for_) g
  d_called g c =
      Contains-append_right (calls_of first_) (calls_of d ++ (calls_of last ++ calls_of body)) g (Contains-append_left (calls_of d) (calls_of last ++ calls_of body) g c)

  for_asked_sites : (Q : Program) → HasSites Q for_ old.site → HasSites Q Statement.Done skipped.site
  for_asked_sites Q sites =
      part_sites Q for_ Statement.Done (formats_of first_ ++ formats_of last) (formats_of body) old.site skipped.site sites
      (sym (append_assoc (formats_of first_) (formats_of last) (formats_of body)))
      (let x = formats_length first_ in let y = formats_length last in let z = first.site in let u = length-append (formats_of first_) (formats_of last) in omega (arith, x, y, z, u))

  for_typed : (S : Typing) (w size : ℕ) → SuitsTyping P S size for_ old → IsTypedNow S w old → IsTypedNow S (w + inlined_weight S.program for_) new
  for_typed S w size suits now =
      let w1 = w + inlined_weight S.program first_ in
      let w2 = w1 + (inlined_weight S.program d + 1) in
      let w3 = w2 + inlined_weight S.program body in
      let w4 = w3 + inlined_weight S.program last in
      let at_a0 = first.typed S w size (typing_part P S size for_ first_ old old (grows_refl old) suits nowhere (omega arith) suits.resolved.0 (for_first_sites S.program suits.sites)
      (Contains-append_left (calls_of first_) (calls_of d ++ (calls_of last ++ calls_of body)))) now in
      let at_a = turn_typed P for_work l skipped a opens S w1 size
      (typing_asked P S size for_ d old skipped old_skipped suits suits.resolved.1 (for_asked_sites S.program suits.sites) d_called)
      (site_typed (a0.site + print_count last) a0 S w1 at_a0) in
      let at_b = inner.typed S w2 size (typing_part P S size for_ body old a for_old_a suits resolved.in_loop (omega arith) suits.resolved.3 (for_body_sites S.program suits.sites)
      body_called) at_a in
      let at_c = sited_c.typed S w3 size (for_old_sited.good size suits.good) (site_typed last_site b S w3 at_b) in
      let at_e = last_.typed S w3 size (typing_part P S size for_ last old c for_old_c suits nowhere (omega arith) suits.resolved.2 (for_last_sites S.program suits.sites)
      last_called) at_c in
      now_more S w4 (w + inlined_weight S.program for_) new (omega arith)
      (closing_new.typed S w4 size (for_old_closing.good size suits.good) (site_typed after_site e S w4 at_e))

  module _ (W : Whole) (homes : List Home) (size n : ℕ) (k : List Work) (suits : Suits P W homes size for_ old) (whole : IsIn W new) (after : OnwardUpTo W homes n new (settled Onward k)) where
    for_whole_e : IsIn W e
    for_whole_e = e_sited.whole W (closing_new.grows.whole W whole)

    for_whole_c : IsIn W c
    for_whole_c = last_.grows.whole W for_whole_e

    for_whole_b : IsIn W b
    for_whole_b = b_sited.whole W (sited_c.grows.whole W for_whole_c)

    for_leaves : IfUsed W homes n b.stages.used l.leaving (settled Onward k)
    for_leaves used =
        close_leaves l (at_site after_site e) new closes W homes size n (settled Onward k) (for_old_closing.good size suits.good) whole after
        (last_.grows.used l.leaving (sited_c.grows.used l.leaving used))

    -- the last part, and then the condition
    last_goes : (i : ℕ) → AtLabelUpTo W homes i l.head (asking for_work k) → OnwardUpTo W homes i c (settled Onward (Next for_work ∷ k))
    last_goes i at =
        subst (λ w. OnwardUpTo W homes i c w) (sym (settled_next W.setting.program W.setting.function d last body k suits.resolved.1))
        (last_.leads W homes size i (Do d ∷ Turn for_work ∷ k) (suits_part P W homes size for_ last old c for_old_c suits nowhere suits.resolved.2
        (for_last_sites W.setting.program suits.sites) last_called) for_whole_e tt
        (subst (OnwardUpTo W homes i e) (sym (asking_is W.setting.program W.setting.function for_work k suits.resolved.1))
        (site_goes W homes i (asking for_work k) after_site e
        (close_turns l (at_site after_site e) new closes W homes size i (asking for_work k) (for_old_closing.good size suits.good) whole i at))))

    body_goes : (i : ℕ) → i ≤ n → AtLabelUpTo W homes i l.head (asking for_work k) → OnwardUpTo W homes i a (settled Onward (Do body ∷ Next for_work ∷ k))
    body_goes i le at =
        let good_sited = for_old_sited.good size suits.good in
        inner.leads W homes size i (Next for_work ∷ k) (suits_part P W homes size for_ body old a for_old_a suits resolved.in_loop suits.resolved.3
        (for_body_sites W.setting.program suits.sites) body_called) for_whole_b (
          λ used. less_label W homes n i l.leaving (settled Onward k) le (for_leaves used),
          binds_at W homes i (settled Onward (Next for_work ∷ k)) l.turning size (at_site last_site b) c good_sited turns for_whole_c (last_goes i at),
        )
        (site_goes W homes i (settled Onward (Next for_work ∷ k)) last_site b
        (binds_goes W homes i (settled Onward (Next for_work ∷ k)) l.turning size (at_site last_site b) c good_sited turns for_whole_c (last_goes i at)))

    for_goes : OnwardUpTo W homes n old (settled Onward (Do for_ ∷ k))
    for_goes =
        let whole_a = inner.grows.whole W for_whole_b in
        subst (λ w. OnwardUpTo W homes n old w) (sym (settled_for W.setting.program W.setting.function first_ d last body k suits.resolved.1))
        (first.leads W homes size n (Do d ∷ Turn for_work ∷ k) (suits_part P W homes size for_ first_ old old (grows_refl old) suits nowhere suits.resolved.0
        (for_first_sites W.setting.program suits.sites) (Contains-append_left (calls_of first_) (calls_of d ++ (calls_of last ++ calls_of body))))
        ((site_grows (a0.site + print_count last) a0).whole W ((turn_grows P for_work l skipped a opens).whole W whole_a)) tt
        (subst (OnwardUpTo W homes n a0) (sym (asking_is W.setting.program W.setting.function for_work k suits.resolved.1))
        (site_goes W homes n (asking for_work k) (a0.site + print_count last) a0
        (turns_go P for_work l skipped a opens W homes size n k
        (suits_asked P W homes size for_ d old skipped old_skipped suits suits.resolved.1 (for_asked_sites W.setting.program suits.sites) d_called) whole_a
        (for_leaves (inner.grows.used l.leaving (turn_leaves P for_work l skipped a opens))) body_goes))))

  pub for_leads : Leads P around for_ old new
  for_leads = record {
    grows = grows_both old (at_site after_site e) new for_old_closing closing_new.grows;
    site = (let x = body_site in let y = inner.site in let z = closing_new.site in omega (arith, x, y, z, after_is));
    typed = for_typed;
    leads = λ W homes size n k suits whole out after. for_goes W homes size n k suits whole after;
  }

pub for_lowers : (P : Program) (around : Option Loop) (s first_ : Statement) (d last body : Statement) (l : LoopLabels) (old a0 a b c e new : Lowering) (last_site after_site : ℕ) →
    s ≡ Statement.For first_ d last body → Leads P None first_ old a0 → last_site ≡ a0.site → OpensTurn P d l (at_site (a0.site + print_count last) a0) a → Leads P (Some (labels_of l)) body a b →
    after_site ≡ b.site → Binds l.turning (at_site last_site b) c → Leads P None last c e → ClosesTurn l (at_site after_site e) new → Leads P around s old new
for_lowers P around s first_ d last body l old a0 a b c e new last_site after_site is first last_is opens inner after_is turns last_ closes =
    rw is (for_leads P around first_ d last body l old a0 a b c e new last_site after_site first last_is opens inner after_is turns last_ closes)

-- ---- lists of statements: the code of what is left of one is that of the whole

pub record IsVia (P : Program) (around : Option Loop) (whole left : Statement) (initial now : Lowering) : Type 0 where
  pub lowers : (new : Lowering) → Leads P around left now new → Leads P around whole initial new

pub via_all : (P : Program) (around : Option Loop) (s : Statement) (c : Lowering) → IsVia P around s s c c
via_all P around s c = record { lowers = λ new h. h }

pub via_more : (P : Program) (around : Option Loop) (whole left a b : Statement) (initial old mid : Lowering) → IsVia P around whole left initial old →
    left ≡ Statement.Sequence a b → Leads P around a old mid →
    IsVia P around whole b initial mid
via_more P around whole left a b initial old mid via is first = record {
  lowers = λ new second.
      via.lowers new
      (subst (λ z. Leads P around z old new) (sym is) (sequence_leads P around a b old mid new first second));
}

pub via_last : (P : Program) (around : Option Loop) (whole left : Statement) (initial old new : Lowering) → IsVia P around whole left initial old → Leads P around left old new →
    Leads P around whole initial new
via_last P around whole left initial old new via h = via.lowers new h
