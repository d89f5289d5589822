-- The body of a switch, whose labels get their places.
use Rattle.std.proofs.Common.{◌≡◌, ℕ, suc, ◌+◌, ◌<◌, ◌≤◌, Bool, true, false, List, [], ◌∷◌, ◌++◌, length, ℤ, Option, Some, None, refl, sym, ap, ◌∙◌, subst, arith, append-nil, length-append}
use Rattle.std.proofs.lemmas.List.Elements.{Contains-append_left, Contains-append_right}
use Rattle.c_program.specs.Tree.{Statement, Program}
use Rattle.c_program.specs.Calls.{calls_of}
use Rattle.thread_semantics.specs.Work.{Work, Do, Onward, settled}
use Rattle.code_following.specs.Following.{formats_of}
use Rattle.code_blocks.specs.declared.fault.LoweringFault.{LoweringFault}
use Rattle.code_blocks.specs.Room.{IsFull}
use Rattle.code_blocks.specs.Typing.{Typing}
use Rattle.code_blocks.proofs.Room.{full_more}
use Rattle.code_storage.specs.Formats.{HasSites}
use Rattle.code_storage.proofs.Sites.{formats_length, part_sites}
use Rattle.code_places.specs.declared.targets.Loop.{Loop}
use Rattle.code_places.specs.declared.lowering.Lowering.{Lowering}
use Rattle.code_places.specs.Apart.{IsTypedNow}
use Rattle.code_places.specs.Control.{Binds}
use Rattle.code_places.specs.declared.stages.Stages.{Stages}
use Rattle.code_places.specs.Labels.{Advances}
use Rattle.code_places.specs.Doing.{OnwardUpTo, IfUsed, Proceeds, SuitsTyping, Leads}
use Rattle.code_places.specs.Needing.{needed, IsFullFor}
use Rattle.code_places.specs.Weighing.{inlined_weight}
use Rattle.code_places.proofs.CodeGrowth.{grows_refl, grows_both, binds_shifts, binds_at, binds_goes}
use Rattle.code_places.proofs.LabelSteps.{None_, advances_refl}
use Rattle.code_places.proofs.OpenLabels.{binds_advance}
use Rattle.code_places.proofs.TypedGrowth.{now_more}
use Rattle.code_control.proofs.NestedStatements.{suits_part, typing_part, settled_sequence, out_before, out_past}
use Rattle.ir_lower.specs.Switching.{labels_of, case_count, cases_weight, entries, Enter, Enters, LowersCases, IsFullCases}
use Rattle.ir_lower.proofs.SwitchLabels.{entries_length}

-- ---- weights

pub cases_weigh : (P : Program) (s : Statement) → cases_weight P s + length (labels_of s) ≡ inlined_weight P s
cases_weigh P (Statement.Sequence a b) =
    let x = cases_weigh P a in
    let y = cases_weigh P b in
    let l = length-append (labels_of a) (labels_of b) in
    omega (arith, x, y, l)
cases_weigh P (Statement.Label value operators) = refl
cases_weigh P s = omega arith

pub labels_sum : (s a b : Statement) → s ≡ Statement.Sequence a b → length (labels_of s) ≡ length (labels_of a) + length (labels_of b)
labels_sum s a b is = ap (λ z. length (labels_of z)) is ∙ length-append (labels_of a) (labels_of b)

pub cases_few : (labels : List (Option ℤ)) → case_count labels ≤ length labels
cases_few [] = omega arith
cases_few (None ∷ labels) = let h = cases_few labels in omega (arith, h)
cases_few (Some v ∷ labels) = let h = cases_few labels in omega (arith, h)

-- ---- lists of statements

enter_append : (At : ℕ → List Work → Type 0) (l : ℕ) (ws vs : List (List Work)) → Enter At l ws → Enter At (l + length ws) vs → Enter At l (ws ++ vs)
enter_append At l [] vs a b = subst (λ n. Enter At n vs) (let e : l + 0 ≡ l = omega arith in e) b
enter_append At l (w ∷ ws) vs a b =
    (a.0, enter_append At (suc l) ws vs a.1 (subst (λ n. Enter At n vs) (let e : l + suc (length ws) ≡ suc l + length ws = omega arith in e) b))

pub enter_more : (At To : ℕ → List Work → Type 0) → ((n : ℕ) (w : List Work) → At n w → To n w) → (l : ℕ) (ws : List (List Work)) → Enter At l ws → Enter To l ws
enter_more At To more l [] h = tt
enter_more At To more l (w ∷ ws) h = (more l (settled Onward w) h.0, enter_more At To more (suc l) ws h.1)

module _ (P : Program) (around : Option Loop) (a b : Statement) (l : ℕ) (old mid : Lowering) (first : Enters P around a l old mid) where
  abbrev pair : Statement
  pair = Statement.Sequence a b

  a_sites : (Q : Program) → HasSites Q pair old.site → HasSites Q a old.site
  a_sites Q sites = part_sites Q pair a [] (formats_of b) old.site old.site sites refl (omega arith)

  b_sites : (Q : Program) → HasSites Q pair old.site → HasSites Q b mid.site
  b_sites Q sites =
      part_sites Q pair b (formats_of a) [] old.site mid.site sites (ap (λ z. formats_of a ++ z) (sym (append-nil (formats_of b))))
      (let c = formats_length a in let e = first.site in omega (arith, c, e))

  suits_rest : (S : Typing) (size : ℕ) → SuitsTyping P S size pair old → SuitsTyping P S size b mid
  suits_rest S size suits =
      typing_part P S size pair b old mid first.grows suits suits.around (omega arith) suits.resolved.1 (b_sites S.program suits.sites) (Contains-append_right (calls_of a) (calls_of b))

  typed_first : (S : Typing) (w size : ℕ) → SuitsTyping P S size pair old → IsTypedNow S w old → IsTypedNow S (w + cases_weight S.program a) mid
  typed_first S w size suits now =
      first.typed S w size
      (typing_part P S size pair a old old (grows_refl old) suits suits.around (omega arith) suits.resolved.0 (a_sites S.program suits.sites) (Contains-append_left (calls_of a) (calls_of b))) now

  rest_for : (depth : ℕ) (fault : LoweringFault) → IsFullCases P depth b mid fault → IsFullCases P depth pair old fault
  rest_for depth fault full = λ S w size suits deep now.
      full_more fault (needed S size (w + cases_weight S.program a + cases_weight S.program b)) (needed S size (w + cases_weight S.program pair)) (omega arith)
      (full S (w + cases_weight S.program a) size (suits_rest S size suits) deep (typed_first S w size suits now))

  enters_both : (new : Lowering) → Enters P around b (l + length (labels_of a)) mid new → Enters P around pair l old new
  enters_both new second = record {
    grows = grows_both old mid new first.grows second.grows;
    site = (let x = first.site in let y = second.site in omega (arith, x, y));
    typed = λ S w size suits now.
        let k = second.typed S (w + cases_weight S.program a) size (suits_rest S size suits) (typed_first S w size suits now) in
        subst (λ v. IsTypedNow S v new) (let e : w + cases_weight S.program a + cases_weight S.program b ≡ w + (cases_weight S.program a + cases_weight S.program b) = omega arith in e) k;
    leads = λ W homes size n k suits whole out after.
        let late = second.leads W homes size n k
        (suits_part P W homes size pair b old mid first.grows suits suits.around suits.resolved.1 (b_sites W.setting.program suits.sites) (Contains-append_right (calls_of a) (calls_of b)))
        whole out after in
        let early = first.leads W homes size n (Do b ∷ k)
        (suits_part P W homes size pair a old old (grows_refl old) suits suits.around suits.resolved.0 (a_sites W.setting.program suits.sites) (Contains-append_left (calls_of a) (calls_of b)))
        (second.grows.whole W whole) (out_past W homes n mid.stages.used around b k (out_before W homes n mid new around k second.grows out)) late.0 in (
          subst (λ w. OnwardUpTo W homes n old w) (sym (settled_sequence a b k)) early.0,
          enter_append (IfUsed W homes n old.stages.used) l (entries a (Do b ∷ k)) (entries b k) early.1
              (subst (λ m. Enter (IfUsed W homes n old.stages.used) (l + m) (entries b k)) (sym (entries_length a (Do b ∷ k)))
              (enter_more (IfUsed W homes n mid.stages.used) (IfUsed W homes n old.stages.used) (λ m w h used. h (first.grows.used m used)) (l + length (labels_of a)) (entries b k) late.1)),
        );
  }

-- ---- a label

enters_label : (P : Program) (around : Option Loop) (s : Statement) (value : Option ℤ) (operators l : ℕ) (old new : Lowering) → s ≡ Statement.Label value operators → Binds l old new →
    Enters P around s l old new
enters_label P around s value operators l old new is binds = rw is record {
  grows = (binds_shifts l old new binds).grows;
  site = (let e = (binds_shifts l old new binds).site in omega (arith, e));
  typed = λ S w size suits now. now_more S w (w + operators) new (omega arith) ((binds_shifts l old new binds).typed S w size suits.good now);
  leads = λ W homes size n k suits whole out after. (
    binds_goes W homes n (settled Onward k) l size old new suits.good binds whole after,
    (binds_at W homes n (settled Onward k) l size old new suits.good binds whole after, tt),
  );
}

-- ---- another statement

-- it is no list and no label
abbrev pub is_single : Statement → Bool
is_single (Statement.Sequence first rest) = false
is_single (Statement.Label value operators) = false
is_single s = true

single_entries : (s : Statement) (k : List Work) → is_single s ≡ true → entries s k ≡ []
single_entries (Statement.Sequence a b) k is = absurd cc
single_entries (Statement.Label value operators) k is = absurd cc
single_entries s k is = refl

pub single_none : (s : Statement) → is_single s ≡ true → labels_of s ≡ []
single_none (Statement.Sequence a b) is = absurd cc
single_none (Statement.Label value operators) is = absurd cc
single_none s is = refl

pub single_labels : (s : Statement) → is_single s ≡ true → length (labels_of s) ≡ 0
single_labels s is = ap length (single_none s is)

single_weight : (P : Program) (s : Statement) → is_single s ≡ true → cases_weight P s ≡ inlined_weight P s
single_weight P (Statement.Sequence a b) is = absurd cc
single_weight P (Statement.Label value operators) is = absurd cc
single_weight P s is = refl

enters_single : (P : Program) (around : Option Loop) (s : Statement) (l : ℕ) (old new : Lowering) → is_single s ≡ true → Leads P around s old new → Enters P around s l old new
enters_single P around s l old new is lead = record {
  grows = lead.grows;
  site = lead.site;
  typed = λ S w size suits now. subst (λ m. IsTypedNow S (w + m) new) (sym (single_weight S.program s is)) (lead.typed S w size suits now);
  leads = λ W homes size n k suits whole out after. (
    lead.leads W homes size n k suits whole out after,
    subst (Enter (IfUsed W homes n old.stages.used) l) (sym (single_entries s k is)) tt,
  );
}

-- ---- places of labels

-- where what has a place gets none
pub advances_all : (Bound More All : ℕ → Type 0) (a b c : Stages) → ((label : ℕ) → Bound label → All label) → ((label : ℕ) → More label → All label) → Advances Bound a b → Advances More b c →
    Advances All a c
advances_all Bound More All a b c bound more h k = record {
  items = (let x = h.items in let y = k.items in omega (arith, x, y));
  open_ = λ label apart o. k.open_ label (λ m. apart (more label m)) (h.open_ label (λ m. apart (bound label m)) o);
  at = λ label stage o. k.at label stage (h.at label stage o);
  fit = λ f. k.fit (h.fit f);
  obeys = λ stage_of o. h.obeys stage_of (k.obeys stage_of o);
  busy = λ n o. k.busy n (h.busy n o);
  ahead = λ o. k.ahead (h.ahead o);
}

-- ---- what was added

pub both_lowers : (P : Program) (around : Option Loop) (s a b : Statement) (l next last : ℕ) (old mid new : Lowering) → s ≡ Statement.Sequence a b → LowersCases P around a l next old mid →
    LowersCases P around b next last mid new → LowersCases P around s l last old new
both_lowers P around s a b l next last old mid new is first second = rw is record {
  next_ = (let e = first.next_ in let f = second.next_ in let n = length-append (labels_of a) (labels_of b) in omega (arith, e, f, n));
  back = second.back ∙ first.back;
  advances = advances_all (λ label. (l ≤ label) × (label < next)) (λ label. (next ≤ label) × (label < last)) (λ label. (l ≤ label) × (label < last)) old.stages mid.stages new.stages
      (λ label m. (m.0, (let lt = m.1 in let f = second.next_ in omega (arith, lt, f)))) (λ label m. ((let le = m.0 in let e = first.next_ in omega (arith, le, e)), m.1)) first.advances second.advances;
  enters = enters_both P around a b l old mid first.enters new (subst (λ n. Enters P around b n mid new) first.next_ second.enters);
}

pub label_lowers : (P : Program) (around : Option Loop) (s : Statement) (value : Option ℤ) (operators l next : ℕ) (old new : Lowering) → s ≡ Statement.Label value operators → next ≡ suc l →
    Binds l old new → LowersCases P around s l next old new
label_lowers P around s value operators l next old new is number binds = record {
  next_ = (let n = ap (λ z. length (labels_of z)) is in omega (arith, n, number));
  back = (binds_shifts l old new binds).grows.back;
  advances = advances_all (λ label. label ≡ l) None_ (λ label. (l ≤ label) × (label < next)) old.stages new.stages new.stages
      (λ label m. (omega (arith, m), omega (arith, m, number))) (λ label m. absurd m) (binds_advance l old new binds) (advances_refl None_ new.stages);
  enters = enters_label P around s value operators l old new is binds;
}

pub single_lowers : (P : Program) (around : Option Loop) (s : Statement) (l : ℕ) (old new : Lowering) → is_single s ≡ true → Proceeds around old new → Leads P around s old new →
    LowersCases P around s l l old new
single_lowers P around s l old new is proceeds leads = record {
  next_ = (let n = single_labels s is in omega (arith, n));
  back = proceeds.back;
  advances = advances_all None_ None_ (λ label. (l ≤ label) × (label < l)) old.stages new.stages new.stages (λ label m. absurd m) (λ label m. absurd m) proceeds.advances
      (advances_refl None_ new.stages);
  enters = enters_single P around s l old new is leads;
}

-- ---- too large

pub first_cases_for : (P : Program) (depth : ℕ) (s a b : Statement) (old : Lowering) (fault : LoweringFault) → s ≡ Statement.Sequence a b → IsFullCases P depth a old fault →
    IsFullCases P depth s old fault
first_cases_for P depth s a b old fault is full = rw is (λ S w size suits deep now.
    full_more fault (needed S size (w + cases_weight S.program a)) (needed S size (w + cases_weight S.program (Statement.Sequence a b))) (omega arith)
    (full S w size
    (typing_part P S size (Statement.Sequence a b) a old old (grows_refl old) suits suits.around (omega arith) suits.resolved.0
    (part_sites S.program (Statement.Sequence a b) a [] (formats_of b) old.site old.site suits.sites refl (omega arith)) (Contains-append_left (calls_of a) (calls_of b)))
    deep now))

pub rest_cases_for : (P : Program) (around : Option Loop) (depth : ℕ) (s a b : Statement) (l next : ℕ) (old mid : Lowering) (fault : LoweringFault) → s ≡ Statement.Sequence a b →
    LowersCases P around a l next old mid → IsFullCases P depth b mid fault → IsFullCases P depth s old fault
rest_cases_for P around depth s a b l next old mid fault is first full = rw is (rest_for P around a b l old mid first.enters depth fault full)

pub single_cases_for : (P : Program) (depth : ℕ) (s : Statement) (old : Lowering) (fault : LoweringFault) → is_single s ≡ true → IsFullFor P depth s old fault → IsFullCases P depth s old fault
single_cases_for P depth s old fault is full = λ S w size suits deep now.
    subst (λ m. IsFull (needed S size (w + m)) fault) (sym (single_weight S.program s is)) (full S w size suits deep now)
