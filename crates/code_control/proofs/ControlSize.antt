-- What the code of statements needs, where it is too large.
use Rattle.std.proofs.Common.{◌≡◌, ℕ, ◌+◌, ◌*◌, ◌≤◌, true, false, [], ◌++◌, length, None, Some, refl, sym, ap, ◌∙◌, subst, arith, append-nil, append_assoc, length-append}
use Rattle.std.specs.Prelude.{Option, Contains}
use Rattle.std.proofs.lemmas.List.Elements.{Contains-append_left, Contains-append_right}
use Rattle.c_program.specs.Tree.{Expression, Statement, Function, Program}
use Rattle.c_program.specs.Limits.{print_count}
use Rattle.c_program.specs.Calls.{calls_of}
use Rattle.c_program.specs.Weight.{expression_weight}
use Rattle.c_program.specs.Resolved.{IsCondition, Around, IsStatement, nowhere, within, in_loop}
use Rattle.thread_semantics.specs.Work.{Loop as WorkLoop, while_loop}
use Rattle.code_following.specs.Following.{formats_of, print_formats}
use Rattle.code_places.specs.declared.targets.Loop.{Loop}
use Rattle.code_control.specs.declared.branching.ChoiceLabels.{ChoiceLabels}
use Rattle.code_control.specs.declared.branching.LoopLabels.{LoopLabels}
use Rattle.code_blocks.specs.declared.fault.LoweringFault.{LoweringFault}
use Rattle.code_blocks.specs.declared.truths.Note.{Note}
use Rattle.code_blocks.specs.Truths.{opposite_note, HasSlot}
use Rattle.code_places.specs.declared.lowering.Lowering.{Lowering}
use Rattle.code_places.specs.Weighing.{inlined_weight}
use Rattle.code_storage.specs.Values.{most_values}
use Rattle.code_blocks.specs.Typing.{Typing, Fits}
use Rattle.code_storage.specs.Formats.{HasSites}
use Rattle.code_places.specs.Apart.{IsTypedNow, IsGood}
use Rattle.code_places.specs.Control.{with_label, Begins, Binds}
use Rattle.code_control.specs.Deciding.{SuitsAskedTyping, Decides, IsFullAsked}
use Rattle.code_places.specs.Doing.{Grows, Shifts, at_site, SuitsTyping, Leads}
use Rattle.code_control.specs.Branching.{OpensChoice, TurnsChoice, OpensLoop, OpensTurn}
use Rattle.code_blocks.specs.Room.{IsFull}
use Rattle.code_places.specs.Needing.{IsDeep, needed, IsFullFor}
use Rattle.code_blocks.proofs.Room.{full_more}
use Rattle.code_storage.proofs.Sites.{formats_length, part_sites}
use Rattle.code_places.proofs.CodeGrowth.{grows_refl, grows_both, site_grows, site_typed, label_relabels, begins_shifts, binds_shifts, leaps_shifts}
use Rattle.code_control.proofs.Decisions.{asked_typing_part, slot_opposite, decided_typed}
use Rattle.code_control.proofs.NestedStatements.{typing_part, typing_asked, no_sites, loop_shifts, turn_grows, turn_site, turn_typed}
use Rattle.code_control.proofs.BoundLabels.{labels_of}

-- Conditions.

module _ (P : Program) (depth : ℕ) where
  -- the place before the condition is another
  pub shifted_at : (d : Statement) (note : Option Note) (old mid : Lowering) (fault : LoweringFault) → Shifts old mid → IsFullAsked P depth d note mid fault → IsFullAsked P depth d note old fault
  shifted_at d note old mid fault shifts full = λ S w size slot suits deep now.
      full S w size slot (asked_typing_part P S size d d old mid shifts.grows shifts.site suits.resolved (λ g c. c) suits) deep (shifts.typed S w size suits.good now)

  pub opposite_at : (d inner : Statement) (note : Option Note) (c : Lowering) (fault : LoweringFault) → d ≡ Statement.Opposite inner → IsFullAsked P depth inner (opposite_note note) c fault → IsFullAsked P depth d note c fault
  opposite_at d inner note c fault is full = rw is (λ S w size slot suits deep now.
      full_more fault (needed S size (w + inlined_weight S.program inner)) (needed S size (w + (inlined_weight S.program inner + 1))) (omega arith)
      (full S w size (slot_opposite S.function note slot) (asked_typing_part P S size (Statement.Opposite inner) inner c c (grows_refl c) refl suits.resolved (λ g c. c) suits) deep now))

  -- the operand of a condition of one
  pub test_at : (d : Statement) (note : Option Note) (offset : ℕ) (e : Expression) (c : Lowering) (fault : LoweringFault) → d ≡ Statement.Test offset e →
      IsFull (length c.block.operations + c.block.steps + (3 * expression_weight e + 4)) fault → IsFullAsked P depth d note c fault
  test_at d note offset e c fault is full = rw is (λ S w size slot suits deep now.
      let operations = now.size in
      let steps = now.steps in
      full_more fault (length c.block.operations + c.block.steps + (3 * expression_weight e + 4)) (needed S size (w + expression_weight e)) (let few = now.idle in omega (arith, operations, steps, few)) full)

  labelled : (old a : Lowering) → a ≡ with_label old → Shifts old a
  labelled old a label = subst (Shifts old) (sym label) (label_relabels old).shifts

  -- the first operand of a condition of two
  module _ (e c d : Statement) (note : Option Note) (old a : Lowering) (fault : LoweringFault) (weighs : (Q : Program) → inlined_weight Q e ≡ inlined_weight Q c + inlined_weight Q d + 1)
      (parts : (Q : Program) (f : Function) → IsCondition Q f e → IsCondition Q f c × IsCondition Q f d) (called : calls_of e ≡ calls_of c ++ calls_of d) (label : a ≡ with_label old) where
    pub first_at : IsFullAsked P depth c note a fault → IsFullAsked P depth e note old fault
    first_at full = λ S w size slot suits deep now.
        let to_a = labelled old a label in
        full_more fault (needed S size (w + inlined_weight S.program c)) (needed S size (w + inlined_weight S.program e)) (let sum = weighs S.program in omega (arith, sum))
        (full S w size slot
        (asked_typing_part P S size e c old a to_a.grows to_a.site (parts S.program S.function suits.resolved).0
        (λ g h. subst (λ l. Contains l g) (sym called) (Contains-append_left (calls_of c) (calls_of d) g h)) suits)
        deep (to_a.typed S w size suits.good now))

    -- the second, behind the first
    pub second_at : (next x y : ℕ) (m b : Lowering) → Decides P c note x y a m → Begins next m b → IsFullAsked P depth d note b fault → IsFullAsked P depth e note old fault
    second_at next x y m b first begins full = λ S w size slot suits deep now.
        let to_a = labelled old a label in
        let to_b = begins_shifts next m b begins in
        let good_a = to_a.grows.good size suits.good in
        let ok = parts S.program S.function suits.resolved in
        let now_m = decided_typed P c note x y a m first S w size slot
        (asked_typing_part P S size e c old a to_a.grows to_a.site ok.0 (λ g h. subst (λ l. Contains l g) (sym called) (Contains-append_left (calls_of c) (calls_of d) g h)) suits)
        (to_a.typed S w size suits.good now) in
        let v = w + (inlined_weight S.program c + 1) in
        full_more fault (needed S size (v + inlined_weight S.program d)) (needed S size (w + inlined_weight S.program e)) (let sum = weighs S.program in omega (arith, sum))
        (full S v size slot
        (asked_typing_part P S size e d old b (grows_both old m b (grows_both old a m to_a.grows first.grows) to_b.grows) (to_b.site ∙ first.site ∙ to_a.site) ok.1
        (λ g h. subst (λ l. Contains l g) (sym called) (Contains-append_right (calls_of c) (calls_of d) g h)) suits)
        deep (to_b.typed S v size (first.grows.good size good_a) now_m))

  -- the parts of loops

  pub turn_at : (d : Statement) (note : Option Note) (l : LoopLabels) (old begun : Lowering) (fault : LoweringFault) → OpensLoop l old begun → IsFullAsked P depth d note begun fault → IsFullAsked P depth d note old fault
  turn_at d note l old begun fault opens full = shifted_at d note old begun fault (loop_shifts l old begun opens) full

  pub bound_at : (d : Statement) (note : Option Note) (label : ℕ) (old turned : Lowering) (fault : LoweringFault) → Binds label old turned → IsFullAsked P depth d note turned fault → IsFullAsked P depth d note old fault
  bound_at d note label old turned fault binds full = shifted_at d note old turned fault (binds_shifts label old turned binds) full

-- Statements that have no others in them.

-- a statement's printf calls are among those of the program
pub sites_within : (P : Program) (s : Statement) (site : ℕ) → HasSites P s site → site + print_count s ≤ length (print_formats P)
sites_within P s site sites =
    let all = ap length sites.all ∙ length-append sites.before (formats_of s ++ sites.after) in
    let rest = length-append (formats_of s) sites.after in
    let own = formats_length s in
    let number = sites.number in
    omega (arith, all, rest, own, number)

module _ (P : Program) (depth : ℕ) where
  pub full_is : (s t : Statement) (c : Lowering) (fault : LoweringFault) → t ≡ s → IsFullFor P depth s c fault → IsFullFor P depth t c fault
  full_is s t c fault is full = subst (λ z. IsFullFor P depth z c fault) (sym is) full

  -- what is left out
  pub skipped_for : (s : Statement) (c : Lowering) (n : ℕ) (fault : LoweringFault) → n ≤ c.site + print_count s → IsFull n fault → IsFullFor P depth s c fault
  skipped_for s c n fault le full = λ S w size suits deep now.
      let p = sites_within S.program s c.site suits.sites in
      full_more fault n (needed S size (w + inlined_weight S.program s)) (omega (arith, le, p)) full

  -- Statements with others in them.

  -- a part of a statement, behind code that weighs so much
  module _ (s t : Statement) (old c : Lowering) (fault : LoweringFault) (full : IsFullFor P depth t c fault) (grows : Grows old c) (S : Typing) (w v size : ℕ) (suits : SuitsTyping P S size s old)
      (deep : IsDeep S.program S.function depth) where
    part_for : (around : Around) → ((g : ℕ) → Contains (calls_of t) g → Contains (calls_of s) g) → most_values t ≤ most_values s →
        IsStatement S.program S.function around t → HasSites S.program t c.site → IsTypedNow S v c →
        v + inlined_weight S.program t ≤ w + inlined_weight S.program s → IsFull (needed S size (w + inlined_weight S.program s)) fault
    part_for around calls most resolved sites now le =
        full_more fault (needed S size (v + inlined_weight S.program t)) (needed S size (w + inlined_weight S.program s)) (omega (arith, le))
        (full S v size (typing_part P S size s t old c grows suits around most resolved sites calls) deep now)

  -- a condition in a statement
  condition_for : (s d : Statement) (c : Lowering) (fault : LoweringFault) → IsFullAsked P depth d None c fault → (S : Typing) (w v size : ℕ) → SuitsAskedTyping P S size d c →
      IsDeep S.program S.function depth → IsTypedNow S v c → v + inlined_weight S.program d + 1 ≤ w + inlined_weight S.program s → IsFull (needed S size (w + inlined_weight S.program s)) fault
  condition_for s d c fault full S w v size suits deep now le =
      full_more fault (needed S size (v + inlined_weight S.program d)) (needed S size (w + inlined_weight S.program s)) (omega (arith, le)) (full S v size tt suits deep now)

  pub sequence_first : (a b : Statement) (old : Lowering) (fault : LoweringFault) → IsFullFor P depth a old fault → IsFullFor P depth (Statement.Sequence a b) old fault
  sequence_first a b old fault full = λ S w size suits deep now.
      part_for (Statement.Sequence a b) a old old fault full (grows_refl old) S w w size suits deep suits.around
      (Contains-append_left (calls_of a) (calls_of b)) (omega arith) suits.resolved.0
      (part_sites S.program (Statement.Sequence a b) a [] (formats_of b) old.site old.site suits.sites refl (omega arith)) now (omega arith)

  pub sequence_rest : (around : Option Loop) (a b : Statement) (old mid : Lowering) (fault : LoweringFault) → Leads P around a old mid → IsFullFor P depth b mid fault →
      IsFullFor P depth (Statement.Sequence a b) old fault
  sequence_rest around a b old mid fault first full = λ S w size suits deep now.
      let before = typing_part P S size (Statement.Sequence a b) a old old (grows_refl old) suits suits.around (omega arith) suits.resolved.0
      (part_sites S.program (Statement.Sequence a b) a [] (formats_of b) old.site old.site suits.sites refl (omega arith)) (Contains-append_left (calls_of a) (calls_of b)) in
      part_for (Statement.Sequence a b) b old mid fault full first.grows S w (w + inlined_weight S.program a) size suits deep suits.around
      (Contains-append_right (calls_of a) (calls_of b)) (omega arith) suits.resolved.1
      (part_sites S.program (Statement.Sequence a b) b (formats_of a) [] old.site mid.site suits.sites (ap (λ l. formats_of a ++ l) (sym (append-nil (formats_of b))))
      (let l = formats_length a in let e = first.site in omega (arith, l, e)))
      (first.typed S w size before now) (omega arith)

  pub block_for : (s body : Statement) (old : Lowering) (fault : LoweringFault) → s ≡ Statement.Block body → IsFullFor P depth body old fault → IsFullFor P depth s old fault
  block_for s body old fault is full = rw is (λ S w size suits deep now.
      part_for (Statement.Block body) body old old fault full (grows_refl old) S w w size suits deep (within suits.around) (λ g c. c) (omega arith) suits.resolved
      (part_sites S.program (Statement.Block body) body [] [] old.site old.site suits.sites (sym (append-nil (formats_of body))) (omega arith)) now (omega arith))

  -- an if

  pub choice_condition : (s : Statement) (d : Statement) (one other : Statement) (old : Lowering) (fault : LoweringFault) → s ≡ Statement.If d one other → IsFullAsked P depth d None old fault →
      IsFullFor P depth s old fault
  choice_condition s d one other old fault is full = rw is (λ S w size suits deep now.
      condition_for (Statement.If d one other) d old fault full S w w size
      (typing_asked P S size (Statement.If d one other) d old old (grows_refl old) suits suits.resolved.0 (no_sites S.program (Statement.If d one other) old.site old.site suits.sites refl)
      (Contains-append_left (calls_of d) (calls_of one ++ calls_of other))) deep now (omega arith))

  module _ (around : Option Loop) (d : Statement) (l : ChoiceLabels) (one other : Statement) (old a : Lowering) (opens : OpensChoice P d l old a) where
    abbrev choice : Statement
    choice = Statement.If d one other

    one_called : (g : ℕ) → Contains (calls_of one) g → Contains (calls_of choice) g
    one_called g c = Contains-append_right (calls_of d) (calls_of one ++ calls_of other) g (Contains-append_left (calls_of one) (calls_of other) g c)

    other_called : (g : ℕ) → Contains (calls_of other) g → Contains (calls_of choice) g
    other_called g c = Contains-append_right (calls_of d) (calls_of one ++ calls_of other) g (Contains-append_right (calls_of one) (calls_of other) g c)

    to_decided : Grows opens.labelled opens.decided
    to_decided = opens.decides.grows

    decided_a : Shifts opens.decided a
    decided_a = binds_shifts l.if_true opens.decided a opens.binds

    old_decided : Grows old opens.decided
    old_decided = grows_both old opens.labelled opens.decided opens.relabels.shifts.grows to_decided

    old_a : Grows old a
    old_a = grows_both old opens.decided a old_decided decided_a.grows

    a_site : a.site ≡ old.site
    a_site = decided_a.site ∙ opens.decides.site ∙ opens.relabels.shifts.site

    one_sites : (Q : Program) → HasSites Q choice old.site → HasSites Q one a.site
    one_sites Q sites = part_sites Q choice one [] (formats_of other) old.site a.site sites refl (let x = a_site in omega (arith, x))

    at_a : (S : Typing) (w size : ℕ) → SuitsTyping P S size choice old → IsTypedNow S w old → IsTypedNow S (w + (inlined_weight S.program d + 1)) a
    at_a S w size suits now =
        let good = opens.relabels.shifts.grows.good size suits.good in
        decided_a.typed S (w + (inlined_weight S.program d + 1)) size (to_decided.good size good)
        (decided_typed P d None l.if_true l.if_false opens.labelled opens.decided opens.decides S w size tt
        (typing_asked P S size choice d old opens.labelled opens.relabels.shifts.grows suits suits.resolved.0
        (no_sites S.program choice old.site opens.labelled.site suits.sites opens.relabels.shifts.site) (Contains-append_left (calls_of d) (calls_of one ++ calls_of other)))
        (opens.relabels.shifts.typed S w size suits.good now))

    pub choice_one : (fault : LoweringFault) → IsFullFor P depth one a fault → IsFullFor P depth choice old fault
    choice_one fault full = λ S w size suits deep now.
        part_for choice one old a fault full old_a S w (w + (inlined_weight S.program d + 1)) size suits deep (within suits.around)
        one_called (omega arith) suits.resolved.1
        (one_sites S.program suits.sites) (at_a S w size suits now) (omega arith)

    module _ (b e : Lowering) (first : Leads P around one a b) (turns : TurnsChoice l b e) where
      to_mid : Shifts b turns.mid
      to_mid = leaps_shifts l.join b turns.mid turns.leaps

      to_e : Shifts turns.mid e
      to_e = binds_shifts l.if_false turns.mid e turns.binds

      pub choice_other : (fault : LoweringFault) → IsFullFor P depth other e fault → IsFullFor P depth choice old fault
      choice_other fault full = λ S w size suits deep now.
          let v = w + (inlined_weight S.program d + 1) in
          let at_b = first.typed S v size (typing_part P S size choice one old a old_a suits (within suits.around) (omega arith) suits.resolved.1 (one_sites S.program suits.sites)
          one_called) (at_a S w size suits now) in
          let old_b = grows_both old a b old_a first.grows in
          let good_b = old_b.good size suits.good in
          let at_e = to_e.typed S (v + inlined_weight S.program one) size (to_mid.grows.good size good_b) (to_mid.typed S (v + inlined_weight S.program one) size good_b at_b) in
          part_for choice other old e fault full (grows_both old turns.mid e (grows_both old b turns.mid old_b to_mid.grows) to_e.grows) S w
          (v + inlined_weight S.program one) size suits deep (within suits.around)
          other_called (omega arith) suits.resolved.2
          (part_sites S.program choice other (formats_of one) [] old.site e.site suits.sites (ap (λ z. formats_of one ++ z) (sym (append-nil (formats_of other))))
          (let c = formats_length one in let x = a_site in let y = first.site in let z = to_e.site ∙ to_mid.site in omega (arith, c, x, y, z)))
          at_e (omega arith)

  pub one_for : (around : Option Loop) (s : Statement) (d : Statement) (one other : Statement) (l : ChoiceLabels) (old a : Lowering) (fault : LoweringFault) → s ≡ Statement.If d one other →
      OpensChoice P d l old a → IsFullFor P depth one a fault → IsFullFor P depth s old fault
  one_for around s d one other l old a fault is opens full = rw is (choice_one around d l one other old a opens fault full)

  pub other_for : (around : Option Loop) (s : Statement) (d : Statement) (one other : Statement) (l : ChoiceLabels) (old a b e : Lowering) (fault : LoweringFault) → s ≡ Statement.If d one other →
      OpensChoice P d l old a → Leads P around one a b → TurnsChoice l b e → IsFullFor P depth other e fault → IsFullFor P depth s old fault
  other_for around s d one other l old a b e fault is opens lowers turns full = rw is (choice_other around d l one other old a opens b e lowers turns fault full)

  -- while

  pub while_condition : (s : Statement) (d : Statement) (body : Statement) (old : Lowering) (fault : LoweringFault) → s ≡ Statement.While d body → IsFullAsked P depth d None old fault →
      IsFullFor P depth s old fault
  while_condition s d body old fault is full = rw is (λ S w size suits deep now.
      condition_for (Statement.While d body) d old fault full S w w size
      (typing_asked P S size (Statement.While d body) d old old (grows_refl old) suits suits.resolved.0 (no_sites S.program (Statement.While d body) old.site old.site suits.sites refl)
      (Contains-append_left (calls_of d) (calls_of body))) deep now (omega arith))

  pub while_body : (s : Statement) (d : Statement) (body : Statement) (l : LoopLabels) (old a : Lowering) (fault : LoweringFault) → s ≡ Statement.While d body → OpensTurn P d l old a →
      IsFullFor P depth body a fault → IsFullFor P depth s old fault
  while_body s d body l old a fault is opens full = rw is (λ S w size suits deep now.
      let loop = while_loop d body in
      let now_a = turn_typed P loop l old a opens S w size
      (typing_asked P S size (Statement.While d body) d old old (grows_refl old) suits suits.resolved.0 (no_sites S.program (Statement.While d body) old.site old.site suits.sites refl)
      (Contains-append_left (calls_of d) (calls_of body))) now in
      part_for (Statement.While d body) body old a fault full (turn_grows P loop l old a opens) S w (w + (inlined_weight S.program d + 1)) size suits deep in_loop
      (Contains-append_right (calls_of d) (calls_of body)) (omega arith) suits.resolved.1
      (part_sites S.program (Statement.While d body) body [] [] old.site a.site suits.sites (sym (append-nil (formats_of body)))
      (let x = turn_site P loop l old a opens in omega (arith, x)))
      now_a (omega arith))

  -- do

  module _ (d : Statement) (body : Statement) (l : LoopLabels) (old a : Lowering) (opens : OpensLoop l old a) where
    abbrev do_ : Statement
    do_ = Statement.DoWhile body d

    to_a : Shifts old a
    to_a = loop_shifts l old a opens

    do_sites : (Q : Program) → HasSites Q do_ old.site → HasSites Q body a.site
    do_sites Q sites = part_sites Q do_ body [] [] old.site a.site sites (sym (append-nil (formats_of body))) (let x = to_a.site in omega (arith, x))

    pub do_inner : (fault : LoweringFault) → IsFullFor P depth body a fault → IsFullFor P depth do_ old fault
    do_inner fault full = λ S w size suits deep now.
        part_for do_ body old a fault full to_a.grows S w w size suits deep in_loop (Contains-append_left (calls_of body) (calls_of d)) (omega arith) suits.resolved.0 (do_sites S.program suits.sites)
        (to_a.typed S w size suits.good now) (omega arith)

    pub do_asks : (b : Lowering) (fault : LoweringFault) → Leads P (Some (labels_of l)) body a b → IsFullAsked P depth d None b fault → IsFullFor P depth do_ old fault
    do_asks b fault inner full = λ S w size suits deep now.
        let now_b = inner.typed S w size (typing_part P S size do_ body old a to_a.grows suits in_loop (omega arith) suits.resolved.0 (do_sites S.program suits.sites)
        (Contains-append_left (calls_of body) (calls_of d)))
        (to_a.typed S w size suits.good now) in
        let old_b = grows_both old a b to_a.grows inner.grows in
        condition_for do_ d b fault full S w (w + inlined_weight S.program body) size
        (typing_asked P S size do_ d old b old_b suits suits.resolved.1
        (part_sites S.program do_ Statement.Done (formats_of body) [] old.site b.site suits.sites (sym (append-nil (formats_of body)))
        (let c = formats_length body in let x = to_a.site in let y = inner.site in omega (arith, c, x, y)))
        (Contains-append_right (calls_of body) (calls_of d))) deep now_b (omega arith)

  pub do_body : (s : Statement) (d : Statement) (body : Statement) (l : LoopLabels) (old a : Lowering) (fault : LoweringFault) → s ≡ Statement.DoWhile body d → OpensLoop l old a →
      IsFullFor P depth body a fault → IsFullFor P depth s old fault
  do_body s d body l old a fault is opens full = rw is (do_inner d body l old a opens fault full)

  pub do_condition : (s : Statement) (d : Statement) (body : Statement) (l : LoopLabels) (old a b : Lowering) (fault : LoweringFault) → s ≡ Statement.DoWhile body d → OpensLoop l old a →
      Leads P (Some (labels_of l)) body a b → IsFullAsked P depth d None b fault → IsFullFor P depth s old fault
  do_condition s d body l old a b fault is opens lowers full = rw is (do_asks d body l old a opens b fault lowers full)

  -- for

  module _ (first_ : Statement) (d : Statement) (last body : Statement) (old : Lowering) where
    abbrev for_ : Statement
    for_ = Statement.For first_ d last body

    last_called : (g : ℕ) → Contains (calls_of last) g → Contains (calls_of for_) g
    last_called g c =
        Contains-append_right (calls_of first_) (calls_of d ++ (calls_of last ++ calls_of body)) g
        (Contains-append_right (calls_of d) (calls_of last ++ calls_of body) g (Contains-append_left (calls_of last) (calls_of body) g c))

    body_called : (g : ℕ) → Contains (calls_of body) g → Contains (calls_of for_) g
    body_called g c =
        Contains-append_right (calls_of first_) (calls_of d ++ (calls_of last ++ calls_of body)) g
        (Contains-append_right (calls_of d) (calls_of last ++ calls_of body) g (Contains-append_right (calls_of last) (calls_of body) g c))

    first_sites : (Q : Program) → HasSites Q for_ old.site → HasSites Q first_ old.site
    first_sites Q sites = part_sites Q for_ first_ [] (formats_of last ++ formats_of body) old.site old.site sites refl (omega arith)

    pub for_begins : (fault : LoweringFault) → IsFullFor P depth first_ old fault → IsFullFor P depth for_ old fault
    for_begins fault full = λ S w size suits deep now.
        part_for for_ first_ old old fault full (grows_refl old) S w w size suits deep nowhere
        (Contains-append_left (calls_of first_) (calls_of d ++ (calls_of last ++ calls_of body))) (omega arith) suits.resolved.0 (first_sites S.program suits.sites) now (omega arith)

    module _ (a0 : Lowering) (first : Leads P None first_ old a0) where
      at_a0 : (S : Typing) (w size : ℕ) → SuitsTyping P S size for_ old → IsTypedNow S w old →
          IsTypedNow S (w + inlined_weight S.program first_) a0
      at_a0 S w size suits now =
          first.typed S w size (typing_part P S size for_ first_ old old (grows_refl old) suits nowhere (omega arith) suits.resolved.0
          (first_sites S.program suits.sites) (Contains-append_left (calls_of first_) (calls_of d ++ (calls_of last ++ calls_of body)))) now

      -- the number of the printfs behind it
      pub for_skips : (n : ℕ) (fault : LoweringFault) → n ≤ a0.site + print_count last → IsFull n fault → IsFullFor P depth for_ old fault
      for_skips n fault le full = λ S w size suits deep now.
          let p = sites_within S.program for_ old.site suits.sites in
          let e = first.site in
          full_more fault n (needed S size (w + inlined_weight S.program for_)) (omega (arith, p, e, le)) full

      abbrev sited : Lowering
      sited = at_site (a0.site + print_count last) a0

      old_sited : Grows old sited
      old_sited = grows_both old a0 sited first.grows (site_grows (a0.site + print_count last) a0)

      asked_here : (S : Typing) (size : ℕ) → SuitsTyping P S size for_ old → SuitsAskedTyping P S size d sited
      asked_here S size suits =
          typing_asked P S size for_ d old sited old_sited suits suits.resolved.1
          (part_sites S.program for_ Statement.Done (formats_of first_ ++ formats_of last) (formats_of body) old.site sited.site suits.sites
          (sym (append_assoc (formats_of first_) (formats_of last) (formats_of body)))
          (let x = formats_length first_ in let y = formats_length last in let z = first.site in let u = length-append (formats_of first_) (formats_of last) in omega (arith, x, y, z, u)))
          (λ g c. Contains-append_right (calls_of first_) (calls_of d ++ (calls_of last ++ calls_of body)) g (Contains-append_left (calls_of d) (calls_of last ++ calls_of body) g c))

      pub for_opens : (fault : LoweringFault) → IsFullAsked P depth d None sited fault → IsFullFor P depth for_ old fault
      for_opens fault full = λ S w size suits deep now.
          condition_for for_ d sited fault full S w (w + inlined_weight S.program first_) size (asked_here S size suits) deep
          (site_typed (a0.site + print_count last) a0 S (w + inlined_weight S.program first_) (at_a0 S w size suits now)) (omega arith)

      module _ (l : LoopLabels) (a : Lowering) (opens : OpensTurn P d l (at_site (a0.site + print_count last) a0) a) where
        abbrev loop : WorkLoop
        loop = while_loop d body

        abbrev skipped : Lowering
        skipped = at_site (a0.site + print_count last) a0

        old_skipped : Grows old skipped
        old_skipped = grows_both old a0 skipped first.grows (site_grows (a0.site + print_count last) a0)

        for_old_a : Grows old a
        for_old_a = grows_both old skipped a old_skipped (turn_grows P loop l skipped a opens)

        for_at_a : (S : Typing) (w size : ℕ) → SuitsTyping P S size for_ old → IsTypedNow S w old →
            IsTypedNow S (w + inlined_weight S.program first_ + (inlined_weight S.program d + 1)) a
        for_at_a S w size suits now =
            turn_typed P loop l skipped a opens S (w + inlined_weight S.program first_) size (asked_here S size suits)
            (site_typed (a0.site + print_count last) a0 S (w + inlined_weight S.program first_) (at_a0 S w size suits now))

        body_sites : (Q : Program) → HasSites Q for_ old.site → HasSites Q body a.site
        body_sites Q sites = part_sites Q for_ body (formats_of first_ ++ formats_of last) [] old.site a.site sites
            (sym (append_assoc (formats_of first_) (formats_of last) (formats_of body ++ []) ∙ ap (λ z. formats_of first_ ++ (formats_of last ++ z)) (append-nil (formats_of body))))
            (let x = formats_length first_ in let y = formats_length last in let z = turn_site P loop l skipped a opens in let f = first.site in
            let u = length-append (formats_of first_) (formats_of last) in omega (arith, x, y, z, f, u))

        pub for_goes : (fault : LoweringFault) → IsFullFor P depth body a fault → IsFullFor P depth for_ old fault
        for_goes fault full = λ S w size suits deep now.
            part_for for_ body old a fault full for_old_a S w (w + inlined_weight S.program first_ + (inlined_weight S.program d + 1)) size suits deep in_loop
            body_called (omega arith) suits.resolved.3
            (body_sites S.program suits.sites) (for_at_a S w size suits now) (omega arith)

        module _ (b c : Lowering) (inner : Leads P (Some (labels_of l)) body a b) (turns : Binds l.turning (at_site a0.site b) c) where
          sited_c : Shifts (at_site a0.site b) c
          sited_c = binds_shifts l.turning (at_site a0.site b) c turns

          pub for_turns : (fault : LoweringFault) → IsFullFor P depth last c fault → IsFullFor P depth for_ old fault
          for_turns fault full = λ S w size suits deep now.
              let v = w + inlined_weight S.program first_ + (inlined_weight S.program d + 1) in
              let now_b = inner.typed S v size (typing_part P S size for_ body old a for_old_a suits in_loop (omega arith) suits.resolved.3 (body_sites S.program suits.sites)
              body_called)
              (for_at_a S w size suits now) in
              let old_b = grows_both old a b for_old_a inner.grows in
              let old_sited = grows_both old b (at_site a0.site b) old_b (site_grows a0.site b) in
              let now_c = sited_c.typed S (v + inlined_weight S.program body) size (old_sited.good size suits.good) (site_typed a0.site b S (v + inlined_weight S.program body) now_b) in
              part_for for_ last old c fault full (grows_both old (at_site a0.site b) c old_sited sited_c.grows) S w (v + inlined_weight S.program body) size suits deep nowhere
              last_called (omega arith)
              suits.resolved.2
              (part_sites S.program for_ last (formats_of first_) (formats_of body) old.site c.site suits.sites refl
              (let x = formats_length first_ in let y = sited_c.site in let z = first.site in omega (arith, x, y, z)))
              now_c (omega arith)

  pub for_first : (s first_ : Statement) (d : Statement) (last body : Statement) (old : Lowering) (fault : LoweringFault) → s ≡ Statement.For first_ d last body → IsFullFor P depth first_ old fault →
      IsFullFor P depth s old fault
  for_first s first_ d last body old fault is full = rw is (for_begins first_ d last body old fault full)

  pub for_condition : (s first_ : Statement) (d : Statement) (last body : Statement) (old a0 : Lowering) (fault : LoweringFault) → s ≡ Statement.For first_ d last body →
      Leads P None first_ old a0 → IsFullAsked P depth d None (at_site (a0.site + print_count last) a0) fault → IsFullFor P depth s old fault
  for_condition s first_ d last body old a0 fault is first full = rw is (for_opens first_ d last body old a0 first fault full)

  pub for_skipped : (s first_ : Statement) (d : Statement) (last body : Statement) (old a0 : Lowering) (n : ℕ) (fault : LoweringFault) → s ≡ Statement.For first_ d last body →
      Leads P None first_ old a0 → n ≤ a0.site + print_count last → IsFull n fault → IsFullFor P depth s old fault
  for_skipped s first_ d last body old a0 n fault is first le full = rw is (for_skips first_ d last body old a0 first n fault le full)

  pub for_body : (s first_ : Statement) (d : Statement) (last body : Statement) (l : LoopLabels) (old a0 a : Lowering) (fault : LoweringFault) → s ≡ Statement.For first_ d last body →
      Leads P None first_ old a0 → OpensTurn P d l (at_site (a0.site + print_count last) a0) a → IsFullFor P depth body a fault → IsFullFor P depth s old fault
  for_body s first_ d last body l old a0 a fault is first opens full = rw is (for_goes first_ d last body old a0 first l a opens fault full)

  pub for_last : (s first_ : Statement) (d : Statement) (last body : Statement) (l : LoopLabels) (old a0 a b c : Lowering) (last_site : ℕ) (fault : LoweringFault) →
      s ≡ Statement.For first_ d last body → Leads P None first_ old a0 → OpensTurn P d l (at_site (a0.site + print_count last) a0) a → Leads P (Some (labels_of l)) body a b →
      last_site ≡ a0.site → Binds l.turning (at_site last_site b) c → IsFullFor P depth last c fault → IsFullFor P depth s old fault
  for_last s first_ d last body l old a0 a b c last_site fault is first opens inner site turns full =
      rw is (for_turns first_ d last body old a0 first l a opens b c inner (subst (λ n. Binds l.turning (at_site n b) c) site turns) fault full)

  -- lists of statements: what is left of one, behind the code of those before

  pub record IsBehind (whole left : Statement) (initial now : Lowering) : Type 0 where
    pub full : (fault : LoweringFault) → IsFullFor P depth left now fault → IsFullFor P depth whole initial fault

  pub behind_none : (s : Statement) (c : Lowering) → IsBehind s s c c
  behind_none s c = record { full = λ fault h. h }

  pub behind_more : (around : Option Loop) (whole left a b : Statement) (initial old mid : Lowering) → IsBehind whole left initial old → left ≡ Statement.Sequence a b → Leads P around a old mid →
      IsBehind whole b initial mid
  behind_more around whole left a b initial old mid behind is first = record {
    full = λ fault h. behind.full fault (full_is (Statement.Sequence a b) left old fault is (sequence_rest around a b old mid fault first h));
  }

  pub behind_first : (whole left a b : Statement) (initial old : Lowering) (fault : LoweringFault) → IsBehind whole left initial old → left ≡ Statement.Sequence a b → IsFullFor P depth a old fault →
      IsFullFor P depth whole initial fault
  behind_first whole left a b initial old fault behind is h = behind.full fault (full_is (Statement.Sequence a b) left old fault is (sequence_first a b old fault h))
