-- Conditions.
use Rattle.std.proofs.Common.{◌≡◌, ℕ, suc, ◌+◌, ◌<◌, Bool, true, false, not, List, [], ◌∷◌, ◌++◌, length, ℤ, Some, None, refl, sym, ap, ◌∙◌, subst}
use Rattle.std.proofs.Common.{inl, inr, arith, append-nil, zero, ◌*◌, ◌≤◌, pos, Option, ⊎_elim, length-append}
use Rattle.std.specs.Prelude.{if◌then◌else◌, slice_get, Contains, ◌⊎◌}
use Rattle.std.proofs.lemmas.Bool.{and_parts, and_from}
use Rattle.std.proofs.lemmas.List.Elements.{Contains-append_left, Contains-append_right}
use Rattle.std.proofs.lemmas.Option.{slice_get_within}
use Rattle.lists.proofs.Places.{get_front}
use Rattle.hls_ints.specs.Types.{long_int, wrapped}
use Rattle.hls_ints.specs.Residues.{bit_of}
use Rattle.hls_ints.specs.Operators.{is_zero}
use Rattle.c_program.specs.Tree.{Expression, Statement, Program, Function}
use Rattle.c_program.specs.Calls.{calls_of}
use Rattle.c_program.specs.Weight.{expression_weight}
use Rattle.c_program.specs.Resolved.{scalar, IsExpression, IsCut, IsCondition}
use Rattle.thread_semantics.specs.Memory.{Location, Memory, Evaluation, Gives, Fails}
use Rattle.thread_semantics.specs.Value.{value}
use Rattle.thread_semantics.specs.Work.{Work, Do, Going, Onward, in_order, opened, settled, decided, ThenOpposite, ThenBoth, ThenEither, Choose, Note as NoteWork}
use Rattle.thread_semantics.specs.State.{Frame}
use Rattle.thread_semantics.specs.Move.{operand_move, truth_in, work_move}
use Rattle.block_ir.specs.declared.operand.Operand.{Operand}
use Rattle.block_ir.specs.declared.block.Next.{Next}
use Rattle.block_ir.specs.declared.block.Next.TheVariants.{Branch}
use Rattle.block_ir.specs.declared.block.Block.{Block}
use Rattle.block_ir.specs.declared.code.Stage.TheVariants as stage
use Rattle.block_ir.specs.Run.{Running, operand_value, operations_run, leads_to, variables_after, stage_after}
use Rattle.code_following.specs.Following.{reads_of, AfterMove, Follows}
use Rattle.code_following.specs.Idle.{idle_count}
use Rattle.code_following.specs.Typed.{IsTypedOperand}
use Rattle.code_blocks.specs.declared.homes.Home.{Home}
use Rattle.code_blocks.specs.declared.open_block.OpenBlock.{OpenBlock}
use Rattle.code_blocks.specs.declared.truths.Note.{Note}
use Rattle.code_blocks.specs.Assigning.{HaveHomes}
use Rattle.code_blocks.specs.Closing.{HasNoted, IsFresh}
use Rattle.code_blocks.specs.Evaluating.{local_value, held_by}
use Rattle.code_blocks.specs.Truths.{opposite_note, turned_truth, noted_truth, IsNoted, HasSlot, HasElementIfAny, HasLooked, LooksAt}
use Rattle.code_blocks.specs.Typing.{Typing, Fits, IsTypedOpen}
use Rattle.code_blocks.proofs.OperationRuns.{same_function}
use Rattle.code_blocks.proofs.Puts.{homes_more}
use Rattle.code_storage.specs.Formats.{HasSites}
use Rattle.code_storage.specs.Housing.{AreHomes}
use Rattle.code_places.specs.declared.lowering.Lowering.{Lowering}
use Rattle.code_places.specs.Apart.{room, IsTypedNow, IsGood}
use Rattle.code_places.specs.Resuming.{HasShape, nothing_kept, AreHeld, CallersResume, IsMid, Comes, InBlock, IsSound}
use Rattle.code_places.specs.Labels.{IsHere, led_next, led, with_used, is_used, IsAt, IsBusy, IsOpen, Advances, IsFirst}
use Rattle.code_places.specs.Control.{marked, Begun, EndsAt, Begins, BeginsStage, Branches, Keeps, with_label, Whole, IsIn, AtLabel, GoesOn}
use Rattle.code_places.specs.Doing.{Grows, Shifts, OnwardUpTo, HasCome, Proceeds, Suits, SuitsTyping, Leads}
use Rattle.code_places.specs.Seats.{IsSeated, IsSeatedTyping}
use Rattle.code_places.specs.Weighing.{inlined_weight}
use Rattle.code_places.proofs.CodeGrowth.{grows_refl, grows_both, label_relabels, begins_shifts, begun_reached, stage_shifts, stage_idle, stage_reached, stage_goes}
use Rattle.code_places.proofs.HeadPlaces.{come_on}
use Rattle.code_places.proofs.KeptLocals.{seat_on, typed_seat_on, seat_kept}
use Rattle.code_places.proofs.LabelSteps.{None_, advances_both, advances_new, first_after, labels_more, marks, pushes_advance, pushed_busy, busy_takes, busy_may, pushed_here, pushed_is}
use Rattle.code_places.proofs.LabelTargets.{begin_at, begun_idle, after_held, after_local, whole_pushed, pushed_at, goes_of_in}
use Rattle.code_places.proofs.NewLabel.{label_keeps, goes_before_label}
use Rattle.code_places.proofs.OpenLabels.{marks_keep, is_marked, pushed_begun, label_begun, begins_advance, stage_advance, stage_begun}
use Rattle.code_places.proofs.OpenParts.{none_begun}
use Rattle.code_places.proofs.ResumedPlaces.{fresh_sound}
use Rattle.code_places.proofs.Shapes.{have_homes, row_at, lengths_with_element}
use Rattle.code_places.proofs.TypedGrowth.{anywhere_more, typed_but, now_more, ends_typed}
use Rattle.code_control.specs.Deciding.{is_asked, side, unmet, SuitsAsked, SuitsAskedTyping, Tests, Decides, IsStill, ComesThrough}

-- ---- the locals of a call whose condition keeps a truth

has_element : (f : Function) (locals : List (List (Option ℤ))) (note : Option Note) → HasShape f.locals locals → HasSlot f note → HasElementIfAny note locals
has_element f locals None shape slot = tt
has_element f locals (Some note) shape slot =
    let r = row_at f.locals locals note.slot (scalar long_int) shape slot in
    record { row = r.0; found = r.1; within = (let long = r.2 in omega (arith, long)) }

shape_noted : (f : Function) (locals : List (List (Option ℤ))) (note : Option Note) (truth : Bool) → HasShape f.locals locals → HasShape f.locals (truth_in (noted_truth note truth) locals)
shape_noted f locals None truth shape = shape
shape_noted f locals (Some note) truth shape =
    lengths_with_element locals note.slot 0 (Some (wrapped long_int (pos (bit_of (turned_truth note.turned truth))))) ∙ shape

-- a step that evaluates an operand of a condition, at the end of a block that leads to a label for each truth
module _ (P : Program) (W : Whole) (homes : List Home) (size n : ℕ) (note : Option Note) (e : Expression) (k : List Work) (keeps : IsNoted note k) (next : Next) (old mid new : Lowering)
    (b : OpenBlock) (test : Operand) (target : Bool → ℕ)
    (looks : LooksAt homes note e old.block b test) (block_is : mid.block ≡ record b { steps = suc b.steps }) (items_same : mid.stages.stages ≡ old.stages.stages)
    (here_same : (label : ℕ) → IsHere old.stages label → IsHere mid.stages label) (ends : EndsAt next mid new) (whole : IsIn W new)
    (seated : IsSeated P W homes size old) (locals : AreHomes W.setting.function.locals homes size) (slot : HasSlot W.setting.function note) (good : IsGood size old)
    (route : (variables : ℕ → ℤ) (values : List ℤ) → leads_to variables values (led_next W.stage_of next) ≡ W.stage_of (target (not (is_zero (operand_value variables values test)))))
    (at : (j : ℕ) → j < n → (variables : ℕ → ℤ) (values : List ℤ) →
    AtLabel W homes j (target (not (is_zero (operand_value variables values test)))) (decided (not (is_zero (operand_value variables values test))) k)) where
  noted_ : HasNoted mid.block
  noted_ = subst HasNoted (sym block_is) (looks.noted good.sound.noted)

  abbrev final : Block
  final = record ends.block { next = led_next W.stage_of ends.block.next }

  module _ (offset : ℕ) where
    abbrev work : List Work
    work = Do (Statement.Test offset e) ∷ k

    module _ (j : ℕ) (lt : j < n) (resume : CallersResume W.setting j) (variables : ℕ → ℤ) (r : Running) (f : Frame) (fs : List Frame) (globals : List (List ℤ))
        (mid_ : IsMid W.setting homes nothing_kept old.block variables r f fs globals) where
      abbrev seen : Memory
      seen = record { locals = f.locals; globals = globals }

      abbrev ran : Running
      ran = operations_run variables looks.operations r

      homed : HaveHomes homes (length old.block.current) f.locals
      homed =
          homes_more homes size (length old.block.current) f.locals (let long = good.sound.size in omega arith)
          (have_homes W.setting.function.locals homes size f.locals locals mid_.shape)

      module _ (v : ℤ) (ls : List Location) (gives_ : value e seen ≡ Gives v ls) where
        done : HasLooked homes note old.block.current b.current variables seen r ran test v ls
        done =
            looks.does variables r seen v ls good.sound.below mid_.values homed (has_element W.setting.function f.locals note mid_.shape slot) mid_.holds gives_

        abbrev truth_ : Bool
        truth_ = not (is_zero v)

        abbrev left : Frame
        left = record f { locals = truth_in (noted_truth note truth_) f.locals; work = decided truth_ k; kept = [] }

        busy : 0 < mid.block.steps
        busy = let t = ap (λ (z : OpenBlock). z.steps) block_is in omega (arith, t)

        held : held_by b.current variables ran.values ≡ variables_after final variables ran
        held =
            same_function (held_by b.current variables ran.values) (variables_after final variables ran)
            (λ x.
            ap (λ (z : OpenBlock). held_by z.current variables ran.values x) (sym block_is)
            ∙ ap (λ vs. vs x) (after_held W homes n (decided truth_ k) next mid new noted_ busy ends whole variables ran))

        lands : Follows W.setting.program W.setting.stages j (stage_after final variables ran) (variables_after final variables ran) ran.arrays (left ∷ fs)
        lands =
            subst (λ l. Follows W.setting.program W.setting.stages j l (variables_after final variables ran) ran.arrays (left ∷ fs))
            (sym (ap (λ (z : Next). leads_to variables ran.values (led_next W.stage_of z)) ends.closes.next_ ∙ route variables ran.values))
            (at j lt variables ran.values resume (variables_after final variables ran) ran.arrays left fs
            (ap (λ z. decided (not (is_zero z)) k) (sym done.gives))
            (record {
              number = mid_.number;
              shape = shape_noted W.setting.function f.locals note truth_ mid_.shape;
              locals = λ x i u q.
                  after_local W homes n (decided truth_ k) next mid new noted_ busy ends whole variables ran x i (slice_get homes x)
                  ∙ ap (λ (z : OpenBlock). local_value (slice_get homes x) z.current variables ran x i) block_is
                  ∙ done.holds.locals x i u q;
              kept = tt;
              callers = subst (λ vs. AreHeld W.setting.callers vs ran.arrays fs) held
                  (seat_kept P W homes size old (held_by old.block.current variables r.values) (held_by b.current variables ran.values) r.arrays ran.arrays fs seated (done.spares size) mid_.callers);
            }))

      decides : (E : Evaluation ℤ) → value e seen ≡ E →
          AfterMove (operand_move offset E f fs k) globals
          (λ after left_ more. Comes W.setting homes nothing_kept final j variables ran after (r.accesses ++ more))
      decides (Fails cause) q = tt
      decides (Gives v ls) q =
          subst (λ o. Comes W.setting homes nothing_kept final j variables ran
          (record f { locals = truth_in o f.locals; work = decided (not (is_zero v)) k; kept = [] } ∷ fs) (r.accesses ++ (reads_of ls ++ [])))
          (sym (keeps (not (is_zero v))))
          ((done v ls q).accesses ∙ ap (λ l. r.accesses ++ l) (sym (append-nil (reads_of ls))), lands v ls q)

    inside : InBlock W.setting homes nothing_kept n (length old.stages.stages.items) old.block work
    inside = record {
      block = final;
      at =
          ap (λ v. slice_get W.setting.stages (length v.items)) (sym items_same)
          ∙ pushed_at W.stage_of W.setting.stages mid.stages new.stages whole (stage.Run ends.block) ends.pushes;
      rest = looks.operations;
      operations = ends.closes.operations ∙ ap (λ (z : OpenBlock). z.operations) block_is ∙ looks.added;
      count = 1;
      steps = (let s = ends.closes.steps in let t = ap (λ (z : OpenBlock). z.steps) block_is in let u = looks.steps in omega (arith, s, t, u));
      goes = λ j lt resume variables r f fs globals is m.
          subst (λ w. AfterMove (work_move W.setting.program (record { locals = f.locals; globals = globals }) f fs w) globals
          (λ after left_ more. Comes W.setting homes nothing_kept final j variables (operations_run variables looks.operations r) after (r.accesses ++ more))) (sym is)
          (decides j lt resume variables r f fs globals m (value e (record { locals = f.locals; globals = globals })) refl);
    }

    pub asks : GoesOn W homes nothing_kept n old work
    asks = goes_of_in W homes nothing_kept size n old work good.sound inside
        (λ label among.
        pushed_here (stage.Run ends.block) mid.stages new.stages ends.pushes W.stage_of whole.obeys label (here_same label among) ∙ ap (λ v. length v.items) items_same)

-- a branch leads by whether the value is zero
branch_route : (stage_of : ℕ → ℕ) (nonzero otherwise : ℕ) (b : Bool) → (if b then stage_of otherwise else stage_of nonzero) ≡ stage_of (side nonzero otherwise (not b))
branch_route stage_of nonzero otherwise true = refl
branch_route stage_of nonzero otherwise false = refl

-- after a test the block at hand is fresh
test_fresh : (next : Next) (old mid new : Lowering) (note : Option Note) (e : Expression) (b : OpenBlock) (test : Operand) → LooksAt old.homes note e old.block b test →
    mid.block ≡ record b { steps = suc b.steps } → EndsAt next mid new → (size : ℕ) → IsSound size old.block → IsFresh (size + 4) new.block
test_fresh next old mid new note e b test looks block_is ends size sound =
    let noted_ : HasNoted mid.block = subst HasNoted (sym block_is) (looks.noted sound.noted) in
    subst (λ n. IsFresh n new.block) (ap (λ (z : OpenBlock). length z.current) block_is ∙ looks.size ∙ sound.size) (ends.left noted_)

module _ (note : Option Note) (e : Expression) (nonzero otherwise : ℕ) (old mid new : Lowering) (b : OpenBlock) (test : Operand) (looks : LooksAt old.homes note e old.block b test)
    (same : mid ≡ record old { block = record b { steps = suc b.steps } }) (branches : Branches test nonzero otherwise mid new) where
  abbrev both : Lowering
  both = marked otherwise (marked nonzero mid)

  abbrev ends : EndsAt (Branch test nonzero otherwise) both new
  ends = branches.ends

  block_is : both.block ≡ record b { steps = suc b.steps }
  block_is = ap (λ (z : Lowering). z.block) same

  items_are : both.stages.stages ≡ old.stages.stages
  items_are = ap (λ (z : Lowering). z.stages.stages) same

  stepped : 0 < ends.block.steps
  stepped = let s = ends.closes.steps in let t = ap (λ (z : OpenBlock). z.steps) block_is in omega (arith, s, t)

  to_both : Advances None_ old.stages both.stages
  to_both =
      subst (λ (z : Lowering). Advances None_ z.stages both.stages) same
      (advances_both None_ mid.stages (marked nonzero mid).stages both.stages (marks nonzero mid.stages (marked nonzero mid).stages refl)
      (marks otherwise (marked nonzero mid).stages both.stages refl))

  here_both : (label : ℕ) → IsHere old.stages label → IsHere both.stages label
  here_both label here = subst (λ (z : Lowering). IsHere z.stages label) (sym same) here

  test_keeps : Keeps old new
  test_keeps = record {
    homes = ap (λ (z : Lowering). z.homes) ends.same ∙ ap (λ (z : Lowering). z.homes) same;
    back = ap (λ (z : Lowering). z.back) ends.same ∙ ap (λ (z : Lowering). z.back) same;
    rooms = ap (λ (z : Lowering). z.rooms) ends.same ∙ ap (λ (z : Lowering). z.rooms) same;
    variables = ap (λ (z : Lowering). z.variables) ends.same ∙ ap (λ (z : Lowering). z.variables) same;
    arrays = ap (λ (z : Lowering). z.arrays) ends.same ∙ ap (λ (z : Lowering). z.arrays) same;
    objects = ap (λ (z : Lowering). z.objects) ends.same ∙ ap (λ (z : Lowering). z.objects) same;
    words = ap (λ (z : Lowering). z.act_operands) ends.same ∙ ap (λ (z : Lowering). z.act_operands) same;
    sound = λ size is sound. fresh_sound size new.block (test_fresh (Branch test nonzero otherwise) old both new note e b test looks block_is ends size sound);
    whole = λ W whole.
        let w = whole_pushed W.stage_of W.setting.stages both.stages new.stages whole (stage.Run ends.block) ends.pushes in
        record {
          part = record { more = w.part.more; is = w.part.is ∙ ap (λ v. led W.stage_of v.items ++ w.part.more) items_are };
          obeys = λ label number p bound came.
              w.obeys label number p (ap (λ (z : Lowering). slice_get z.stages.labels label) same ∙ bound) (ap (λ (z : Lowering). slice_get z.stages.places number) same ∙ came);
        };
    used = λ label is.
        ap (λ us. is_used us label) ends.pushes.used
        ∙ marks_keep (with_used mid.stages.used nonzero) otherwise label
        (marks_keep mid.stages.used nonzero label (ap (λ (z : Lowering). is_used z.stages.used label) same ∙ is));
  }

  -- in a block that begins there is room for 4 operations more
  test_typed : (offset : ℕ) (S : Typing) (w size : ℕ) → Fits S old.homes → HasSlot S.function note → IsExpression S.program S.function e → IsGood size old → IsTypedNow S w old →
      IsTypedNow S (w + (expression_weight e + unmet old.block.steps (Statement.Test offset e))) new
  test_typed offset S w size fits slot is good now =
      let h = looks.typed S fits slot is now.block in
      let v = w + (expression_weight e + unmet old.block.steps (Statement.Test offset e)) in
      let items = ap (λ z. z.items) items_are in
      let counted = ap idle_count items in
      let few = now.idle in
      let enough = enough_room old.block.steps refl in
      let open_ : IsTypedNow S v both = record {
        block = subst (IsTypedOpen S.types) (sym block_is) (record { operations = h.0.operations; few = h.0.few; current = h.0.current });
        idle = omega (arith, few, counted);
        size = (let c = looks.count in let t = ap (λ (z : OpenBlock). length z.operations) block_is in let f = now.size in omega (arith, few, counted, c, t, f, enough));
        steps = (let f = now.steps in let t = ap (λ (z : OpenBlock). z.steps) block_is in let u = looks.steps in omega (arith, few, f, t, u, enough));
        stages = λ l s e. anywhere_more S.types S.program (room w old) (room v both) (omega (arith, counted)) s (now.stages l s (ap (λ ss. slice_get ss l) (sym items) ∙ e));
      } in
      ends_typed S v (Branch test nonzero otherwise) both new (let t = ap (λ (z : OpenBlock). z.steps) block_is in omega (arith, t))
      (subst HasNoted (sym block_is) (looks.noted good.sound.noted)) ends
      (λ n stage_of below. (subst (λ (z : OpenBlock). IsTypedOperand S.types z.operations test) (sym block_is) h.1, below nonzero, below otherwise))
      (typed_but S v both open_)
    where
      -- the block has no operations yet and no steps, or there is one unit more
      enough_room : (steps : ℕ) → old.block.steps ≡ steps →
          ((length old.block.operations ≡ 0) × (old.block.steps ≡ 0)) ⊎ (unmet old.block.steps (Statement.Test offset e) ≡ 1)
      enough_room zero none = inl (ap length (good.sound.fresh none).operations, none)
      enough_room (suc steps) some = inr (ap (λ n. unmet n (Statement.Test offset e)) some)

  pub tests_branch : Tests e note nonzero otherwise old new
  tests_branch = record {
    keeps = test_keeps;
    site = ap (λ (z : Lowering). z.site) ends.same ∙ ap (λ (z : Lowering). z.site) same;
    advances = advances_both None_ old.stages both.stages new.stages to_both
        (pushes_advance (stage.Run ends.block) both.stages new.stages ends.pushes (busy_may ends.block both.stages stepped));
    first = pushed_begun (stage.Run ends.block) old both.stages new.stages to_both (ap (λ v. v.items) items_are) here_both ends.pushes;
    comes = λ label here.
        let count = ap (λ v. length v.items) items_are in
        record {
          at = subst (λ n. IsAt label n new.stages) count (pushed_is (stage.Run ends.block) both.stages new.stages ends.pushes label (here_both label here));
          busy = subst (λ n. IsBusy n new.stages) count (pushed_busy (stage.Run ends.block) both.stages new.stages ends.pushes (busy_takes ends.block stepped));
        };
    typed = test_typed;
    ends = ap (λ (z : Lowering). z.reached) ends.same;
    idle = λ size is sound. (test_fresh (Branch test nonzero otherwise) old both new note e b test looks block_is ends size sound).steps;
    marks = λ truth. ap (λ us. is_used us (side nonzero otherwise truth)) ends.pushes.used ∙ by truth;
    asks = λ P W homes size n k seated homes_are locals slot good whole keeps at.
        asks P W homes size n note e k keeps (Branch test nonzero otherwise) old both new b test (side nonzero otherwise)
        (subst (λ hs. LooksAt hs note e old.block b test) homes_are looks) block_is items_are here_both ends whole seated locals slot good
        (λ variables values. branch_route W.stage_of nonzero otherwise (is_zero (operand_value variables values test)))
        (λ j lt variables values. at j lt (not (is_zero (operand_value variables values test))));
  }
    where
      by : (truth : Bool) → is_used (with_used (with_used mid.stages.used nonzero) otherwise) (side nonzero otherwise truth) ≡ true
      by true = marks_keep (with_used mid.stages.used nonzero) otherwise nonzero (is_marked mid.stages.used nonzero)
      by false = is_marked (with_used mid.stages.used nonzero) otherwise

-- Conditions of several operands (C99 6.5.13, 6.5.14).

-- the work before which a cut or a condition stands goes on in no other way than in order
mutual
  opened_cut : (P : Program) (f : Function) (s : Statement) → IsCut P f s → (k : List Work) (rest other : Going → List Work) → rest Onward ≡ other Onward → opened s k rest ≡ opened s k other
  opened_cut P f Statement.Done is k rest other same = same
  opened_cut P f (Statement.Sequence a b) is k rest other same =
      opened_cut P f a is.0 (Do b ∷ k) (λ going. in_order going (opened b k rest) rest) (λ going. in_order going (opened b k other) other) (opened_cut P f b is.1 k rest other same)
  opened_cut P f (Statement.Call offset (Some slot) g es) is k rest other same = refl
  opened_cut P f (Statement.Keep offset slot ty e) is k rest other same = refl
  opened_cut P f (Statement.Truth slot d) is k rest other same = opened_asked P f d is.2 (NoteWork slot ∷ k) rest other
  opened_cut P f (Statement.If d a b) is k rest other same = opened_asked P f d is.0 (Choose a b ∷ k) rest other
  opened_cut P f s is k rest other same = absurd is

  pub opened_asked : (P : Program) (f : Function) (d : Statement) → IsCondition P f d → (k : List Work) (rest other : Going → List Work) → opened d k rest ≡ opened d k other
  opened_asked P f (Statement.Sequence cut d) is k rest other =
      opened_cut P f cut is.0 (Do d ∷ k) (λ going. in_order going (opened d k rest) rest) (λ going. in_order going (opened d k other) other) (opened_asked P f d is.1 k rest other)
  opened_asked P f (Statement.Test offset operand) is k rest other = refl
  opened_asked P f (Statement.Both a b) is k rest other = opened_asked P f a is.0 (ThenBoth b ∷ k) rest other
  opened_asked P f (Statement.Either a b) is k rest other = opened_asked P f a is.0 (ThenEither b ∷ k) rest other
  opened_asked P f (Statement.Opposite inner) is k rest other = opened_asked P f inner is (ThenOpposite ∷ k) rest other
  opened_asked P f d is k rest other = absurd is

-- a condition that waits for its first part
pub opened_part : (P : Program) (f : Function) (d part : Statement) (k l : List Work) → IsCondition P f part → opened d k (λ g. settled g k) ≡ opened part l (λ g. settled g k) →
    settled Onward (Do part ∷ l) ≡ settled Onward (Do d ∷ k)
opened_part P f d part k l ok is = opened_asked P f part ok l (λ g. settled g l) (λ g. settled g k) ∙ sym is

-- ---- parts of conditions

pub asked_part : (P : Program) (W : Whole) (homes : List Home) (size : ℕ) (d part : Statement) (old c : Lowering) → Grows old c → c.site ≡ old.site →
    IsCondition W.setting.program W.setting.function part → ((g : ℕ) → Contains (calls_of part) g → Contains (calls_of d) g) → SuitsAsked P W homes size d old → SuitsAsked P W homes size part c
asked_part P W homes size d part old c grows site resolved calls suits = record {
  seated = seat_on P W homes size old c grows.back grows.rooms grows.objects suits.seated;
  homes_ = grows.homes ∙ suits.homes_;
  good = grows.good size suits.good;
  locals = suits.locals;
  resolved = resolved;
  sites = subst (HasSites W.setting.program Statement.Done) (sym site) suits.sites;
  calls = λ g c. suits.calls g (calls g c);
}

pub asked_typing_part : (P : Program) (S : Typing) (size : ℕ) (d part : Statement) (old c : Lowering) → Grows old c → c.site ≡ old.site → IsCondition S.program S.function part →
    ((g : ℕ) → Contains (calls_of part) g → Contains (calls_of d) g) → SuitsAskedTyping P S size d old → SuitsAskedTyping P S size part c
asked_typing_part P S size d part old c grows site resolved calls suits = record {
  seated = typed_seat_on P S size old c grows.back grows.rooms grows.objects suits.seated;
  fits = subst (Fits S) (sym grows.homes) suits.fits;
  good = grows.good size suits.good;
  resolved = resolved;
  sites = subst (HasSites S.program Statement.Done) (sym site) suits.sites;
  calls = λ g c. suits.calls g (calls g c);
}

-- ---- an operand

pub test_decides : (P : Program) (d : Statement) (offset : ℕ) (e : Expression) (note : Option Note) (t f : ℕ) (old new : Lowering) → d ≡ Statement.Test offset e → Tests e note t f old new →
    Decides P d note t f old new
test_decides P d offset e note t f old new is test = rw is record {
  grows = record {
    homes = test.keeps.homes;
    back = test.keeps.back;
    rooms = test.keeps.rooms;
    variables = test.keeps.variables;
    arrays = test.keeps.arrays;
    objects = test.keeps.objects;
    words = test.keeps.words;
    good = λ size g. record {
      variables = ap length test.keeps.variables ∙ g.variables;
      sound = test.keeps.sound size g.variables g.sound;
      idle = λ off. test.idle size g.variables g.sound;
    };
    whole = test.keeps.whole;
    used = test.keeps.used;
  };
  site = test.site;
  advances = test.advances;
  first = test.first;
  comes = test.comes;
  typed = λ S w size slot suits now. test.typed offset S w size suits.fits slot suits.resolved suits.good now;
  ends = test.ends;
  marks = test.marks;
  asks = λ W homes size n k suits slot whole keeps at. test.asks P W homes size n k suits.seated suits.homes_ suits.locals slot suits.good whole keeps at offset;
}

-- ---- an opposite

turned : (t f : ℕ) (truth : Bool) → side f t (not truth) ≡ side t f truth
turned t f true = refl
turned t f false = refl

noted_opposite : (note : Option Note) (truth : Bool) → noted_truth note (not truth) ≡ noted_truth (opposite_note note) truth
noted_opposite None truth = refl
noted_opposite (Some note) truth = ap (λ b. Some (note.slot, b)) (by note.turned truth)
  where
    by : (b truth : Bool) → turned_truth b (not truth) ≡ turned_truth (not b) truth
    by true true = refl
    by true false = refl
    by false true = refl
    by false false = refl

pub slot_opposite : (f : Function) (note : Option Note) → HasSlot f note → HasSlot f (opposite_note note)
slot_opposite f None slot = tt
slot_opposite f (Some note) slot = slot

unmet_one : (steps : ℕ) (d : Statement) → unmet steps d ≤ 1
unmet_one zero d = omega arith
unmet_one (suc steps) (Statement.Test offset operand) = omega arith
unmet_one (suc steps) d = omega arith

pub unmet_none : (steps : ℕ) (d : Statement) → steps ≡ 0 → unmet steps d ≡ 0
unmet_none zero d none = refl
unmet_none (suc steps) d none = absurd (omega (arith, none))

pub opposite_decides : (P : Program) (d inner : Statement) (note : Option Note) (t f : ℕ) (old new : Lowering) → d ≡ Statement.Opposite inner → Decides P inner (opposite_note note) f t old new →
    Decides P d note t f old new
opposite_decides P d inner note t f old new is h = rw is record {
  grows = h.grows;
  site = h.site;
  advances = h.advances;
  first = h.first;
  comes = h.comes;
  typed = λ S w size slot suits now.
      let one = unmet_one old.block.steps inner in
      now_more S (w + (inlined_weight S.program inner + unmet old.block.steps inner)) (w + (inlined_weight S.program inner + 1 + unmet old.block.steps (Statement.Opposite inner))) new
      (omega (arith, one))
      (h.typed S w size (slot_opposite S.function note slot) (asked_typing_part P S size (Statement.Opposite inner) inner old old (grows_refl old) refl suits.resolved (λ g c. c) suits) now);
  ends = h.ends;
  marks = λ truth. ap (is_used new.stages.used) (sym (turned t f truth)) ∙ h.marks (not truth);
  asks = λ W homes size n k suits slot whole keeps at.
      subst (GoesOn W homes nothing_kept n old)
      (opened_part W.setting.program W.setting.function (Statement.Opposite inner) inner k (ThenOpposite ∷ k) suits.resolved refl)
      (h.asks W homes size n (ThenOpposite ∷ k) (asked_part P W homes size (Statement.Opposite inner) inner old old (grows_refl old) refl suits.resolved (λ g c. c) suits)
      (slot_opposite W.setting.function note slot) whole (λ truth. keeps (not truth) ∙ noted_opposite note truth) (λ j lt truth. by W homes k j (at j lt) truth));
}
  where
    by : (W : Whole) (homes : List Home) (k : List Work) (j : ℕ) → ((truth : Bool) → AtLabel W homes j (side t f truth) (decided truth k)) → (truth : Bool) →
        AtLabel W homes j (side f t truth) (decided truth (ThenOpposite ∷ k))
    by W homes k j at true = at false
    by W homes k j at false = at true

-- ---- an operand, and then, where the first is not enough, the second

module _ (P : Program) (c d : Statement) (note : Option Note) (next t f x y : ℕ) (old a m b new : Lowering) (number : next ≡ length old.stages.labels) (label : a ≡ with_label old)
    (first : Decides P c note x y a m) (begins : Begins next m b) (second : Decides P d note t f b new) where
  to_a : Shifts old a
  to_a = subst (Shifts old) (sym label) (label_relabels old).shifts

  to_b : Grows a b
  to_b = grows_both a m b first.grows (begins_shifts next m b begins).grows

  old_b : Grows old b
  old_b = grows_both old a b to_a.grows to_b

  b_site : b.site ≡ old.site
  b_site = (begins_shifts next m b begins).site ∙ first.site ∙ to_a.site

  old_a : Advances None_ old.stages a.stages
  old_a = labels_more old.stages a.stages (ap (λ (z : Lowering). z.stages) label)

  m_new : Advances (λ other. other ≡ next) m.stages new.stages
  m_new = advances_both (λ other. other ≡ next) m.stages b.stages new.stages (begins_advance next m b begins) second.advances

  all_advances : Advances None_ old.stages new.stages
  all_advances =
      advances_new None_ (λ other. other ≡ next) old.stages m.stages new.stages (advances_both None_ old.stages a.stages m.stages old_a first.advances) m_new
      (λ other e o. absurd (let lt = slice_get_within old.stages.labels other None o in omega (arith, lt, e, number)))

  all_first : (start : ℕ) → Begun start old → IsFirst start new.stages
  all_first start begun =
      first_after (λ other. other ≡ next) m.stages new.stages start m_new
      (first.first start (subst (Begun start) (sym label) (label_begun start old begun)))

  all_come : (h : ℕ) → IsHere old.stages h → HasCome h (length old.stages.stages.items) new.stages
  all_come h here =
      come_on (λ other. other ≡ next) h (length old.stages.stages.items) m.stages new.stages m_new
      (subst (λ n. HasCome h n m.stages) (ap (λ (z : Lowering). length z.stages.stages.items) label)
      (first.comes h (subst (λ (z : Lowering). IsHere z.stages h) (sym label) (get_front old.stages.labels (None ∷ []) h (Some (length old.stages.places)) here))))

  b_idle : (size : ℕ) → IsGood size old → b.block.steps ≡ 0
  b_idle size good = begun_idle next size m b (first.grows.good size (to_a.grows.good size good)) begins

  all_typed : (e : Statement) → ((Q : Program) → inlined_weight Q e ≡ inlined_weight Q c + inlined_weight Q d + 1) →
      ((Q : Program) (g : Function) → IsCondition Q g e → IsCondition Q g c × IsCondition Q g d) → calls_of e ≡ calls_of c ++ calls_of d →
      (S : Typing) (w size : ℕ) → HasSlot S.function note → SuitsAskedTyping P S size e old → IsTypedNow S w old →
      IsTypedNow S (w + (inlined_weight S.program e + unmet old.block.steps e)) new
  all_typed e weighs parts called S w size slot suits now =
      let ok = parts S.program S.function suits.resolved in
      let now_a = to_a.typed S w size suits.good now in
      let v = w + (inlined_weight S.program c + unmet a.block.steps c) in
      let at_m = first.typed S w size slot
      (asked_typing_part P S size e c old a to_a.grows to_a.site ok.0 (λ g h. subst (λ l. Contains l g) (sym called) (Contains-append_left (calls_of c) (calls_of d) g h)) suits) now_a in
      let at_b = (begins_shifts next m b begins).typed S v size (first.grows.good size (to_a.grows.good size suits.good)) at_m in
      let at_new = second.typed S v size slot
      (asked_typing_part P S size e d old b old_b b_site ok.1 (λ g h. subst (λ l. Contains l g) (sym called) (Contains-append_right (calls_of c) (calls_of d) g h)) suits) at_b in
      let one = unmet_one a.block.steps c in
      let none = unmet_none b.block.steps d (b_idle size suits.good) in
      let sum = weighs S.program in
      now_more S (v + (inlined_weight S.program d + unmet b.block.steps d)) (w + (inlined_weight S.program e + unmet old.block.steps e)) new (omega (arith, one, none, sum)) at_new

  module _ (e : Statement) (parts : (Q : Program) (g : Function) → IsCondition Q g e → IsCondition Q g c × IsCondition Q g d) (called : calls_of e ≡ calls_of c ++ calls_of d)
      (W : Whole) (homes : List Home) (size n : ℕ) (k : List Work) (suits : SuitsAsked P W homes size e old) (slot : HasSlot W.setting.function note) (whole : IsIn W new) (keeps : IsNoted note k)
      (at : (j : ℕ) → j < n → (truth : Bool) → AtLabel W homes j (side t f truth) (decided truth k)) where
    both_ok : IsCondition W.setting.program W.setting.function c × IsCondition W.setting.program W.setting.function d
    both_ok = parts W.setting.program W.setting.function suits.resolved

    -- the second operand is asked at the label between them
    next_at : (j : ℕ) → j < n → AtLabel W homes j next (settled Onward (Do d ∷ k))
    next_at j lt =
        begin_at W homes j (settled Onward (Do d ∷ k)) nothing_kept next m b (b_idle size suits.good) begins
        (second.asks W homes size j k
        (asked_part P W homes size e d old b old_b b_site both_ok.1 (λ g h. subst (λ l. Contains l g) (sym called) (Contains-append_right (calls_of c) (calls_of d) g h)) suits)
        slot whole keeps (λ i below truth. at i (omega arith) truth))

    first_goes : (l : List Work) → IsNoted note l → ((j : ℕ) → j < n → (truth : Bool) → AtLabel W homes j (side x y truth) (decided truth l)) →
        GoesOn W homes nothing_kept n old (settled Onward (Do c ∷ l))
    first_goes l free claims =
        goes_before_label W homes nothing_kept n old a (settled Onward (Do c ∷ l)) label
        (first.asks W homes size n l
        (asked_part P W homes size e c old a to_a.grows to_a.site both_ok.0 (λ g h. subst (λ z. Contains z g) (sym called) (Contains-append_left (calls_of c) (calls_of d) g h)) suits)
        slot ((begins_shifts next m b begins).grows.whole W (second.grows.whole W whole)) free claims)

pub both_decides : (P : Program) (e c d : Statement) (note : Option Note) (next t f : ℕ) (old a m b new : Lowering) → e ≡ Statement.Both c d → next ≡ length old.stages.labels → a ≡ with_label old →
    Decides P c note next f a m → Begins next m b → Decides P d note t f b new → Decides P e note t f old new
both_decides P e c d note next t f old a m b new is number label first begins second = rw is record {
  grows = grows_both old b new (old_b P c d note next t f next f old a m b new number label first begins second) second.grows;
  site = second.site ∙ b_site P c d note next t f next f old a m b new number label first begins second;
  advances = all_advances P c d note next t f next f old a m b new number label first begins second;
  first = all_first P c d note next t f next f old a m b new number label first begins second;
  comes = all_come P c d note next t f next f old a m b new number label first begins second;
  typed = all_typed P c d note next t f next f old a m b new number label first begins second (Statement.Both c d) (λ Q. refl) (λ Q g ok. ok) refl;
  ends = second.ends;
  marks = second.marks;
  asks = λ W homes size n k suits slot whole keeps at.
      subst (GoesOn W homes nothing_kept n old) (opened_part W.setting.program W.setting.function (Statement.Both c d) c k (ThenBoth d ∷ k) suits.resolved.0 refl)
      (first_goes P c d note next t f next f old a m b new number label first begins second (Statement.Both c d) (λ Q g ok. ok) refl W homes size n k suits slot whole keeps at (ThenBoth d ∷ k) keeps
      (λ j lt truth. by W homes k j
      (next_at P c d note next t f next f old a m b new number label first begins second (Statement.Both c d) (λ Q g ok. ok) refl W homes size n k suits slot whole keeps at j lt)
      (at j lt false) truth));
}
  where
    by : (W : Whole) (homes : List Home) (k : List Work) (j : ℕ) → AtLabel W homes j next (settled Onward (Do d ∷ k)) → AtLabel W homes j f (decided false k) → (truth : Bool) →
        AtLabel W homes j (side next f truth) (decided truth (ThenBoth d ∷ k))
    by W homes k j on off true = on
    by W homes k j on off false = off

pub either_decides : (P : Program) (e c d : Statement) (note : Option Note) (next t f : ℕ) (old a m b new : Lowering) → e ≡ Statement.Either c d → next ≡ length old.stages.labels → a ≡ with_label old →
    Decides P c note t next a m → Begins next m b → Decides P d note t f b new → Decides P e note t f old new
either_decides P e c d note next t f old a m b new is number label first begins second = rw is record {
  grows = grows_both old b new (old_b P c d note next t f t next old a m b new number label first begins second) second.grows;
  site = second.site ∙ b_site P c d note next t f t next old a m b new number label first begins second;
  advances = all_advances P c d note next t f t next old a m b new number label first begins second;
  first = all_first P c d note next t f t next old a m b new number label first begins second;
  comes = all_come P c d note next t f t next old a m b new number label first begins second;
  typed = all_typed P c d note next t f t next old a m b new number label first begins second (Statement.Either c d) (λ Q. refl) (λ Q g ok. ok) refl;
  ends = second.ends;
  marks = second.marks;
  asks = λ W homes size n k suits slot whole keeps at.
      subst (GoesOn W homes nothing_kept n old) (opened_part W.setting.program W.setting.function (Statement.Either c d) c k (ThenEither d ∷ k) suits.resolved.0 refl)
      (first_goes P c d note next t f t next old a m b new number label first begins second (Statement.Either c d) (λ Q g ok. ok) refl W homes size n k suits slot whole keeps at (ThenEither d ∷ k) keeps
      (λ j lt truth. by W homes k j (at j lt true)
      (next_at P c d note next t f t next old a m b new number label first begins second (Statement.Either c d) (λ Q g ok. ok) refl W homes size n k suits slot whole keeps at j lt) truth));
}
  where
    by : (W : Whole) (homes : List Home) (k : List Work) (j : ℕ) → AtLabel W homes j t (decided true k) → AtLabel W homes j next (settled Onward (Do d ∷ k)) → (truth : Bool) →
        AtLabel W homes j (side t next truth) (decided truth (ThenEither d ∷ k))
    by W homes k j on off true = on
    by W homes k j on off false = off

-- with a unit for each operand by itself
pub decided_typed : (P : Program) (d : Statement) (note : Option Note) (t f : ℕ) (old new : Lowering) → Decides P d note t f old new → (S : Typing) (w size : ℕ) → HasSlot S.function note →
    SuitsAskedTyping P S size d old → IsTypedNow S w old → IsTypedNow S (w + (inlined_weight S.program d + 1)) new
decided_typed P d note t f old new decides S w size slot suits now =
    let one = unmet_one old.block.steps d in
    now_more S (w + (inlined_weight S.program d + unmet old.block.steps d)) (w + (inlined_weight S.program d + 1)) new (omega (arith, one)) (decides.typed S w size slot suits now)
