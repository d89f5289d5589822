-- What a comparison of a variable with a value keeps, and where the thread goes on before it.
use Rattle.std.proofs.Common.{◌≡◌, ℕ, zero, suc, ◌+◌, ◌-◌, ◌*◌, ◌^◌, ◌<◌, ◌≤◌, Bool, true, false, List, [], ◌∷◌, ◌++◌, length, ℤ, pos, Option, Some, None, refl, sym, ap, ◌∙◌, subst, ⊎_elim, inr, arith}
use Rattle.std.proofs.Common.{length-append, append-nil}
use Rattle.std.specs.Prelude.{if◌then◌else◌, slice_get}
use Rattle.std.proofs.lemmas.Option.{slice_get_within}
use Rattle.std.proofs.lemmas.List.{length-set}
use Rattle.lists.proofs.Places.{get_front, get_last}
use Rattle.hls_ints.specs.Types.{HasType, int_type, long_int, wrapped}
use Rattle.hls_ints.specs.Residues.{bit_of}
use Rattle.hls_ints.specs.Operators.{is_zero, equal_of}
use Rattle.hls_ints.proofs.Conversions.{wrapped-same}
use Rattle.c_program.specs.declared.tree.BinaryOperator.TheVariants.{Equal}
use Rattle.thread_semantics.specs.Memory.{Memory}
use Rattle.thread_semantics.specs.State.{Frame}
use Rattle.thread_semantics.specs.Work.{Work, same_label}
use Rattle.block_ir.specs.declared.operand.Operand.{Operand}
use Rattle.block_ir.specs.declared.operand.Source.TheVariants.{Constant, Value}
use Rattle.block_ir.specs.declared.block.Operation.{Operation}
use Rattle.block_ir.specs.declared.block.Operation.TheVariants.{Binary}
use Rattle.block_ir.specs.declared.block.Next.{Next}
use Rattle.block_ir.specs.declared.block.Next.TheVariants.{Branch}
use Rattle.block_ir.specs.declared.block.Block.{Block}
use Rattle.block_ir.specs.declared.code.Stage.TheVariants as stage
use Rattle.block_ir.specs.Run.{Cells, Running, operand_value, operations_run, leads_to, variables_after, stage_after}
use Rattle.code_following.specs.Idle.{idle_count}
use Rattle.code_following.specs.Following.{Follows}
use Rattle.code_blocks.specs.declared.homes.Home.{Home}
use Rattle.code_blocks.specs.declared.homes.Home.TheVariants as home
use Rattle.code_blocks.specs.declared.places.Target.TheVariants as target
use Rattle.code_blocks.specs.declared.open_block.OpenBlock.{OpenBlock}
use Rattle.code_blocks.specs.Needs.{plain}
use Rattle.code_blocks.specs.Evaluating.{current_operand, current_value, local_value, held_by, with_more, Reads}
use Rattle.code_blocks.specs.Closing.{HasNoted, IsFresh}
use Rattle.code_blocks.specs.Typing.{Typing, IsTypedOpen}
use Rattle.code_blocks.proofs.OperationRuns.{same_function, last_value}
use Rattle.code_blocks.proofs.Steps.{read_held}
use Rattle.code_blocks.proofs.TypedExpressions.{load_typed, value_last}
use Rattle.code_blocks.proofs.TypedExpressions as expressions
use Rattle.code_places.specs.declared.targets.Loop.{Loop}
use Rattle.code_places.specs.declared.stages.Stages.{Stages}
use Rattle.code_places.specs.declared.lowering.Lowering.{Lowering}
use Rattle.code_places.specs.Labels.{LeadsTo, IsChoice, MayPush, IsHere, IsWhole, is_used, with_used, IsOpen, Advances, IsFirst, led_next}
use Rattle.code_places.specs.Resuming.{home_value, Keeping, Stands, CallersResume, IsMid, InBlock, AtFresh, IsSound}
use Rattle.code_places.specs.Apart.{idle_now, room, IsTypedAnywhere, IsTypedNow, IsGood}
use Rattle.code_places.specs.Control.{with_label, marked, placed, EndsAt, Branches, equality, Compares, Begun, Whole, IsIn, GoesOn}
use Rattle.code_places.specs.Doing.{Grows, IsHead, Heads, Proceeds}
use Rattle.code_places.proofs.ResumedPlaces.{fresh_sound}
use Rattle.code_places.proofs.TypedGrowth.{IsTypedBut, IsTypedNextAnywhere, ends_typed, idle_ends_typed, count_more}
use Rattle.code_places.proofs.LabelTargets.{open_ended, placed_here, whole_placed, whole_pushed, pushed_at, goes_of_in}
use Rattle.code_places.proofs.NewLabel.{label_keeps}
use Rattle.code_places.proofs.LabelSteps.{None_, advances_both, advances_new, first_after, labels_more, marks, binds_label, pushes_advance, pushed_here, busy_may}
use Rattle.code_places.proofs.OpenLabels.{marks_keep, is_marked, pushed_begun}
use Rattle.code_places.proofs.HeadPlaces.{come_on, ends_come}
use Rattle.code_places.proofs.OpenParts.{begun_proceeds}

same_block : (b d : Block) → stage.Run b ≡ stage.Run d → b ≡ d
same_block b d e = cc

current_right : (o : Option (Option Operand)) (variables : ℕ → ℤ) (values : List ℤ) (x : ℕ) → operand_value variables values (current_operand o x long_int) ≡ current_value o variables values x
current_right (Some (Some a)) variables values x = refl
current_right (Some None) variables values x = refl
current_right None variables values x = refl

-- a branch on an equality leads to the first label where it holds
route : (stage_of : ℕ → ℕ) (equal other : ℕ) (b : Bool) → (if is_zero (pos (bit_of b)) then stage_of other else stage_of equal) ≡ stage_of (if b then equal else other)
route stage_of equal other true = refl
route stage_of equal other false = refl

-- ---- what the code gives

module _ (other equal : ℕ) (old : Lowering) (labelled : Stages) (number : other ≡ length old.stages.labels) (labelled_is : labelled ≡ (with_label old).stages) where
  pub compares_open : (test : Operand) (put : OpenBlock) (ended : Lowering) → Branches test equal other (record old { stages = labelled; block = put }) ended → IsOpen other ended.stages
  compares_open test put ended branches =
      open_ended (Branch test equal other) other (marked other (marked equal (record old { stages = labelled; block = put }))) ended branches.ends
      (ap (λ (z : Stages). slice_get z.labels other) labelled_is ∙ ap (slice_get (with_label old).stages.labels) number ∙ get_last old.stages.labels None)

  pub compares_at : (x : ℕ) (value : ℤ) (held case_ test : Operand) (put : OpenBlock) (ended new : Lowering) → held ≡ current_operand (slice_get old.block.current x) x long_int →
      case_ ≡ plain (Constant long_int value) → put ≡ with_more old.block (Binary Equal long_int held case_ ∷ []) → length put.operations < 2 ^ 32 →
      test ≡ plain (Value (length old.block.operations) int_type) → Branches test equal other (record old { stages = labelled; block = put }) ended → new ≡ placed other ended →
      Compares x value equal old new
  compares_at x value held case_ test put ended new held_is case_is put_is few test_is branches same = record {
    other = other;
    number = number;
    mid = record old { stages = labelled; block = put };
    put =
        ap (λ (z : Stages). record old { stages = z; block = put }) labelled_is
        ∙ ap (λ (b : OpenBlock). record (with_label old) { block = b })
        (put_is ∙ ap (λ o. with_more old.block (Binary Equal long_int o case_ ∷ [])) held_is
        ∙ ap (λ o. with_more old.block (Binary Equal long_int (current_operand (slice_get old.block.current x) x long_int) o ∷ [])) case_is);
    few = (let all = ap (λ (z : OpenBlock). length z.operations) put_is in let split = length-append old.block.operations (Binary Equal long_int held case_ ∷ []) in omega (arith, all, split, few));
    ended = ended;
    branches = subst (λ t. Branches t equal other (record old { stages = labelled; block = put }) ended) test_is branches;
    same = same;
  }

-- ---- what a comparison does

module _ (x : ℕ) (value : ℤ) (equal : ℕ) (old new : Lowering) (c : Compares x value equal old new) where
  abbrev both : Lowering
  both = marked c.other (marked equal c.mid)

  abbrev test : Operand
  test = plain (Value (length old.block.operations) int_type)

  abbrev added : Operation
  added = equality old.block x value

  abbrev more : OpenBlock
  more = with_more old.block (added ∷ [])

  abbrev ends : EndsAt (Branch test equal c.other) both c.ended
  ends = c.branches.ends

  block_is : both.block ≡ more
  block_is = ap (λ (z : Lowering). z.block) c.put

  stages_are : c.mid.stages ≡ (with_label old).stages
  stages_are = ap (λ (z : Lowering). z.stages) c.put

  items_are : both.stages.stages.items ≡ old.stages.stages.items
  items_are = ap (λ (z : Stages). z.stages.items) stages_are

  operations_are : ends.block.operations ≡ old.block.operations ++ added ∷ []
  operations_are = ends.closes.operations ∙ ap (λ (z : OpenBlock). z.operations) block_is

  steps_are : ends.block.steps ≡ old.block.steps
  steps_are = ends.closes.steps ∙ ap (λ (z : OpenBlock). z.steps) block_is

  noted_on : HasNoted old.block → HasNoted both.block
  noted_on noted = subst HasNoted (sym block_is) noted

  -- ---- labels

  open_both : (label : ℕ) → IsOpen label old.stages → IsOpen label both.stages
  open_both label o = ap (λ (z : Stages). slice_get z.labels label) stages_are ∙ get_front old.stages.labels (None ∷ []) label None o

  other_both : IsOpen c.other both.stages
  other_both =
      ap (λ (z : Stages). slice_get z.labels c.other) stages_are ∙ ap (slice_get (with_label old).stages.labels) c.number ∙ get_last old.stages.labels None

  other_open : IsOpen c.other c.ended.stages
  other_open = open_ended (Branch test equal c.other) c.other both c.ended ends other_both

  -- where the variable has another value, the place at hand is that of the new label
  pub compares_here : IsHere new.stages c.other
  compares_here = subst (λ (z : Lowering). IsHere z.stages c.other) (sym c.same) (placed_here c.other c.ended other_open)

  here_both : (label : ℕ) → IsHere old.stages label → IsHere both.stages label
  here_both label here =
      subst (λ (z : Stages). IsHere z label) (sym stages_are) (get_front old.stages.labels (None ∷ []) label (Some (length old.stages.places)) here)

  to_both : Advances None_ old.stages both.stages
  to_both =
      advances_both None_ old.stages c.mid.stages both.stages (labels_more old.stages c.mid.stages stages_are)
      (advances_both None_ c.mid.stages (marked equal c.mid).stages both.stages (marks equal c.mid.stages (marked equal c.mid).stages refl)
      (marks c.other (marked equal c.mid).stages both.stages refl))

  to_new : Advances (λ label. label ≡ c.other) c.ended.stages new.stages
  to_new =
      subst (λ (z : Lowering). Advances (λ label. label ≡ c.other) c.ended.stages z.stages) (sym c.same)
      (binds_label c.other c.ended.stages (placed c.other c.ended).stages other_open refl)

  -- a block without steps chooses by one operation between labels without places
  module _ (none : old.block.operations ≡ []) (some : 0 < length old.stages.stages.items) (open_ : IsOpen equal old.stages) where
    chooses : IsChoice ends.block
    chooses = record {
      one = (let all = ap length operations_are in let split = length-append old.block.operations (added ∷ []) in let first = ap length none in omega (arith, all, split, first));
      test = test;
      nonzero = equal;
      otherwise = c.other;
      next = ends.closes.next_;
    }

    idle_may : MayPush (stage.Run ends.block) both.stages
    idle_may = record {
      choice = λ b is idle. subst IsChoice (same_block ends.block b is) chooses;
      open_ = λ b label number is idle to bound.
          ⊎_elim
          (λ e. absurd (let o = open_both equal open_ in let same = ap (slice_get both.stages.labels) e in cc))
          (λ e. absurd (let o = other_both in let same = ap (slice_get both.stages.labels) e in cc))
          (subst (λ n. LeadsTo n label) (ap (λ (z : Block). z.next) (sym (same_block ends.block b is)) ∙ ends.closes.next_) to);
      later = λ b is idle. (let all = ap length items_are in omega (arith, all, some));
    }

  -- it does a step, or is not the first and does nothing yet, and the label has no place yet
  abbrev pub MayCompare : Type 0
  MayCompare = old.block.steps ≡ 0 → (old.block.operations ≡ []) × (0 < length old.stages.stages.items) × IsOpen equal old.stages

  may_push : MayCompare → MayPush (stage.Run ends.block) both.stages
  may_push rest = by old.block.steps refl
    where
      by : (n : ℕ) → old.block.steps ≡ n → MayPush (stage.Run ends.block) both.stages
      by zero e = let r = rest e in idle_may r.0 r.1 r.2
      by (suc n) e = busy_may ends.block both.stages (let s = steps_are in omega (arith, e, s))

  pub compares_advance : MayCompare → Advances None_ old.stages new.stages
  compares_advance rest =
      advances_new None_ (λ label. label ≡ c.other) old.stages c.ended.stages new.stages
      (advances_both None_ old.stages both.stages c.ended.stages to_both
      (pushes_advance (stage.Run ends.block) both.stages c.ended.stages ends.pushes (may_push rest)))
      to_new
      (λ label e o. absurd (let lt = slice_get_within old.stages.labels label None o in let n = c.number in omega (arith, lt, e, n)))

  -- what is left does nothing yet
  pub compares_none : new.block.operations ≡ []
  compares_none = ap (λ (z : Lowering). z.block.operations) c.same ∙ ends.none

  -- one label more, and one stage
  pub compares_labels : length new.stages.labels ≡ suc (length old.stages.labels)
  compares_labels =
      ap (λ (z : Lowering). length z.stages.labels) c.same ∙ length-set c.ended.stages.labels c.other (Some (length c.ended.stages.places)) ∙ ap length ends.pushes.labels
      ∙ ap (λ (z : Stages). length z.labels) stages_are ∙ length-append old.stages.labels (None ∷ []) ∙ (omega arith)

  pub compares_some : 0 < length new.stages.stages.items
  compares_some =
      let same = ap (λ (z : Lowering). length z.stages.stages.items) c.same in
      let pushed = ap length ends.pushes.stages in
      let last = length-append both.stages.stages.items (stage.Run ends.block ∷ []) in
      omega (arith, same, pushed, last)

  pub compares_first : (start : ℕ) → Begun start old → IsFirst start new.stages
  compares_first start begun =
      first_after (λ label. label ≡ c.other) c.ended.stages new.stages start to_new
      (pushed_begun (stage.Run ends.block) old both.stages c.ended.stages to_both items_are here_both ends.pushes start begun)

  -- ---- what is kept

  pub compares_fresh : (size : ℕ) → IsSound size old.block → IsFresh (size + 4) new.block
  compares_fresh size sound =
      subst (λ n. IsFresh n new.block) (ap (λ (z : OpenBlock). length z.current) block_is ∙ sound.size)
      (subst (IsFresh (length both.block.current)) (sym (ap (λ (z : Lowering). z.block) c.same)) (ends.left (noted_on sound.noted)))

  pub compares_reached : new.reached ≡ true
  compares_reached = ap (λ (z : Lowering). z.reached) c.same

  pub compares_site : new.site ≡ old.site
  compares_site = ap (λ (z : Lowering). z.site) c.same ∙ ap (λ (z : Lowering). z.site) ends.same ∙ ap (λ (z : Lowering). z.site) c.put

  pub compares_marks : is_used new.stages.used equal ≡ true
  compares_marks =
      ap (λ (z : Lowering). is_used z.stages.used equal) c.same ∙ ap (λ us. is_used us equal) ends.pushes.used
      ∙ marks_keep (with_used c.mid.stages.used equal) c.other equal (is_marked c.mid.stages.used equal)

  whole_ended : (W : Whole) → IsIn W new → IsIn W c.ended
  whole_ended W whole = whole_placed W c.other c.ended other_open (subst (IsIn W) c.same whole)

  whole_both : (W : Whole) → IsIn W new → IsWhole W.stage_of W.setting.stages both.stages
  whole_both W whole =
      whole_pushed W.stage_of W.setting.stages both.stages c.ended.stages (whole_ended W whole) (stage.Run ends.block) ends.pushes

  whole_old : (W : Whole) → IsIn W new → IsIn W old
  whole_old W whole =
      let w = whole_both W whole in
      (label_keeps old).whole W
      (subst (IsWhole W.stage_of W.setting.stages) stages_are (record { part = record { more = w.part.more; is = w.part.is }; obeys = w.obeys }))

  pub compares_grows : Grows old new
  compares_grows = record {
    homes = ap (λ (z : Lowering). z.homes) c.same ∙ ap (λ (z : Lowering). z.homes) ends.same ∙ ap (λ (z : Lowering). z.homes) c.put;
    back = ap (λ (z : Lowering). z.back) c.same ∙ ap (λ (z : Lowering). z.back) ends.same ∙ ap (λ (z : Lowering). z.back) c.put;
    rooms = ap (λ (z : Lowering). z.rooms) c.same ∙ ap (λ (z : Lowering). z.rooms) ends.same ∙ ap (λ (z : Lowering). z.rooms) c.put;
    variables = ap (λ (z : Lowering). z.variables) c.same ∙ ap (λ (z : Lowering). z.variables) ends.same ∙ ap (λ (z : Lowering). z.variables) c.put;
    arrays = ap (λ (z : Lowering). z.arrays) c.same ∙ ap (λ (z : Lowering). z.arrays) ends.same ∙ ap (λ (z : Lowering). z.arrays) c.put;
    objects = ap (λ (z : Lowering). z.objects) c.same ∙ ap (λ (z : Lowering). z.objects) ends.same ∙ ap (λ (z : Lowering). z.objects) c.put;
    words = ap (λ (z : Lowering). z.act_operands) c.same ∙ ap (λ (z : Lowering). z.act_operands) ends.same ∙ ap (λ (z : Lowering). z.act_operands) c.put;
    good = λ size g. record {
      variables =
          ap (λ (z : Lowering). length z.variables) c.same ∙ ap (λ (z : Lowering). length z.variables) ends.same ∙ ap (λ (z : Lowering). length z.variables) c.put ∙ g.variables;
      sound = fresh_sound size new.block (compares_fresh size g.sound);
      idle = λ off. (compares_fresh size g.sound).steps;
    };
    whole = whole_old;
    used = λ label is.
        ap (λ (z : Lowering). is_used z.stages.used label) c.same ∙ ap (λ us. is_used us label) ends.pushes.used
        ∙ marks_keep (with_used c.mid.stages.used equal) c.other label
        (marks_keep c.mid.stages.used equal label (ap (λ (z : Stages). is_used z.used label) stages_are ∙ is));
  }

  compares_come : (label l : ℕ) → IsHead label l old → Heads label l new
  compares_come label l head =
      inr (come_on (λ other. other ≡ c.other) label l c.ended.stages new.stages to_new
      (ends_come label l (Branch test equal c.other) both c.ended ends (record {
        here = here_both label head.here;
        number = ap length items_are ∙ head.number;
        busy = (let some = head.busy in let steps = ap (λ (z : OpenBlock). z.steps) block_is in omega (arith, some, steps));
        on = ap (λ (z : Lowering). z.reached) c.put ∙ head.on;
      })))

  pub compares_proceeds : MayCompare → old.reached ≡ true → (around : Option Loop) → Proceeds around old new
  compares_proceeds rest on around =
      begun_proceeds around old new compares_grows.back on (compares_advance rest) (λ start b. inr (compares_first start b)) compares_come

  -- ---- types

  module _ (S : Typing) (w size : ℕ) (variable : slice_get S.types.variables x ≡ Some long_int) (typed : HasType long_int value) (good : IsGood size old)
      (now : IsTypedNow S w old) (fits : length old.block.operations + 1 ≤ room w old) where
    open_typed : IsTypedOpen S.types both.block
    open_typed =
        expressions.open_more S.types old.block both.block added block_is
        (let all = ap (λ (z : OpenBlock). length z.operations) block_is in let split = length-append old.block.operations (added ∷ []) in let few = c.few in omega (arith, all, split, few))
        now.block (
          (load_typed S.types (target.Variable x long_int) old.block old.block (current_operand (slice_get old.block.current x) x long_int) refl refl (λ few. few) variable now.block).operand,
          typed,
        )

    both_typed : IsTypedBut S w both
    both_typed =
        let count = ap (λ ss. 4 * w - 4 * idle_count ss) items_are in
        record {
          block = open_typed;
          idle = (let idle = now.idle in let same = ap idle_count items_are in omega (arith, idle, same));
          size = (let all = ap (λ (z : OpenBlock). length z.operations) block_is in let split = length-append old.block.operations (added ∷ []) in omega (arith, all, split, fits, count));
          stages = λ l s e.
              subst (λ m. IsTypedAnywhere S.types S.program m s) (sym count) (now.stages l s (ap (λ ss. slice_get ss l) (sym items_are) ∙ e));
        }

    leads_typed : IsTypedNextAnywhere S.types both.block.operations (Branch test equal c.other)
    leads_typed = λ n stage_of below. (value_last S.types old.block both.block added int_type block_is refl, below equal, below c.other)

    -- a block that does a step
    pub busy_compares_typed : 0 < old.block.steps → IsTypedNow S w new
    busy_compares_typed busy =
        let ended =
        ends_typed S w (Branch test equal c.other) both c.ended (let s = ap (λ (z : OpenBlock). z.steps) block_is in omega (arith, busy, s)) (noted_on good.sound.noted) ends leads_typed
        both_typed in
        subst (IsTypedNow S w) (sym c.same) (record { block = ended.block; idle = ended.idle; size = ended.size; steps = ended.steps; stages = ended.stages })

    -- a block that does none, for which there is a unit of weight
    pub idle_compares_typed : old.block.steps ≡ 0 → IsTypedNow S (w + 1) new
    idle_compares_typed none =
        let ended =
        idle_ends_typed S w (Branch test equal c.other) both c.ended (ap (λ (z : OpenBlock). z.steps) block_is ∙ none) (noted_on good.sound.noted) ends leads_typed both_typed in
        subst (IsTypedNow S (w + 1)) (sym c.same) (record { block = ended.block; idle = ended.idle; size = ended.size; steps = ended.steps; stages = ended.stages })

  -- one more block without steps, where it does none
  pub compares_count : idle_now new ≡ idle_now old + (1 - old.block.steps)
  compares_count =
      let same = ap (λ (z : Lowering). idle_count z.stages.stages.items) c.same in
      let pushed = ap idle_count ends.pushes.stages in
      let last = count_more both.stages.stages.items (stage.Run ends.block) in
      let items = ap idle_count items_are in
      let steps = steps_are in
      omega (arith, same, pushed, last, items, steps)

  -- ---- where the thread goes on

  -- at the label between two comparisons
  pub other_at : (W : Whole) (homes : List Home) (Kept : Keeping) (size n : ℕ) (k : List Work) → IsSound size old.block → GoesOn W homes Kept n new k → AtFresh W.setting homes Kept n (W.stage_of c.other) k
  other_at W homes Kept size n k sound g = g.fresh (compares_fresh size sound).steps c.other compares_here

  module _ (W : Whole) (homes : List Home) (Kept : Keeping) (size n : ℕ) (k : List Work) (sound : IsSound size old.block) (whole : IsIn W new) where
    -- the side to which a value of the variable leads
    abbrev pub side_of : ℤ → ℕ
    side_of v = if same_label (Some (wrapped long_int v)) (Some (wrapped long_int value)) then equal else c.other

    abbrev pub IsDone : Type 0
    IsDone =
        (j : ℕ) → j < n → CallersResume W.setting j → (variables : ℕ → ℤ) (arrays : Cells) (f : Frame) (fs : List Frame) → f.work ≡ k →
        Stands W.setting homes Kept variables arrays f fs → Follows W.setting.program W.setting.stages j (W.stage_of (side_of (variables x))) variables arrays (f ∷ fs)

    abbrev final : Block
    final = record ends.block { next = led_next W.stage_of ends.block.next }

    module _ (variables : ℕ → ℤ) (r : Running) (f : Frame) (fs : List Frame) (globals : List (List ℤ)) (mid_ : IsMid W.setting homes Kept old.block variables r f fs globals) where
      abbrev seen : Memory
      seen = record { locals = f.locals; globals = globals }

      abbrev ran : Running
      ran = operations_run variables (added ∷ []) r

      abbrev held : ℕ → ℤ
      held = held_by old.block.current variables r.values

      reads : Reads r ran []
      reads = record { more = _; values = refl; arrays = refl; globals = refl; accesses = sym (append-nil r.accesses) }

      after_is : variables_after final variables ran ≡ held
      after_is =
          same_function (variables_after final variables ran) held
          (λ y.
          ends.closes.finals (noted_on sound.noted) variables ran.values y
          ∙ ap (λ (z : OpenBlock). held_by z.current variables ran.values y) block_is
          ∙ read_held homes old.block more (added ∷ []) refl variables r seen [] sound.below mid_.values reads y)

      local_held : (o : Option Home) (y j : ℕ) → home_value o held r.arrays y j ≡ local_value o old.block.current variables r y j
      local_held (Some (home.Array a)) y j = refl
      local_held (Some (home.Variable i)) y j = refl
      local_held None y j = refl

      stands : Stands W.setting homes Kept held r.arrays f fs
      stands = record {
        number = mid_.number;
        shape = mid_.shape;
        locals = λ y i v q. local_held (slice_get homes y) y i ∙ mid_.holds.locals y i v q;
        kept = mid_.kept;
        callers = mid_.callers;
      }

      test_is : operand_value variables ran.values test ≡ equal_of (wrapped long_int (held x)) (wrapped long_int value)
      test_is =
          last_value variables r.values _ (length old.block.operations) mid_.values
          ∙ ap (λ v. equal_of (wrapped long_int v) (wrapped long_int value)) (current_right (slice_get old.block.current x) variables r.values x)

      side_is : stage_after final variables ran ≡ W.stage_of (side_of (held x))
      side_is =
          ap (λ (z : Next). leads_to variables ran.values (led_next W.stage_of z)) ends.closes.next_
          ∙ ap (λ v. if is_zero v then W.stage_of c.other else W.stage_of equal) test_is
          ∙ route W.stage_of equal c.other (same_label (Some (wrapped long_int (held x))) (Some (wrapped long_int value)))

    inside : IsDone → InBlock W.setting homes Kept n (length old.stages.stages.items) old.block k
    inside done = record {
      block = final;
      at = ap (λ ss. slice_get W.setting.stages (length ss)) (sym items_are)
          ∙ pushed_at W.stage_of W.setting.stages both.stages c.ended.stages (whole_ended W whole) (stage.Run ends.block) ends.pushes;
      rest = added ∷ [];
      operations = operations_are;
      count = 0;
      steps = (let s = steps_are in omega (arith, s));
      goes = λ j lt resume variables r f fs globals is m. (
        refl,
        subst (λ l. Follows W.setting.program W.setting.stages j l (variables_after final variables (operations_run variables (added ∷ []) r)) r.arrays (f ∷ fs))
            (sym (side_is variables r f fs globals m))
            (subst (λ vs. Follows W.setting.program W.setting.stages j (W.stage_of (side_of (held_by old.block.current variables r.values x))) vs r.arrays (f ∷ fs))
            (sym (after_is variables r f fs globals m))
            (done j lt resume (held_by old.block.current variables r.values) r.arrays f fs is (stands variables r f fs globals m))),
      );
    }

    -- COMPARES: the thread goes on at the label where the variable has the value, and at the place behind it where it has another
    pub compares_goes : IsDone → GoesOn W homes Kept n old k
    compares_goes done =
        goes_of_in W homes Kept size n old k sound (inside done)
        (λ label among.
        pushed_here (stage.Run ends.block) both.stages c.ended.stages ends.pushes W.stage_of (whole_ended W whole).obeys label (here_both label among) ∙ ap length items_are)

    -- the same where the variable's value is known
    pub compares_known : (v : ℤ) → ((variables : ℕ → ℤ) (kept : List ℤ) → Kept variables kept → wrapped long_int (variables x) ≡ v) → HasType long_int value →
        ((j : ℕ) → j < n → AtFresh W.setting homes Kept j (W.stage_of (if same_label (Some v) (Some value) then equal else c.other)) k) → GoesOn W homes Kept n old k
    compares_known v known typed at = compares_goes (λ j lt resume variables arrays f fs is stands.
        subst (λ (b : ℕ). Follows W.setting.program W.setting.stages j (W.stage_of b) variables arrays (f ∷ fs))
        (ap (λ u. if same_label (Some v) (Some u) then equal else c.other) (sym (wrapped-same long_int value typed))
        ∙ ap (λ u. if same_label (Some u) (Some (wrapped long_int value)) then equal else c.other) (sym (known variables f.kept stands.kept)))
        (at j lt resume variables arrays f fs is stands))
