-- Calls: the step that begins one, the code of the function that is called, and what follows in the caller.
use Rattle.std.proofs.Common.{◌≡◌, ℕ, zero, suc, ◌+◌, ◌<◌, ◌≤◌, true, List, [], ◌∷◌, ◌++◌, length, map, ℤ, Option, Some, None, refl, sym, ap, ◌∙◌, subst}
use Rattle.std.proofs.Common.{arith, append-nil, length-append}
use Rattle.std.specs.Prelude.{slice_get, Contains}
use Rattle.std.proofs.lemmas.List.Elements.{Contains-push}
use Rattle.hls_ints.specs.Types.{long_int, wrapped}
use Rattle.c_program.specs.declared.tree.LocalVariable.{LocalVariable}
use Rattle.c_program.specs.Tree.{Expression, Statement, Function, Program}
use Rattle.c_program.specs.Weight.{arguments_weight, call_weight, function_weight}
use Rattle.c_program.specs.Calls.{calls_of, Calls as IsCalled}
use Rattle.c_program.specs.Resolved.{scalar, IsSlotIfAny, IsKeptCall, IsFunction, nowhere}
use Rattle.thread_semantics.specs.Memory.{Location, Memory, Evaluation, Gives, Fails, element}
use Rattle.thread_semantics.specs.Value.{values}
use Rattle.thread_semantics.specs.Work.{Work, Do, Take, Onward, settled}
use Rattle.thread_semantics.specs.State.{Frame, fresh_locals, begun}
use Rattle.thread_semantics.specs.Move.{moving, entered, work_move}
use Rattle.block_ir.specs.Run.{Cells, Running, operations_run}
use Rattle.code_following.specs.Following.{reads_of, AfterMove}
use Rattle.code_blocks.specs.declared.homes.Home.{Home}
use Rattle.code_blocks.specs.declared.homes.Home.TheVariants as home
use Rattle.code_blocks.specs.declared.open_block.OpenBlock.{OpenBlock}
use Rattle.code_places.specs.declared.targets.Loop.{Loop}
use Rattle.code_places.specs.declared.lowering.Caller.{Caller as CallerCode}
use Rattle.code_places.specs.declared.lowering.Lowering.{Lowering}
use Rattle.code_blocks.specs.Assigning.{HaveHomes}
use Rattle.code_storage.specs.declared.rooms.Rooms.{Rooms}
use Rattle.code_storage.specs.Objects.{AreObjects}
use Rattle.code_places.specs.Labels.{is_used}
use Rattle.code_places.specs.Weighing.{inlined_weight}
use Rattle.code_blocks.specs.Typing.{Typing, IsTypedHome, Fits}
use Rattle.code_blocks.specs.Passing.{IsPassed, ArePassed, IsReady, Passed, Passes}
use Rattle.code_storage.specs.Housing.{IsHomeOf, AreHomes, homes_there, homes_in, site_there, site_in, Runs}
use Rattle.code_places.specs.Resuming.{HasShape, home_value, HoldLocals, Caller, Setting, in_call, nothing_kept, IsMid, IsSound}
use Rattle.code_storage.specs.Formats.{HasSites}
use Rattle.code_places.specs.Apart.{IsTypedNow, IsGood}
use Rattle.code_places.specs.Control.{with_label, Whole, IsIn, GoesOn}
use Rattle.code_places.specs.Seats.{AreWaiting, IsInto, LeadsBack, IsSeated, HasVariable, HasWord, IsSeatedTyping}
use Rattle.code_places.specs.Doing.{Grows, Shifts, OnwardUpTo, Suits, SuitsTyping, Leads}
use Rattle.code_calls.specs.Calling.{variable_in, variable_for, OpensCall, Calls}
use Rattle.code_blocks.proofs.OperationRuns.{run_length}
use Rattle.code_blocks.proofs.Puts.{homes_more}
use Rattle.code_blocks.proofs.Arguments.{passed_none}
use Rattle.code_blocks.specs.Evaluating.{held_by}
use Rattle.code_places.proofs.Shapes.{have_homes, length_blank, blank_none}
use Rattle.code_storage.proofs.Housed.{local_there}
use Rattle.code_places.proofs.InlinedWeight.{body_weighs}
use Rattle.code_storage.proofs.Reached.{runs_callee, is_function}
use Rattle.code_places.proofs.TypedGrowth.{open_more, now_more}
use Rattle.code_places.proofs.ResumedPlaces.{Goes, resume_less}
use Rattle.code_places.proofs.KeptLocals.{callers_kept, all_waiting, seat_on}
use Rattle.code_places.proofs.LabelTargets.{begin_at, begun_idle}
use Rattle.code_places.proofs.NewLabel.{goes_before_label}
use Rattle.code_places.proofs.CodeGrowth.{label_relabels, begins_shifts, begun_reached}
use Rattle.code_calls.proofs.ReturnTargets.{home_local}
use Rattle.code_calls.proofs.ReturnCode.{closes_shifts, closes_goes}
use Rattle.code_places.proofs.BlockSteps.{block_grows, values_length, call_step_goes}

-- ---- the locals of a call that begins

-- the first count locals are scalars
abbrev pub AreScalars : ℕ → List LocalVariable → Type 0
AreScalars count locals = (k : ℕ) (l : LocalVariable) → k < count → slice_get locals k ≡ Some l → l.length ≡ 1

pub shape_passed : (locals : List LocalVariable) (vs : List ℤ) → AreScalars (length vs) locals → HasShape locals (fresh_locals locals vs)
shape_passed [] vs scalars = refl
shape_passed (l ∷ ls) [] scalars = ap (λ n. n ∷ map length (fresh_locals ls [])) (length_blank l.length) ∙ ap (λ ns. l.length ∷ ns) (shape_passed ls [] (λ k d lt at. absurd (omega arith)))
shape_passed (l ∷ ls) (v ∷ vs) scalars =
    ap (λ n. n ∷ map length (fresh_locals ls vs)) (let one = scalars 0 l (omega arith) refl in sym one)
    ∙ ap (λ ns. l.length ∷ ns) (shape_passed ls vs (λ k d lt at. scalars (suc k) d (omega arith) at))

one_element : (w v : ℤ) (j : ℕ) → slice_get (Some w ∷ []) j ≡ Some (Some v) → (j ≡ 0) × (v ≡ w)
one_element w v zero e = (refl, cc)
one_element w v (suc j) e = cc

-- what stands in a home
abbrev value_at : Home → (ℕ → ℤ) → Cells → ℕ → ℤ
value_at (home.Variable n) held arrays j = held n
value_at (home.Array a) held arrays j = arrays a j

abbrev StandThere : List Home → (ℕ → ℤ) → Cells → List (List (Option ℤ)) → Type 0
StandThere room held arrays rows =
    (x j : ℕ) (v : ℤ) → element rows x j ≡ Some (Some v) → (h : Home) × (slice_get room x ≡ Some h) × (value_at h held arrays j ≡ v)

held_there : (room : List Home) (held : ℕ → ℤ) (arrays : Cells) (rows : List (List (Option ℤ))) → StandThere room held arrays rows → HoldLocals room held arrays rows
held_there room held arrays rows all x j v e =
    let t = all x j v e in
    ap (λ o. home_value o held arrays x j) t.1 ∙ by t.0 t.2
  where
    by : (h : Home) → value_at h held arrays j ≡ v → home_value (Some h) held arrays x j ≡ v
    by (home.Variable n) is = is
    by (home.Array a) is = is

-- what is written there has been passed
passed_there : (size : ℕ) (held : ℕ → ℤ) (arrays : Cells) (locals : List LocalVariable) (room : List Home) (vs : List ℤ) → AreScalars (length vs) locals →
    ((x : ℕ) (l : LocalVariable) → slice_get locals x ≡ Some l → IsHomeOf size l (slice_get room x)) → ((x : ℕ) (l : LocalVariable) → slice_get locals x ≡ Some l → l.length ≡ 1 →
    (a : ℕ) → slice_get room x ≡ Some (home.Array a) → ⊥) → ArePassed held room locals vs → StandThere room held arrays (fresh_locals locals vs)
passed_there size held arrays [] room vs scalars homed no_array passed = λ x j v e. cc
passed_there size held arrays (l ∷ ls) [] vs scalars homed no_array passed = absurd (homed 0 l refl)
passed_there size held arrays (l ∷ ls) (h ∷ room) [] scalars homed no_array passed =
    by (passed_there size held arrays ls room [] (λ k d lt at. absurd (omega arith)) (λ x d at. homed (suc x) d at) (λ x d at. no_array (suc x) d at) (passed_none held room ls))
  where
    by : StandThere room held arrays (fresh_locals ls []) → StandThere (h ∷ room) held arrays (fresh_locals (l ∷ ls) [])
    by rest zero j v e = absurd (blank_none l.length j v e)
    by rest (suc x) j v e = rest x j v e
passed_there size held arrays (l ∷ ls) (h ∷ room) (v ∷ vs) scalars homed no_array passed =
    by (passed_there size held arrays ls room vs (λ k d lt at. scalars (suc k) d (omega arith) at) (λ x d at. homed (suc x) d at) (λ x d at. no_array (suc x) d at) passed.1)
  where
    first : (o : Home) → h ≡ o → IsPassed held o (wrapped l.ty v) → (j : ℕ) → value_at o held arrays j ≡ wrapped l.ty v
    first (home.Variable n) at is j = is
    first (home.Array a) at is j = absurd (no_array 0 l refl (scalars 0 l (omega arith) refl) a (ap Some at))

    by : StandThere room held arrays (fresh_locals ls vs) → StandThere (h ∷ room) held arrays (fresh_locals (l ∷ ls) (v ∷ vs))
    by rest zero j u e = let one = one_element (wrapped l.ty v) u j e in (h, refl, first h refl passed.0 j ∙ sym one.1)
    by rest (suc x) j u e = rest x j u e

pub locals_passed : (size : ℕ) (held : ℕ → ℤ) (arrays : Cells) (locals : List LocalVariable) (room : List Home) (vs : List ℤ) → AreScalars (length vs) locals →
    ((x : ℕ) (l : LocalVariable) → slice_get locals x ≡ Some l → IsHomeOf size l (slice_get room x)) → ((x : ℕ) (l : LocalVariable) → slice_get locals x ≡ Some l → l.length ≡ 1 →
    (a : ℕ) → slice_get room x ≡ Some (home.Array a) → ⊥) → ArePassed held room locals vs → HoldLocals room held arrays (fresh_locals locals vs)
locals_passed size held arrays locals room vs scalars homed no_array passed =
    held_there room held arrays (fresh_locals locals vs) (passed_there size held arrays locals room vs scalars homed no_array passed)

-- a call weighs what its arguments do, or more
pub arguments_least : (into : Option ℕ) (es : List Expression) → arguments_weight es ≤ call_weight into es
arguments_least None es = omega arith
arguments_least (Some slot) es = omega arith

-- ---- the variable for the value

-- it is of the type of the local that keeps the value
variable_typed : (S : Typing) (homes : List Home) → Fits S homes → (into : Option ℕ) → IsSlotIfAny S.function into → HasVariable S.types (variable_for homes into)
variable_typed S homes fits None slot = tt
variable_typed S homes fits (Some x) slot = by (slice_get homes x) (fits.locals x (scalar long_int) slot.local)
  where
    by : (o : Option Home) → IsTypedHome S.types (scalar long_int) o → HasVariable S.types (variable_in o)
    by (Some (home.Variable n)) is = is
    by (Some (home.Array a)) is = tt
    by None is = absurd is

-- that local stands in it
stands_into : (f : Function) (homes : List Home) (size : ℕ) (k : List Work) → AreHomes f.locals homes size → (into : Option ℕ) → IsSlotIfAny f into →
    IsInto homes (Take into ∷ k) (variable_for homes into)
stands_into f homes size k are None slot = tt
stands_into f homes size k are (Some x) slot = by (slice_get homes x) refl (are.each x (scalar long_int) slot.local)
  where
    by : (o : Option Home) → slice_get homes x ≡ o → IsHomeOf size (scalar long_int) o → IsInto homes (Take (Some x) ∷ k) (variable_in o)
    by (Some (home.Variable n)) at is = at
    by (Some (home.Array a)) at is = absurd (is refl)
    by None at is = absurd is

-- ---- a call that begins

module _ (P : Program) (into : Option ℕ) (g : ℕ) (es : List Expression) (old begun_ : Lowering) (function : Function) (found : slice_get P.functions g ≡ Some function) (caller : CallerCode)
    (opens : OpensCall into g function es caller old begun_) (on : old.reached ≡ true) where
  abbrev passed_block : OpenBlock
  passed_block = record opens.passed { steps = suc opens.passed.steps }

  abbrev stepped : Lowering
  stepped = record old { block = passed_block }

  stepped_sounds : (size : ℕ) → IsSound size old.block → IsSound size passed_block
  stepped_sounds size sound = record {
    size = opens.passes.size ∙ sound.size;
    noted = opens.passes.noted sound.noted;
    below = opens.passes.below sound.below;
    fresh = λ idle. absurd cc;
  }

  old_stepped : Grows old stepped
  old_stepped = block_grows old stepped refl stepped_sounds on

  pub begun_good : (size : ℕ) → IsGood size old → IsGood size begun_
  begun_good size good =
      let a = (label_relabels stepped).shifts.grows.good size (old_stepped.good size good) in
      subst (IsGood size) (sym opens.new_is) (record { variables = a.variables; sound = a.sound; idle = a.idle })

  room_in : (H : Rooms) → old.rooms ≡ H.rooms → opens.room ≡ homes_in H g
  room_in H rooms = opens.room_is ∙ ap (λ rs. homes_there (slice_get rs g)) rooms

  site_is : (H : Rooms) → old.rooms ≡ H.rooms → begun_.site ≡ site_in H g
  site_is H rooms = ap (λ (z : Lowering). z.site) opens.new_is ∙ ap (λ rs. site_there (slice_get rs g)) rooms

  -- types

  module _ (S : Typing) (w size : ℕ) (seated : IsSeatedTyping P S size old) (fits : Fits S old.homes) (good : IsGood size old)
      (is : IsKeptCall S.program S.function into g es) (called : Contains (calls_of S.function.body) g) (now : IsTypedNow S w old) where
    pub at_function : slice_get S.program.functions g ≡ Some function
    at_function = ap (λ (z : Program). slice_get z.functions g) seated.program ∙ found

    calls_it : IsCalled S.program.functions seated.number g
    calls_it = record { code = S.function; found = seated.found; called = called }

    runs_function : Runs S.program seated.root g
    runs_function = runs_callee S.program seated.root seated.number g seated.runs calls_it

    abbrev there : Typing
    there = record S { function = function }

    seats_fit : Fits there begun_.homes
    seats_fit =
        subst (Fits there) (sym (ap (λ (z : Lowering). z.homes) opens.new_is ∙ room_in seated.housing seated.rooms)) (seated.fits g function at_function runs_function)

    pub typed_begun : IsTypedNow there (w + arguments_weight es + 1) begun_
    typed_begun =
        let room = subst (Fits there) (ap (λ (z : Lowering). z.homes) opens.new_is) seats_fit in
        let open_ = opens.works.typed S fits (is.call.passed, λ x l at. room.locals x l at) now.block in
        let more : IsTypedNow S (w + arguments_weight es + 1) stepped =
        open_more S w (w + arguments_weight es + 1) old stepped refl (omega arith) (record { operations = open_.operations; few = open_.few; current = open_.current })
        (let c = opens.works.count in omega (arith, c)) (let k = opens.passes.steps in let f = now.steps in omega (arith, k, f)) now in
        subst (IsTypedNow there (w + arguments_weight es + 1)) (sym opens.new_is)
        (record { block = more.block; idle = more.idle; size = more.size; steps = more.steps; stages = more.stages })

    word_typed : HasWord S.types begun_.back
    word_typed = subst (HasWord S.types) (sym (ap (λ (z : Lowering). z.back) opens.new_is)) (variable_typed S old.homes fits into is.slot)

    pub suits_there : SuitsTyping P there size function.body begun_
    suits_there = record {
      seated = record {
        root = seated.root;
        housing = seated.housing;
        housed = seated.housed;
        program = seated.program;
        resolved = seated.resolved;
        number = g;
        found = at_function;
        runs = runs_function;
        rooms = ap (λ (z : Lowering). z.rooms) opens.new_is ∙ seated.rooms;
        fits = seated.fits;
        words = seated.words;
        back = word_typed;
        objects = subst (AreObjects S.program) (sym (ap (λ (z : Lowering). z.objects) opens.new_is)) seated.objects;
      };
      fits = seats_fit;
      words = seated.words g function at_function;
      good = begun_good size good;
      around = nowhere;
      resolved = (is_function S.program S.program.functions g function seated.resolved.functions at_function).body;
      sites = subst (HasSites S.program function.body) (sym (site_is seated.housing seated.rooms)) (seated.housed.sites g function at_function);
      calls = λ h c. c;
    }

-- ---- a call

module _ (P : Program) (into : Option ℕ) (g : ℕ) (es : List Expression) (old new : Lowering) (call : Calls P into g es old new) (on : old.reached ≡ true) where
  lead : Leads P None call.function.body call.begun call.done
  lead = call.lowers

  abbrev passed_block_ : OpenBlock
  passed_block_ = record call.opens.passed { steps = suc call.opens.passed.steps }

  abbrev stepped_ : Lowering
  stepped_ = record old { block = passed_block_ }

  -- where the code of the function ends
  abbrev back_in : Lowering
  back_in = record call.closes.closed { homes = call.caller.homes; back = call.caller.back; site = call.caller.site }

  begun_whole : (W : Whole) → IsIn W call.begun → IsIn W old
  begun_whole W whole =
      (old_stepped P into g es old call.begun call.function call.found call.caller call.opens on).whole W
      ((label_relabels stepped_).shifts.grows.whole W (subst (IsIn W) call.opens.new_is whole))

  good_begun : (size : ℕ) → IsGood size old → IsGood size call.begun
  good_begun size good = begun_good P into g es old call.begun call.function call.found call.caller call.opens on size good

  done_closed : Shifts call.done call.closes.closed
  done_closed = closes_shifts call.done call.closes.closed call.closes.closes

  back_new : Shifts back_in new
  back_new = begins_shifts call.caller.label back_in new call.closes.begins

  done_good : (size : ℕ) → IsGood size old → IsGood size call.done
  done_good size good = lead.grows.good size (good_begun size good)

  back_good : (size : ℕ) → IsGood size old → IsGood size back_in
  back_good size good = let a = done_closed.grows.good size (done_good size good) in record { variables = a.variables; sound = a.sound; idle = a.idle }

  closed_whole : (W : Whole) → IsIn W new → IsIn W call.closes.closed
  closed_whole W whole = back_new.grows.whole W whole

  pub calls_grows : Grows old new
  calls_grows = record {
    homes = back_new.grows.homes ∙ ap (λ (z : CallerCode). z.homes) call.opens.caller_is;
    back = back_new.grows.back ∙ ap (λ (z : CallerCode). z.back) call.opens.caller_is;
    rooms = back_new.grows.rooms ∙ done_closed.grows.rooms ∙ lead.grows.rooms ∙ ap (λ (z : Lowering). z.rooms) call.opens.new_is;
    variables = back_new.grows.variables ∙ done_closed.grows.variables ∙ lead.grows.variables ∙ ap (λ (z : Lowering). z.variables) call.opens.new_is;
    arrays = back_new.grows.arrays ∙ done_closed.grows.arrays ∙ lead.grows.arrays ∙ ap (λ (z : Lowering). z.arrays) call.opens.new_is;
    objects = back_new.grows.objects ∙ done_closed.grows.objects ∙ lead.grows.objects ∙ ap (λ (z : Lowering). z.objects) call.opens.new_is;
    words = back_new.grows.words ∙ done_closed.grows.words ∙ lead.grows.words ∙ ap (λ (z : Lowering). z.act_operands) call.opens.new_is;
    good = λ size good. back_new.grows.good size (back_good size good);
    whole = λ W whole. begun_whole W (lead.grows.whole W (done_closed.grows.whole W (closed_whole W whole)));
    used = λ label is.
        back_new.grows.used label
        (done_closed.grows.used label
        (lead.grows.used label
        (ap (λ (z : Lowering). is_used z.stages.used label) call.opens.new_is ∙ (label_relabels stepped_).shifts.grows.used label is)));
  }

  pub calls_site : new.site ≡ old.site
  calls_site = back_new.site ∙ ap (λ (z : CallerCode). z.site) call.opens.caller_is

  pub calls_reached : new.reached ≡ true
  calls_reached = begun_reached call.caller.label back_in new call.closes.begins

  pub calls_idle : (size : ℕ) → IsGood size old → new.block.steps ≡ 0
  calls_idle size good = begun_idle call.caller.label size back_in new (back_good size good) call.closes.begins

  -- types

  module _ (S : Typing) (w size : ℕ) (seated : IsSeatedTyping P S size old) (fits : Fits S old.homes) (good : IsGood size old)
      (is : IsKeptCall S.program S.function into g es) (called : Contains (calls_of S.function.body) g) (now : IsTypedNow S w old) where
    pub calls_typed : IsTypedNow S (w + (arguments_weight es + function_weight S.program.functions g)) new
    calls_typed =
        let total = w + arguments_weight es + 1 + inlined_weight S.program call.function.body in
        let at = at_function P into g es old call.begun call.function call.found call.caller call.opens on S w size seated fits good is called now in
        let at_done =
        lead.typed (record S { function = call.function }) (w + arguments_weight es + 1) size
        (suits_there P into g es old call.begun call.function call.found call.caller call.opens on S w size seated fits good is called now)
        (typed_begun P into g es old call.begun call.function call.found call.caller call.opens on S w size seated fits good is called now) in
        let at_closed = done_closed.typed S total size (done_good size good) (record { block = at_done.block; idle = at_done.idle; size = at_done.size; steps = at_done.steps; stages = at_done.stages }) in
        let at_new = back_new.typed S total size (back_good size good) (record { block = at_closed.block; idle = at_closed.idle; size = at_closed.size; steps = at_closed.steps; stages = at_closed.stages }) in
        let weighs = body_weighs S.program g call.function seated.resolved.acyclic at in
        now_more S total (w + (arguments_weight es + function_weight S.program.functions g)) new (omega (arith, weighs)) at_new

  -- where the thread goes on

  module _ (W : Whole) (homes : List Home) (size n offset : ℕ) (k : List Work) (seated : IsSeated P W homes size old) (homes_are : old.homes ≡ homes) (good : IsGood size old)
      (locals : AreHomes W.setting.function.locals homes size) (is_call : IsKeptCall W.setting.program W.setting.function into g es) (calls : Contains (calls_of W.setting.function.body) g)
      (whole : IsIn W new) (after : (j : ℕ) → j ≤ n → GoesOn W homes nothing_kept j new (settled Onward k)) where
    abbrev Q : Program
    Q = W.setting.program

    abbrev statement : Statement
    statement = Statement.Call offset into g es

    found : slice_get Q.functions g ≡ Some call.function
    found = ap (λ (z : Program). slice_get z.functions g) seated.program ∙ call.found

    same_function : is_call.call.code ≡ call.function
    same_function = let both : Some is_call.call.code ≡ Some call.function = sym is_call.call.found ∙ found in cc

    runs : Runs Q seated.root g
    runs = runs_callee Q seated.root W.setting.number g seated.runs (record { code = W.setting.function; found = seated.found; called = calls })

    is : IsFunction Q call.function
    is = is_function Q Q.functions g call.function seated.resolved.functions found

    room_is : call.opens.room ≡ homes_in seated.housing g
    room_is = room_in P into g es old call.begun call.function call.found call.caller call.opens on seated.housing seated.rooms

    abbrev seats : List Home
    seats = homes_in seated.housing g

    falls : seated.resolved.acyclic.rank g < seated.resolved.acyclic.rank W.setting.number
    falls = seated.resolved.acyclic.falls W.setting.number g (record { code = W.setting.function; found = seated.found; called = calls })

    abbrev waits : Caller
    waits = record { number = W.setting.number; function = W.setting.function; homes = homes; work = Take into ∷ k; stage = W.stage_of call.caller.label }

    abbrev below : Setting
    below = in_call W.setting g call.function (waits ∷ W.setting.callers)

    abbrev V : Whole
    V = record W { setting = below }

    waiting : AreWaiting Q seated.root seated.housing seated.resolved.acyclic.rank g (waits ∷ W.setting.callers)
    waiting = (record { found = seated.found; runs = seated.runs; homes = seated.homes_are; above = falls }, seated.waiting)

    begun_seated : IsSeated P V seats size call.begun
    begun_seated = record {
      root = seated.root;
      housing = seated.housing;
      housed = seated.housed;
      program = seated.program;
      resolved = seated.resolved;
      found = found;
      runs = runs;
      homes_are = refl;
      size_is = seated.size_is;
      word = seated.word;
      rooms = ap (λ (z : Lowering). z.rooms) call.opens.new_is ∙ seated.rooms;
      waiting = waiting;
      back = subst (LeadsBack V) (sym (ap (λ (z : Lowering). z.back) call.opens.new_is))
          (record {
            caller = waits;
            rest = W.setting.callers;
            callers = refl;
            stage = refl;
            returns = refl;
            into = subst (λ hs. IsInto homes (Take into ∷ k) (variable_for hs into)) (sym homes_are) (stands_into W.setting.function homes size k locals into is_call.slot);
          });
      objects = subst (AreObjects Q) (sym (ap (λ (z : Lowering). z.objects) call.opens.new_is)) seated.objects;
    }

    seat_homes : AreHomes call.function.locals seats size
    seat_homes = subst (AreHomes call.function.locals seats) (sym seated.size_is) (seated.housed.homes g call.function runs found)

    begun_suits : Suits P V seats size call.function.body call.begun
    begun_suits = record {
      seated = begun_seated;
      homes_ = ap (λ (z : Lowering). z.homes) call.opens.new_is ∙ room_is;
      good = good_begun size good;
      locals = seat_homes;
      around = nowhere;
      resolved = is.body;
      sites = subst (HasSites Q call.function.body) (sym (site_is P into g es old call.begun call.function call.found call.caller call.opens on seated.housing seated.rooms))
          (seated.housed.sites g call.function found);
      calls = λ h c. c;
    }

    whole_closed : IsIn V call.closes.closed
    whole_closed = closed_whole W whole

    done_seated : IsSeated P V seats size call.done
    done_seated = seat_on P V seats size call.begun call.done lead.grows.back lead.grows.rooms lead.grows.objects begun_seated

    body_goes : OnwardUpTo V seats n call.begun (settled Onward (Do call.function.body ∷ []))
    body_goes =
        lead.leads V seats size n [] begun_suits (done_closed.grows.whole V whole_closed) tt
        (closes_goes P V seats size n call.done call.closes.closed call.closes.closes (done_good size good) done_seated whole_closed)

    -- before the labels and the homes of the function
    stepped_goes : (j : ℕ) → j ≤ n → GoesOn V seats nothing_kept j stepped_ (settled Onward (Do call.function.body ∷ []))
    stepped_goes j le =
        let here = subst (λ (z : Lowering). GoesOn V seats nothing_kept j z (settled Onward (Do call.function.body ∷ []))) call.opens.new_is
        (body_goes (ap (λ (z : Lowering). z.reached) call.opens.new_is ∙ on) j le) in
        goes_before_label V seats nothing_kept j stepped_ (with_label stepped_) (settled Onward (Do call.function.body ∷ [])) refl (record { fresh = here.fresh; busy = here.busy; here = here.here })

    module _ (variables : ℕ → ℤ) (r : Running) (f : Frame) (fs : List Frame) (globals : List (List ℤ)) (mid : IsMid W.setting homes nothing_kept old.block variables r f fs globals)
        (here : Passes homes seats call.function.locals es old.block call.opens.passed) where
      abbrev seen : Memory
      seen = record { locals = f.locals; globals = globals }

      abbrev ran : Running
      ran = operations_run variables here.operations r

      abbrev held : ℕ → ℤ
      held = held_by call.opens.passed.current variables ran.values

      ready : IsReady homes seats (length old.block.current)
      ready = record {
        spare = λ x y m at there_.
            let same : W.setting.number ≡ g = seated.housed.variables_apart W.setting.number g x y m (subst (λ hs. slice_get hs x ≡ Some (home.Variable m)) seated.homes_are at) there_ in
            let equal = ap seated.resolved.acyclic.rank same in
            let less = falls in
            omega (arith, equal, less);
        apart = seat_homes.variables;
        within = λ y m at. inside y m at;
      }
        where
          inside : (y m : ℕ) → slice_get seats y ≡ Some (home.Variable m) → m < length old.block.current
          inside y m at =
              let l = local_there Q seated.root seated.housing seated.housed g call.function runs found y (home.Variable m) at in
              let fit = subst (IsHomeOf size l.0) at (seat_homes.each y l.0 l.1) in
              let long = good.sound.size in
              let lt = fit.1 in
              omega (arith, lt, long)

      counted : length es ≤ length call.function.locals
      counted = let many = is_call.call.count in let same = ap (λ (z : Function). z.parameters) same_function in let few = is.parameters in let more = is.declared_ in omega (arith, many, same, few, more)

      scalars : (vs : List ℤ) → length vs ≡ length es → AreScalars (length vs) call.function.locals
      scalars vs long k l lt at =
          is.scalars k l (let many = is_call.call.count in let same = ap (λ (z : Function). z.parameters) same_function in omega (arith, lt, long, many, same)) at

      homed : HaveHomes homes (length old.block.current) f.locals
      homed =
          homes_more homes size (length old.block.current) f.locals (let long = good.sound.size in omega arith)
          (have_homes W.setting.function.locals homes size f.locals locals mid.shape)

      module _ (vs : List ℤ) (ls : List Location) (gives : values es seen ≡ Gives vs ls) where
        done : Passed homes seats call.function.locals old.block.current call.opens.passed.current variables seen r ran vs ls
        done =
            here.does variables r seen vs ls good.sound.below mid.values homed ready
            (let a = counted in let b = seated.housed.count g call.function runs found in omega (arith, a, b)) counted mid.holds gives

        abbrev inner : Frame
        inner = begun call.function g vs

        abbrev outer : Frame
        outer = record f { work = Take into ∷ k; kept = [] }

        no_array : (x : ℕ) (l : LocalVariable) → slice_get call.function.locals x ≡ Some l → l.length ≡ 1 → (a : ℕ) → slice_get seats x ≡ Some (home.Array a) → ⊥
        no_array x l at one a e = subst (IsHomeOf size l) e (seat_homes.each x l at) one

        begins_mid : IsMid below seats nothing_kept passed_block_ variables ran inner (outer ∷ fs) globals
        begins_mid = record {
          number = refl;
          shape = shape_passed call.function.locals vs (scalars vs (values_length es seen vs ls gives));
          values = (let l = run_length variables here.operations r in let e = ap length here.added ∙ length-append old.block.operations here.operations in let v = mid.values in
              omega (arith, l, e, v));
          holds = record {
            locals = λ x j v e.
                sym (home_local call.opens.passed.current variables ran x j (slice_get seats x))
                ∙ locals_passed size held ran.arrays call.function.locals seats vs (scalars vs (values_length es seen vs ls gives)) seat_homes.each no_array done.passed x j v e;
            globals = λ x j v e. ap (λ cells. cells x j) done.reads.globals ∙ mid.holds.globals x j v e;
          };
          kept = tt;
          callers = (
            record {
              number = mid.number;
              work = refl;
              shape = mid.shape;
              locals = λ x j v e. home_local call.opens.passed.current variables ran x j (slice_get homes x) ∙ done.holds.locals x j v e;
            },
            callers_kept Q seated.root seated.housing seated.housed seated.resolved.acyclic.rank g (held_by old.block.current variables r.values) held r.arrays ran.arrays
                (done.spares (length seated.housing.variables)) W.setting.callers fs
                (all_waiting Q seated.root seated.housing seated.resolved.acyclic.rank g (waits ∷ W.setting.callers) waiting).1 mid.callers,
          );
        }

    begins_goes : (here : Passes homes seats call.function.locals es old.block call.opens.passed) →
        Goes W.setting homes below seats nothing_kept nothing_kept old.block passed_block_ here.operations (Do statement ∷ k) (settled Onward (Do call.function.body ∷ []))
    begins_goes here variables r f fs globals is_work mid Cont then_ =
        subst (λ w. AfterMove (work_move Q seen_ f fs w) globals Cont) (sym is_work)
        (by (values es seen_) refl)
      where
        seen_ : Memory
        seen_ = record { locals = f.locals; globals = globals }

        by : (E : Evaluation (List ℤ)) → values es seen_ ≡ E → AfterMove (moving offset E (λ vs reads. entered (slice_get Q.functions g) g vs reads f fs (Take into ∷ k))) globals Cont
        by (Fails cause) e = tt
        by (Gives vs ls) e =
            subst (λ o. AfterMove (entered o g vs ls f fs (Take into ∷ k)) globals Cont) (sym found)
            (then_ (begun call.function g vs) (record f { work = Take into ∷ k; kept = [] } ∷ fs) globals (reads_of ls ++ []) refl (begins_mid variables r f fs globals mid here vs ls e)
            ((done variables r f fs globals mid here vs ls e).reads.accesses ∙ ap (λ l. r.accesses ++ l) (sym (append-nil (reads_of ls)))))

    pub calls_go : OnwardUpTo W homes n old (Do statement ∷ k)
    calls_go reached j le =
        let here = subst (λ room. Passes homes room call.function.locals es old.block call.opens.passed) room_is
        (subst (λ hs. Passes hs call.opens.room call.function.locals es old.block call.opens.passed) homes_are call.opens.passes) in
        call_step_goes W homes g call.function (waits ∷ W.setting.callers) seats size j nothing_kept nothing_kept old stepped_ here.operations (Do statement ∷ k)
        (settled Onward (Do call.function.body ∷ [])) refl here.added (ap suc here.steps) (begins_goes here)
        (λ i lt resume. (
          λ m less.
              begin_at W homes m (settled Onward k) nothing_kept call.caller.label back_in new (calls_idle size good) call.closes.begins (after m (omega arith))
              (resume_less W.setting.program W.setting.stages W.setting.word W.setting.callers m i less resume),
          resume,
        ))
        good (stepped_goes j le)

-- ---- the statement

pub call_lowers : (P : Program) (around : Option Loop) (s : Statement) (offset : ℕ) (into : Option ℕ) (g : ℕ) (es : List Expression) (old new : Lowering) → old.reached ≡ true →
    s ≡ Statement.Call offset into g es → Calls P into g es old new → Leads P around s old new
call_lowers P around s offset into g es old new on is call = rw is (record {
  grows = calls_grows P into g es old new call on;
  site = (let e = calls_site P into g es old new call on in omega (arith, e));
  typed = λ S w size suits now.
      let least = arguments_least into es in
      now_more S (w + (arguments_weight es + function_weight S.program.functions g)) (w + inlined_weight S.program (Statement.Call offset into g es)) new (omega (arith, least))
      (calls_typed P into g es old new call on S w size suits.seated suits.fits suits.good suits.resolved (suits.calls g (Contains-push [] g)) now);
  leads = λ W homes size n k suits whole out after.
      calls_go P into g es old new call on W homes size n offset k suits.seated suits.homes_ suits.good suits.locals suits.resolved (suits.calls g (Contains-push [] g)) whole
      (after (calls_reached P into g es old new call on));
})
