-- The code of a thread function does its steps, and is typed.
use Rattle.std.proofs.Common.{◌≡◌, ℕ, zero, suc, ◌+◌, ◌<◌, ◌≤◌, List, [], ◌∷◌, ◌++◌, length, map, replicate, Option, Some, None, refl, sym, ap, ◌∙◌, subst}
use Rattle.std.proofs.Common.{◌≢◌, ℤ, if◌then◌else◌, arith, append-nil, length-append, eq-eqb, ⊎_elim, inl}
use Rattle.std.specs.List.{AllByRecursion}
use Rattle.std.proofs.lemmas.Bool.Decides.{eqb_tells}
use Rattle.std.specs.Prelude.{slice_get, slice_index, string_bytes, Contains, ◌⊎◌}
use Rattle.std.proofs.lemmas.List.{length-map, length-replicate}
use Rattle.lists.proofs.Places.{get_front, copies_there, get_mapped}
use Rattle.hls_ints.specs.Types.{IntegerType, long_int, wrapped}
use Rattle.code_blocks.specs.Passing.{IsPassed, ArePassed}
use Rattle.block_ir.specs.Run.{Cells}
use Rattle.c_program.specs.declared.tree.LocalVariable.{LocalVariable}
use Rattle.c_program.specs.declared.tree.Function.{Function as FunctionTree}
use Rattle.c_program.specs.declared.tree.Program.{Program as ProgramTree}
use Rattle.c_program.specs.Plain.{function_of, program_of, statement_of}
use Rattle.c_program.specs.Tree.{Statement, Function, Program}
use Rattle.c_program.specs.Weight.{thread_functions, weight}
use Rattle.c_program.specs.Resolved.{scalar, IsFunction, IsStartRoutine, IsResolved, nowhere}
use Rattle.thread_semantics.specs.State.{fresh_locals, begun, started}
use Rattle.thread_semantics.specs.Work.{Do, Onward, settled}
use Rattle.block_ir.specs.declared.code.Stage.{Stage}
use Rattle.block_ir.specs.declared.code.ThreadCode.{ThreadCode}
use Rattle.code_following.specs.Following.{HasArguments, Follows, IsLowered}
use Rattle.code_blocks.specs.declared.homes.Home.{Home}
use Rattle.code_blocks.specs.declared.homes.Home.TheVariants as home
use Rattle.code_places.specs.Resuming.{HasShape, HoldLocals, nothing_kept}
use Rattle.code_storage.specs.Formats.{HasSites}
use Rattle.code_places.specs.Labels.{led_stage, led}
use Rattle.code_places.specs.Apart.{idle_now, room, IsTypedNow, IsGood}
use Rattle.code_places.specs.Control.{Whole, IsIn, AtLabel}
use Rattle.code_places.specs.Seats.{LeadsBack, IsSeated, HasWord}
use Rattle.code_places.specs.Doing.{Grows, Shifts, OnwardUpTo, Suits, SuitsTyping, Leads}
use Rattle.ir_lower.specs.Codes.{variable_of, IsCodeOf}
use Rattle.code_storage.specs.declared.rooms.Rooms.{Rooms}
use Rattle.code_storage.specs.Housing.{IsHomeOf, homes_in, Runs, types_in, IsHousing}
use Rattle.code_storage.specs.Objects.{AreObjects}
use Rattle.code_storage.specs.Values.{most_values, all_values}
use Rattle.code_storage.proofs.Reached.{is_function}
use Rattle.code_places.specs.Weighing.{inlined_weight}
use Rattle.code_following.specs.Idle.{idle_count}
use Rattle.code_following.specs.Typed.{types_of, most_operations, IsTypedStage, BeginsWith, IsNameIfAny, IsTypedCode, IsThreadCode}
use Rattle.code_following.proofs.Arguments.{none_given, none_named}
use Rattle.code_blocks.specs.Typing.{Typing, IsTypedHome, Fits, HasWords}
use Rattle.code_places.proofs.TypedGrowth.{stage_more, fresh_typed, words_less}
use Rattle.code_places.proofs.ResumedPlaces.{fresh_sound}
use Rattle.code_places.proofs.LabelTargets.{led_length, begin_at, begun_idle}
use Rattle.code_places.proofs.CodeGrowth.{grows_both, shifts_both, begins_shifts, begun_reached}
use Rattle.code_places.proofs.KeptLocals.{seat_on}
use Rattle.code_calls.proofs.ReturnCode.{closes_shifts, closes_goes}
use Rattle.code_calls.proofs.Callees.{AreScalars, shape_passed, locals_passed}
use Rattle.code_places.proofs.InlinedWeight.{body_weighs}
use Rattle.code_places.proofs.Shapes.{shape_fresh, nothing_written}
use Rattle.code_blocks.proofs.Arguments.{passed_none}
use Rattle.code_places.proofs.LedComparisons.{led_count}
use Rattle.ir_lower.proofs.OpenProgram.{ended_ahead}
use Rattle.ir_lower.proofs.Roots.{thread_function, function_weighs}

pub get_none : {A B : Type 0} (g : A → B) (xs : List A) (n : ℕ) → slice_get xs n ≡ None → slice_get (map g xs) n ≡ None
get_none g [] n at = refl
get_none g (y ∷ ys) zero at = cc
get_none g (y ∷ ys) (suc n) at = get_none g ys n at

pub values_among : (fs : List Function) (g : ℕ) (f : Function) → slice_get fs g ≡ Some f → most_values f.body ≤ all_values fs
values_among [] g f at = absurd cc
values_among (d ∷ fs) zero f at = subst (λ (z : Function). most_values z.body ≤ all_values (d ∷ fs)) (let same : d ≡ f = cc in same) (omega arith)
values_among (d ∷ fs) (suc g) f at = let rest = values_among fs g f at in omega arith

pub word_at : (xs : List IntegerType) (count j n : ℕ) → n ≡ length xs + j → j < count → slice_get (xs ++ replicate count long_int) n ≡ Some long_int
word_at [] count j n e lt = ap (slice_get (replicate count long_int)) (let same : n ≡ j = omega arith in same) ∙ copies_there count long_int j lt
word_at (x ∷ xs) count j zero e lt = absurd (omega arith)
word_at (x ∷ xs) count j (suc n) e lt = word_at xs count j n (omega arith) lt

-- a stage of the whole is one of those that led to labels
led_at : (stage_of : ℕ → ℕ) (xs : List Stage) (l : ℕ) (s : Stage) → slice_get (led stage_of xs) l ≡ Some s → (x : Stage) × (slice_get xs l ≡ Some x) × (s ≡ led_stage stage_of x)
led_at stage_of [] l s e = absurd cc
led_at stage_of (x ∷ xs) zero s e = (x, refl, let same : s ≡ led_stage stage_of x = cc in same)
led_at stage_of (x ∷ xs) (suc l) s e = led_at stage_of xs l s e

-- names of locals, and none
name_there : (names : List (List ℕ)) (n x : ℕ) (name : List ℕ) → AllByRecursion IsNameIfAny names → slice_get (names ++ replicate n []) x ≡ Some name → IsNameIfAny name
name_there [] n x name all e = none_named n x name e
name_there (given ∷ names) n zero name all e = subst IsNameIfAny (let same : given ≡ name = cc in same) all.0
name_there (given ∷ names) n (suc x) name all e = name_there names n x name all.1 e

-- ---- the argument of a start routine

-- its parameter stands in a variable
parameter_home : (size : ℕ) (o : Option Home) → IsHomeOf size (scalar long_int) o → (n : ℕ) × (o ≡ Some (home.Variable n))
parameter_home size None is = absurd is
parameter_home size (Some (home.Variable n)) is = (n, refl)
parameter_home size (Some (home.Array a)) is = absurd (is refl)

parameter_passed : (variables : ℕ → ℤ) (room : List Home) (locals : List LocalVariable) (n : ℕ) (v : ℤ) → slice_get locals 0 ≡ Some (scalar long_int) →
    slice_get room 0 ≡ Some (home.Variable n) → variables n ≡ wrapped long_int v → ArePassed variables room locals (v ∷ [])
parameter_passed variables [] locals n v at homed has = tt
parameter_passed variables (h ∷ room) [] n v at homed has = tt
parameter_passed variables (h ∷ room) (l ∷ ls) n v at homed has =
    let here : h ≡ home.Variable n = cc in
    let is : l ≡ scalar long_int = cc in (
      subst (λ z. IsPassed variables z (wrapped l.ty v)) (sym here) (has ∙ ap (λ (z : LocalVariable). wrapped z.ty v) (sym is)),
      passed_none variables room ls,
    )

-- what a thread begins with stands in the homes of the locals
pub record Begins (locals : List LocalVariable) (room : List Home) (variables : ℕ → ℤ) (arrays : Cells) (arguments : List ℤ) : Type 0 where
  pub shape : HasShape locals (fresh_locals locals arguments)
  pub holds : HoldLocals room variables arrays (fresh_locals locals arguments)

begins_alone : (locals : List LocalVariable) (room : List Home) (variables : ℕ → ℤ) (arrays : Cells) (arguments : List ℤ) → arguments ≡ [] → Begins locals room variables arrays arguments
begins_alone locals room variables arrays arguments none =
    subst (Begins locals room variables arrays) (sym none)
    (record { shape = shape_fresh locals; holds = λ x j v e. absurd (nothing_written locals x j v e) })

module _ (size : ℕ) (locals : List LocalVariable) (room : List Home) (homed : (x : ℕ) (l : LocalVariable) → slice_get locals x ≡ Some l → IsHomeOf size l (slice_get room x))
    (parameter : slice_get locals 0 ≡ Some (scalar long_int)) (n : ℕ) (there : slice_get room 0 ≡ Some (home.Variable n)) where
  one_scalar : AreScalars 1 locals
  one_scalar zero l lt at = let same : l ≡ scalar long_int = (let both : Some l ≡ Some (scalar long_int) = sym at ∙ parameter in cc) in ap (λ (z : LocalVariable). z.length) same
  one_scalar (suc k) l lt at = absurd (omega arith)

  begins_given : (variables : ℕ → ℤ) (arrays : Cells) (arguments : List ℤ) → HasArguments (Some n) variables arguments → Begins locals room variables arrays arguments
  begins_given variables arrays [] has = absurd has
  begins_given variables arrays (v ∷ []) has = record {
    shape = shape_passed locals (v ∷ []) one_scalar;
    holds =
        locals_passed size variables arrays locals room (v ∷ []) one_scalar homed
        (λ x l at one a e. subst (IsHomeOf size l) e (homed x l at) one) (parameter_passed variables room locals n v parameter there has);
  }
  begins_given variables arrays (v ∷ (w ∷ ws)) has = absurd has

module _ (p : ProgramTree) (r : ℕ) (code : ThreadCode) (made : IsCodeOf p r code) where
  abbrev P : Program
  P = program_of p

  abbrev f : FunctionTree
  f = made.function

  abbrev body : Statement
  body = statement_of f.body

  abbrev H : Rooms
  H = made.housing

  abbrev homes : List Home
  homes = homes_in H r

  abbrev size : ℕ
  size = length H.variables

  found : slice_get P.functions r ≡ Some (function_of f)
  found = get_mapped function_of p.functions.items r f made.at

  leads : Leads P None body made.begun made.lowered
  leads = made.lowers

  first_begun : Shifts made.first made.begun
  first_begun =
      shifts_both made.first made.starts.labelled made.begun made.starts.relabels.shifts (begins_shifts made.start made.starts.labelled made.begun made.starts.begins)

  good_first : IsGood size made.first
  good_first = record {
    variables = ap length made.is_new.variables;
    sound = fresh_sound size made.first.block made.is_new.block;
    idle = λ off. made.is_new.block.steps;
  }

  ended : Shifts made.lowered made.ended
  ended = closes_shifts made.lowered made.ended made.closes

  first_ended : Grows made.first made.ended
  first_ended = grows_both made.first made.lowered made.ended (grows_both made.first made.begun made.lowered first_begun.grows leads.grows) ended.grows

  abbrev stage_of : ℕ → ℕ
  stage_of = slice_index made.finished.finishes.table

  abbrev W : Whole
  W = record { setting = record { program = P; number = r; function = function_of f; callers = []; word = size; stages = code.stages }; stage_of = stage_of }

  whole : IsIn W made.ended
  whole = record {
    part = record { more = []; is = made.finished.finishes.stages ∙ sym (append-nil (led stage_of made.ended.stages.stages.items)) };
    obeys = made.finished.finishes.labels;
  }

  good_lowered : IsGood size made.lowered
  good_lowered = leads.grows.good size (first_begun.grows.good size good_first)

  module _ (resolved : IsResolved P) (among : Contains (thread_functions P) r) where
    is : IsFunction P (function_of f)
    is = is_function P P.functions r (function_of f) resolved.functions found

    housed : IsHousing P r H
    housed = made.housed resolved

    runs : Runs P r r
    runs = inl refl

    kind : (r ≡ P.main) ⊎ ((r ≢ P.main) × IsStartRoutine (function_of f))
    kind =
        let t = thread_function P resolved r among in
        let same : t.function ≡ function_of f = (let both : Some t.function ≡ Some (function_of f) = sym t.found ∙ found in cc) in
        subst (λ z. (r ≡ P.main) ⊎ ((r ≢ P.main) × IsStartRoutine z)) same t.kind

    begun_sites : HasSites P body made.begun.site
    begun_sites = subst (HasSites P body) (sym (first_begun.site ∙ made.is_new.site)) (housed.sites r (function_of f) found)

    seated : IsSeated P W homes size made.begun
    seated = record {
      root = r;
      housing = H;
      housed = housed;
      program = refl;
      resolved = resolved;
      found = found;
      runs = runs;
      homes_are = refl;
      size_is = refl;
      word = refl;
      rooms = first_begun.grows.rooms ∙ made.is_new.rooms;
      waiting = tt;
      back = subst (LeadsBack W) (sym (first_begun.grows.back ∙ made.is_new.back)) refl;
      objects = subst (AreObjects P) (sym first_begun.grows.objects) made.is_new.objects;
    }

    suits : Suits P W homes size body made.begun
    suits = record {
      seated = seated;
      homes_ = first_begun.grows.homes ∙ made.is_new.homes;
      good = first_begun.grows.good size good_first;
      locals = housed.homes r (function_of f) runs found;
      around = nowhere;
      resolved = is.body;
      sites = begun_sites;
      calls = λ g c. c;
    }

    -- the closing brace
    after : (n : ℕ) → OnwardUpTo W homes n made.lowered []
    after n =
        closes_goes P W homes size n made.lowered made.ended made.closes good_lowered
        (seat_on P W homes size made.begun made.lowered leads.grows.back leads.grows.rooms leads.grows.objects seated) whole

    begins : (n : ℕ) → AtLabel W homes n made.start (settled Onward (Do body ∷ []))
    begins n =
        let reached = begun_reached made.start made.starts.labelled made.begun made.starts.begins in
        let idle = begun_idle made.start size made.starts.labelled made.begun (made.starts.relabels.shifts.grows.good size good_first) made.starts.begins in
        begin_at W homes n (settled Onward (Do body ∷ [])) nothing_kept made.start made.starts.labelled made.begun idle made.starts.begins
        (leads.leads W homes size n [] suits (ended.grows.whole W whole) tt (after n) reached n (omega arith))

    -- the argument

    main_none : r ≡ P.main → code.argument ≡ None
    main_none same = made.finished.argument_ ∙ ap (λ b. if b then None else variable_of (slice_get homes 0)) (eq-eqb r P.main same)

    routine_some : r ≢ P.main → (n : ℕ) → slice_get homes 0 ≡ Some (home.Variable n) → code.argument ≡ Some n
    routine_some apart n there =
        made.finished.argument_
        ∙ ap (λ b. if b then None else variable_of (slice_get homes 0)) (⊎_elim (λ t. absurd (apart t.1)) (λ t. t.0) (eqb_tells r P.main))
        ∙ ap variable_of there

    parameter_at : IsStartRoutine (function_of f) → (n : ℕ) × (slice_get homes 0 ≡ Some (home.Variable n))
    parameter_at start =
        parameter_home size (slice_get homes 0) ((housed.homes r (function_of f) runs found).each 0 (scalar long_int) start.parameter)

    given : (variables : ℕ → ℤ) (arrays : Cells) (arguments : List ℤ) → HasArguments code.argument variables arguments → Begins f.locals.items homes variables arrays arguments
    given variables arrays arguments has =
        ⊎_elim (λ same. begins_alone f.locals.items homes variables arrays arguments (none_given code.argument variables arguments (main_none same) has))
        (λ other.
        let there = parameter_at other.1 in
        begins_given size f.locals.items homes (housed.homes r (function_of f) runs found).each other.1.parameter there.0 there.1 variables arrays arguments
        (subst (λ o. HasArguments o variables arguments) (routine_some other.0 there.0 there.1) has))
        kind

    pub lowered_at : IsLowered P r code
    lowered_at = λ n variables arrays arguments has.
        let b = given variables arrays arguments has in
        subst (λ o. Follows P code.stages n 0 variables arrays (started o r arguments)) (sym found)
        (subst (λ l. Follows P code.stages n l variables arrays (begun (function_of f) r arguments ∷ [])) made.finished.finishes.first
        (begins n tt variables arrays (begun (function_of f) r arguments) [] refl
        (record { number = refl; shape = b.shape; locals = b.holds; kept = tt; callers = tt })))

    -- its types are those of the program's objects

    variables_are : code.variables ≡ H.variables ++ replicate (all_values P.functions) long_int
    variables_are =
        made.finished.variables ∙ ap (λ vs. vs ++ replicate made.ended.act_operands long_int) (first_ended.variables ∙ made.is_new.variables)
        ∙ ap (λ n. H.variables ++ replicate n long_int) (first_ended.words ∙ made.is_new.words_)

    arrays_are : code.arrays ≡ H.arrays
    arrays_are = made.finished.arrays ∙ first_ended.arrays ∙ made.is_new.arrays

    abbrev typing : Typing
    typing = record { program = P; function = function_of f; types = types_of P code }

    home_typed : (l : LocalVariable) (o : Option Home) → IsTypedHome (types_in H) l o → IsTypedHome (types_of P code) l o
    home_typed l None h = absurd h
    home_typed l (Some (home.Variable n)) h =
        ap (λ ts. slice_get ts n) variables_are ∙ get_front H.variables (replicate (all_values P.functions) long_int) n l.ty h
    home_typed l (Some (home.Array a)) h = ap (λ arrays. slice_get arrays a) arrays_are ∙ h

    fits : (g : ℕ) (d : Function) → slice_get P.functions g ≡ Some d → Runs P r g → Fits (record typing { function = d }) (homes_in H g)
    fits g d at run = record {
      locals = λ x l e. home_typed l (slice_get (homes_in H g) x) (housed.types g x d l run at e);
      globals = refl;
      lengths = refl;
    }

    words : HasWords (types_of P code) size (all_values P.functions)
    words = λ j lt. ap (λ ts. slice_get ts (size + j)) variables_are ∙ word_at H.variables (all_values P.functions) j (size + j) refl lt

    words_of : (g : ℕ) (d : Function) → slice_get P.functions g ≡ Some d → HasWords (types_of P code) size (most_values d.body)
    words_of g d at = words_less (types_of P code) size (most_values d.body) (all_values P.functions) (values_among P.functions g d at) words

    -- and 1 more for the closing brace, which adds no operation
    light : 1 + inlined_weight P body ≤ weight P
    light =
        let own = body_weighs P r (function_of f) resolved.acyclic found in
        let all = function_weighs P r among in
        omega (arith, own, all)

    suits_typing : SuitsTyping P typing size body made.begun
    suits_typing = record {
      seated = record {
        root = r;
        housing = H;
        housed = housed;
        program = refl;
        resolved = resolved;
        number = r;
        found = found;
        runs = runs;
        rooms = first_begun.grows.rooms ∙ made.is_new.rooms;
        fits = fits;
        words = words_of;
        back = subst (HasWord (types_of P code)) (sym (first_begun.grows.back ∙ made.is_new.back)) tt;
        objects = subst (AreObjects P) (sym first_begun.grows.objects) made.is_new.objects;
      };
      fits = subst (Fits typing) (sym (first_begun.grows.homes ∙ made.is_new.homes)) (fits r (function_of f) found runs);
      words = words_of r (function_of f) found;
      good = first_begun.grows.good size good_first;
      around = nowhere;
      resolved = is.body;
      sites = begun_sites;
      calls = λ g c. c;
    }

    first_typed : IsTypedNow typing 1 made.first
    first_typed = record {
      block = fresh_typed typing.types (size + 4) made.first.block made.is_new.block;
      idle = (let e = ap idle_count made.is_new.items in omega (arith, e));
      size = (let e = ap length made.is_new.block.operations in omega (arith, e));
      steps = (let e = made.is_new.block.steps in omega (arith, e));
      stages = λ l t e. absurd (let none : slice_get [] l ≡ Some t = ap (λ xs. slice_get xs l) (sym made.is_new.items) ∙ e in cc);
    }

    ended_typed : IsTypedNow typing (1 + inlined_weight P body) made.ended
    ended_typed =
        ended.typed typing (1 + inlined_weight P body) size good_lowered
        (leads.typed typing 1 size suits_typing (first_begun.typed typing 1 size good_first first_typed))

    long : length code.stages ≡ length made.ended.stages.stages.items
    long = ap length made.finished.finishes.stages ∙ led_length stage_of made.ended.stages.stages.items

    count : idle_count code.stages ≡ idle_now made.ended
    count = ap idle_count made.finished.finishes.stages ∙ led_count stage_of made.ended.stages.stages.items

    stage_typed : (l : ℕ) (s : Stage) → slice_get code.stages l ≡ Some s → IsTypedStage (types_of P code) P (length code.stages) (most_operations P code.stages) s
    stage_typed l s e =
        let h = led_at stage_of made.ended.stages.stages.items l s (ap (λ z. slice_get z l) (sym made.finished.finishes.stages) ∙ e) in
        let m = room (1 + inlined_weight P body) made.ended in
        let most = most_operations P code.stages in
        subst (λ n. IsTypedStage (types_of P code) P n most s) (sym long)
        (subst (IsTypedStage (types_of P code) P (length made.ended.stages.stages.items) most) (sym h.2)
        (stage_more (types_of P code) P (length made.ended.stages.stages.items) (length made.ended.stages.stages.items) m most (omega arith) (let w = light in let same = count in omega (arith, w, same))
        (led_stage stage_of h.0) (ended_typed.stages l h.0 h.1 (length made.ended.stages.stages.items) stage_of made.finished.finishes.below)))

    argued : BeginsWith P r code.argument code.variables
    argued =
        ⊎_elim (λ same. subst (λ o. BeginsWith P r o code.variables) (sym (main_none same)) same)
        (λ other.
        let there = parameter_at other.1 in
        let here = (fits r (function_of f) found runs).locals 0 (scalar long_int) other.1.parameter in
        subst (λ o. BeginsWith P r o code.variables) (sym (routine_some other.0 there.0 there.1))
        (other.0, subst (IsTypedHome (types_of P code) (scalar long_int)) there.1 here))
        kind

    names_long : length code.names ≡ length code.variables
    names_long =
        let n = made.ended.act_operands in
        let all = length-map code.names string_bytes in
        let same = ap length made.finished.names_ in
        let split = length-append made.names (replicate n []) in
        let count = (made.named resolved).count in
        let same_ = ap length made.finished.variables in
        let split_ = length-append made.ended.variables (replicate n long_int) in
        let kept = ap length (first_ended.variables ∙ made.is_new.variables) in
        let empty = length-replicate n (let none : List ℕ = [] in none) in
        let words_ = length-replicate n long_int in
        omega (arith, all, same, split, count, same_, split_, kept, empty, words_)

    pub typed_at : IsTypedCode P r code
    typed_at = record {
      some = (let e = long in let b = made.finished.finishes.below 0 in omega (arith, e, b));
      stages = stage_typed;
      comparisons =
          made.finished.finishes.comparisons
          (ended_ahead P H r (all_values P.functions) made.first made.is_new made.start made.begun made.starts made.lowered made.ended made.proceeds made.closes);
      few_idle = (let same = count in let few = ended_typed.idle in let w = light in omega (arith, same, few, w));
      arrays = λ a array e. housed.arrays a array (ap (λ arrays. slice_get arrays a) (sym arrays_are) ∙ e);
      argument = argued;
      names = names_long;
      named = λ x name e.
          name_there made.names made.ended.act_operands x name (made.named resolved).each (ap (λ names. slice_get names x) (sym made.finished.names_) ∙ e);
    }

    pub code_is : IsThreadCode P r code
    code_is = record { lowered = lowered_at; typed = typed_at }
