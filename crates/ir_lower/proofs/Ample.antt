-- The code of a program within the limits is not too large.
use Rattle.std.proofs.Common.{◌≡◌, ℕ, ◌+◌, ◌*◌, ◌<◌, ◌≤◌, [], ◌++◌, length, map, replicate, Option, Some, None, refl, sym, ap, ◌∙◌, subst, arith, inl}
use Rattle.std.specs.Prelude.{slice_get, Contains}
use Rattle.std.proofs.lemmas.List.{length-map}
use Rattle.std.proofs.lemmas.Option.{slice_get_within}
use Rattle.lists.proofs.Places.{get_front, get_mapped}
use Rattle.hls_ints.specs.Types.{long_int}
use Rattle.c_program.specs.declared.tree.LocalVariable.{LocalVariable}
use Rattle.c_program.specs.declared.tree.Function.{Function as FunctionTree}
use Rattle.c_program.specs.declared.tree.Program.{Program as ProgramTree}
use Rattle.c_program.specs.Plain.{function_of, program_of, statement_of}
use Rattle.c_program.specs.Tree.{Statement, Function, GlobalVariable, Program}
use Rattle.c_program.specs.Limits.{local_elements, IsWithinLimits}
use Rattle.c_program.specs.Calls.{calls_of, IsAcyclic}
use Rattle.c_program.specs.Weight.{function_weight, thread_functions}
use Rattle.c_program.specs.Resolved.{IsFunction, IsResolved, nowhere}
use Rattle.code_following.specs.Idle.{idle_count}
use Rattle.code_blocks.specs.declared.fault.LoweringFault.{LoweringFault}
use Rattle.code_blocks.specs.declared.fault.LoweringFault.TheVariants.{TooLarge}
use Rattle.code_blocks.specs.declared.homes.Home.{Home}
use Rattle.code_blocks.specs.declared.homes.Home.TheVariants as home
use Rattle.code_storage.specs.declared.rooms.Rooms.{Rooms}
use Rattle.code_places.specs.declared.lowering.Lowering.{Lowering}
use Rattle.code_storage.specs.Values.{most_values, all_values}
use Rattle.code_storage.specs.Housing.{homes_in, Runs, types_in, IsHousing}
use Rattle.code_storage.specs.Objects.{AreObjects}
use Rattle.code_places.specs.Weighing.{inlined_weight}
use Rattle.code_blocks.specs.Typing.{Typing, IsTypedHome, Fits, HasWords}
use Rattle.code_storage.specs.Formats.{HasSites}
use Rattle.code_places.specs.Apart.{IsTypedNow, IsGood}
use Rattle.code_places.specs.Seats.{HasWord}
use Rattle.code_places.specs.Doing.{Shifts, SuitsTyping, IsNew, Starts}
use Rattle.code_blocks.specs.Room.{IsFull}
use Rattle.code_places.specs.Needing.{needed, IsFullFor}
use Rattle.ir_lower.specs.Codes.{function_needs}
use Rattle.code_blocks.proofs.Room.{full_more}
use Rattle.code_places.proofs.TypedGrowth.{fresh_typed, words_less}
use Rattle.code_places.proofs.ResumedPlaces.{fresh_sound}
use Rattle.code_places.proofs.CodeGrowth.{shifts_both, begins_shifts}
use Rattle.code_places.proofs.InlinedWeight.{body_weighs}
use Rattle.ir_lower.proofs.Whole.{get_none, values_among, word_at}
use Rattle.ir_lower.proofs.Roots.{thread_function, holds_of}
use Rattle.code_storage.proofs.Sites.{formats_count}
use Rattle.code_storage.proofs.Reached.{is_function}

-- a thread function, whose code begins
module _ (p : ProgramTree) (r : ℕ) (f : FunctionTree) (at : slice_get p.functions.items r ≡ Some f) (H : Rooms) (first begun : Lowering) (start : ℕ)
    (is_new : IsNew (program_of p) H r (all_values (program_of p).functions) first) (starts : Starts start first begun) (resolved : IsResolved (program_of p))
    (housed : IsHousing (program_of p) r H) where
  abbrev P : Program
  P = program_of p

  abbrev body : Statement
  body = statement_of f.body

  abbrev size : ℕ
  size = length H.variables

  found : slice_get P.functions r ≡ Some (function_of f)
  found = get_mapped function_of p.functions.items r f at

  is : IsFunction P (function_of f)
  is = is_function P P.functions r (function_of f) resolved.functions found

  runs : Runs P r r
  runs = inl refl

  first_begun : Shifts first begun
  first_begun = shifts_both first starts.labelled begun starts.relabels.shifts (begins_shifts start starts.labelled begun starts.begins)

  good_first : IsGood size first
  good_first = record {
    variables = ap length is_new.variables;
    sound = fresh_sound size first.block is_new.block;
    idle = λ off. is_new.block.steps;
  }

  abbrev typing : Typing
  typing = record {
    program = P;
    function = function_of f;
    types = record {
      variables = H.variables ++ replicate (all_values P.functions) long_int;
      arrays = H.arrays;
      globals = map (λ (g : GlobalVariable). g.ty) P.globals;
      lengths = map (λ (g : GlobalVariable). g.length) P.globals;
    };
  }

  home_typed : (l : LocalVariable) (o : Option Home) → IsTypedHome (types_in H) l o → IsTypedHome typing.types l o
  home_typed l None h = absurd h
  home_typed l (Some (home.Variable n)) h = get_front H.variables (replicate (all_values P.functions) long_int) n l.ty h
  home_typed l (Some (home.Array a)) h = h

  fits : (g : ℕ) (d : Function) → slice_get P.functions g ≡ Some d → Runs P r g → Fits (record typing { function = d }) (homes_in H g)
  fits g d here run = record {
    locals = λ x l e. home_typed l (slice_get (homes_in H g) x) (housed.types g x d l run here e);
    globals = refl;
    lengths = refl;
  }

  words : HasWords typing.types size (all_values P.functions)
  words = λ j lt. word_at H.variables (all_values P.functions) j (size + j) refl lt

  words_of : (g : ℕ) (d : Function) → slice_get P.functions g ≡ Some d → HasWords typing.types size (most_values d.body)
  words_of g d here = words_less typing.types size (most_values d.body) (all_values P.functions) (values_among P.functions g d here) words

  suits_typing : SuitsTyping P typing size body begun
  suits_typing = record {
    seated = record {
      root = r;
      housing = H;
      housed = housed;
      program = refl;
      resolved = resolved;
      number = r;
      found = found;
      runs = runs;
      rooms = first_begun.grows.rooms ∙ is_new.rooms;
      fits = fits;
      words = words_of;
      back = subst (HasWord typing.types) (sym (first_begun.grows.back ∙ is_new.back)) tt;
      objects = subst (AreObjects P) (sym first_begun.grows.objects) is_new.objects;
    };
    fits = subst (Fits typing) (sym (first_begun.grows.homes ∙ is_new.homes)) (fits r (function_of f) found runs);
    words = words_of r (function_of f) found;
    good = first_begun.grows.good size good_first;
    around = nowhere;
    resolved = is.body;
    sites = subst (HasSites P body) (sym (first_begun.site ∙ is_new.site)) (housed.sites r (function_of f) found);
    calls = λ g c. c;
  }

  first_typed : IsTypedNow typing 1 first
  first_typed = record {
    block = fresh_typed typing.types (size + 4) first.block is_new.block;
    idle = (let e = ap idle_count is_new.items in omega (arith, e));
    size = (let e = ap length is_new.block.operations in omega (arith, e));
    steps = (let e = is_new.block.steps in omega (arith, e));
    stages = λ l t e. absurd (let none : slice_get [] l ≡ Some t = ap (λ xs. slice_get xs l) (sym is_new.items) ∙ e in cc);
  }

  pub body_full : (depth : ℕ) (fault : LoweringFault) → depth ≡ length p.functions.items → IsFullFor P depth body begun fault → IsFull (function_needs P r) fault
  body_full depth fault deep full =
      let few = housed.few in
      let count = formats_count P.functions in
      let weighs = body_weighs P r (function_of f) resolved.acyclic found in
      full_more fault (needed typing size (1 + inlined_weight P body)) (function_needs P r) (omega (arith, few, count, weighs))
      (full typing 1 size suits_typing low
      (first_begun.typed typing 1 size good_first first_typed))
    where
      low : (acyclic : IsAcyclic P.functions) (g : ℕ) → Contains (calls_of body) g → acyclic.rank g < depth
      low acyclic g called =
          let below = acyclic.below r (slice_get_within P.functions r (function_of f) found) in
          let falls = acyclic.falls r g (record { code = function_of f; found = found; called = called }) in
          let long = length-map p.functions.items function_of in
          omega (arith, below, falls, deep, long)

-- what is needed before its code begins

pub variables_few : (P : Program) (r : ℕ) (H : Rooms) → IsHousing P r H → length H.variables ≤ local_elements P.functions r + 3 * function_weight P.functions r
variables_few P r H housed = let few = housed.few in omega (arith, few)

pub counted_function : (P : Program) (r n : ℕ) (fault : LoweringFault) → n ≤ function_needs P r → IsFull n fault → IsFull (function_needs P r) fault
counted_function P r n fault few full = full_more fault n (function_needs P r) few full

-- a thread function is one of the program
pub no_function : (p : ProgramTree) (r : ℕ) → IsResolved (program_of p) → Contains (thread_functions (program_of p)) r → slice_get p.functions.items r ≡ None → ⊥
no_function p r resolved among none =
    let t = thread_function (program_of p) resolved r among in
    let both : None ≡ Some t.function = sym (get_none function_of p.functions.items r none) ∙ t.found in
    cc

-- within the limits there is room
pub function_ample : (P : Program) (r : ℕ) (fault : LoweringFault) → IsFull (function_needs P r) fault → Contains (thread_functions P) r → IsWithinLimits P → fault ≡ TooLarge → ⊥
function_ample P r fault full among within same =
    let h = full same in
    let weight = holds_of (λ f. function_weight P.functions f ≤ 8192) (thread_functions P) r within.weights among in
    let most = holds_of (λ f. local_elements P.functions f ≤ 16384) (thread_functions P) r within.locals among in
    let prints = within.prints in
    let threads = within.threads in
    let mutexes = within.mutexes in
    let barriers = within.barriers in
    omega (arith, h, weight, most, prints, threads, mutexes, barriers)
