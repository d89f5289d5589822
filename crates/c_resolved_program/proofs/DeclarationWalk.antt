-- The declarations of a text one after another: what holds before the first holds behind the last, where each keeps it.
use Rattle.std.proofs.Common.{◌≡◌, refl, sym, ap, subst, ◌∙◌, inl, inr, ℕ, ◌<◌, Bool, false, List, [], ◌∷◌}
use Rattle.std.proofs.Common.{◌++◌, length, Option, Some, None, append_assoc, append-nil}
use Rattle.std.specs.Prelude.{◌⊎◌, fold, slice_get, unwrap_or}
use Rattle.std.specs.List.{AllByRecursion}
use Rattle.lists.proofs.Places.{all_back, all_front}
use Rattle.c_tree.specs.declared.statement.Block.{Block}
use Rattle.c_tree.specs.declared.declaration.Function.{Function as FunctionTree}
use Rattle.c_tree.specs.declared.declaration.GlobalDeclarator.{GlobalDeclarator}
use Rattle.c_tree.specs.declared.declaration.GlobalDeclaration.{GlobalDeclaration}
use Rattle.c_tree.specs.declared.declaration.ExternalDeclaration.{ExternalDeclaration}
use Rattle.c_tree.specs.declared.declaration.ExternalDeclaration.TheVariants as external
use Rattle.c_program.specs.Tree.{Function, Program}
use Rattle.c_program.specs.Resolved.{IsName}
use Rattle.c_rules.specs.Dimensions.{elements}
use Rattle.c_rules.specs.declared.names.ObjectKind.{ObjectKind}
use Rattle.c_rules.specs.declared.names.ObjectKind.TheVariants.{Thread, Mutex, Barrier}
use Rattle.c_rules.specs.declared.names.Header.{Header}
use Rattle.c_rules.specs.declared.specifiers.Spelled.{Spelled}
use Rattle.c_rules.specs.Specifiers.{c_type, spelled_by}
use Rattle.c_rules.specs.Walks.{Outcome, and_then, through, pure}
use Rattle.c_resolution.specs.Files.{File, Tables, Declares}
use Rattle.c_resolution.specs.Functions as y
use Rattle.c_resolution.specs.Globals as g
use Rattle.c_resolution.specs.Resolving.{program_at}
use Rattle.c_resolution.specs.Texts.{declaration, declarations}
use Rattle.c_resolved_program.specs.Laws.{IsNumbered}
use Rattle.c_resolved_program.specs.Leaves.{AreValid, expression_leaves, initializer_leaves, global_leaves, function_leaves, external_leaves, of_any, of_each}
use Rattle.c_resolved_program.specs.Orders.{left, given, IsFront, GivesRoutines}
use Rattle.c_resolved_program.proofs.Walks.{outcome, turn, IfAny}
use Rattle.c_resolved_program.proofs.Elements.{element_is}
use Rattle.c_resolved_program.proofs.Steps.{next_in}
use Rattle.c_resolved_program.proofs.Functions.{defined_at}
use Rattle.c_resolved_program.proofs.Filed.{headed}
use Rattle.c_resolved_program.proofs.GrownScope.{front_same, front_on}
use Rattle.c_resolved_program.proofs.Fronts.{AreFronts, fronts_same, fronts_on, IsWithin}
use Rattle.c_resolved_program.proofs.FunctionLeft.{IsFunctionLeft, IsTabled, function_leaves_it, nobody}
use Rattle.c_resolved_program.proofs.FunctionPlaced.{placed, placed_grows}
use Rattle.c_resolved_program.proofs.ObjectLeft.{IsVariableLeft, IsObjectLeft, IsGlobalLeft, global_left}
use Rattle.c_resolved_program.proofs.ObjectKeeps.{object_grows}

after_one : {A B : Type 0} (step : A → B → Declares A) (a : A) (b : B) (rest : List B) (x : File) →
    through step a (b ∷ rest) x ≡ through step (given (step a b x)) rest (left (step a b x))
after_one step a b rest x = ap (λ o. fold (λ o b. and_then o (λ x. step x b)) o rest) (outcome (step a b x))

-- a part behind which all is within the text: so it is before it, and the part keeps what holds
abbrev pub Carries : File → (File → Type 0) → {A : Type 0} → Declares A → Type 0
Carries X K w = (x : File) → IsWithin X (left (w x)) → IsWithin X x × (K x → K (left (w x)))

carries_through : {A B : Type 0} (X : File) (K : File → Type 0) (step : A → B → Declares A) (a : A) (items : List B) →
    AllByRecursion (λ b. (a : A) → Carries X K (step a b)) items → Carries X K (through step a items)
carries_through X K step a [] all x within = (within, λ k. k)
carries_through {A} X K step a (b ∷ rest) all x within =
    let e = after_one step a b rest x in
    let o = step a b x in
    let later = carries_through X K step (given o) rest all.1 (left o) (subst (λ (z : Outcome File A). IsWithin X (left z)) e within) in
    let first = all.0 a x later.0 in
    (first.0, λ k. subst (λ (z : Outcome File A). K (left z)) (sym e) (later.1 (first.1 k)))

-- ---- fronts of the program

object_fronts : (kind : ObjectKind) (size : ℕ) (initialised : Bool) (t : Tables) → AreFronts t (g.with_object_of kind size initialised t)
object_fronts Thread size initialised t = record {
  functions = front_same t.functions;
  globals = front_same t.globals;
  threads = (record { length = size; routine = None } ∷ [], refl);
  mutexes = front_same t.mutexes;
  barriers = front_same t.barriers;
}
object_fronts Mutex size initialised t = record {
  functions = front_same t.functions;
  globals = front_same t.globals;
  threads = front_same t.threads;
  mutexes = (record { length = size; initialised = initialised } ∷ [], refl);
  barriers = front_same t.barriers;
}
object_fronts Barrier size initialised t = record {
  functions = front_same t.functions;
  globals = front_same t.globals;
  threads = front_same t.threads;
  mutexes = front_same t.mutexes;
  barriers = (record { length = size } ∷ [], refl);
}

global_fronts : (d : GlobalDeclarator) (x z : File) → IsVariableLeft d x z ⊎ IsObjectLeft d x z → AreFronts x.tables z.tables
global_fronts d x z (inl v) = subst (λ t. AreFronts x.tables t) (sym v.tables) (record {
  functions = front_same x.tables.functions;
  globals = (
    record {
      name = g.text d.name.bytes;
      ty = c_type v.variable.ty;
      length = elements v.variable.dimensions;
      initial = v.values;
    } ∷ [],
    refl,
  );
  threads = front_same x.tables.threads;
  mutexes = front_same x.tables.mutexes;
  barriers = front_same x.tables.barriers;
})
global_fronts d x z (inr o) =
    subst (λ t. AreFronts x.tables t) (sym o.tables) (object_fronts o.object.kind (unwrap_or o.object.length 1) o.initialised x.tables)

function_fronts : (f : FunctionTree) (h : Header) (o : Option Block) (x z : File) → IsTabled f h o x z → AreFronts x.tables z.tables
function_fronts f h None x z is = subst (λ t. AreFronts x.tables t) (sym is) (fronts_same x.tables)
function_fronts f h (Some body) x z is = subst (λ t. AreFronts x.tables t) (sym is) (record {
  functions = (defined_at f (y.return_type h) body (headed f h x) ∷ [], refl);
  globals = front_same x.tables.globals;
  threads = front_same x.tables.threads;
  mutexes = front_same x.tables.mutexes;
  barriers = front_same x.tables.barriers;
})

-- ---- the walk

small_of : (o : Option Function) (code : Function) → o ≡ Some code → IfAny (λ (f : Function). f.declared_locals < 0xffff_ffff) o → code.declared_locals < 0xffff_ffff
small_of o code is all = subst (λ (z : Option Function). IfAny (λ (f : Function). f.declared_locals < 0xffff_ffff) z) is all

module _ (X : File) (main : ℕ) (numbered : IsNumbered (program_at X main)) (given_routines : GivesRoutines X.found (program_at X main)) where
  abbrev P : Program
  P = program_at X main

  abbrev Front : Function → File → Type 0
  Front code x = IsFront (x.tables.functions ++ code ∷ []) X.tables.functions

  pub code_small : (code : Function) (x : File) → Front code x → code.declared_locals < 0xffff_ffff
  code_small code x front =
      let k = length x.tables.functions in
      small_of (slice_get X.tables.functions k) code (next_in x.tables.functions code X.tables.functions front)
      (element_is (λ (f : Function). f.declared_locals < 0xffff_ffff) X.tables.functions k numbered.locals)

  -- ---- a function

  function_left_is : (f : FunctionTree) (x : File) → AreValid (function_leaves f) → IsWithin X (left (y.function f x)) →
      IsFunctionLeft X.found f (y.header x.scope f) x (left (y.function f x))
  unfolding y.function
  function_left_is f x valid within =
      let h = y.header x.scope f in
      function_leaves_it X.found P given_routines f h x (left (y.function_by f h x)) refl valid.1
      (λ body has tables.
      code_small (defined_at f (y.return_type h) body (headed f h x)) x
      (subst (λ (t : Tables). IsFront t.functions X.tables.functions) tables within.tables.functions)) within.found

  function_within : (f : FunctionTree) (x : File) → AreValid (function_leaves f) → IsWithin X (left (y.function f x)) → IsWithin X x
  function_within f x valid within =
      let h = y.header x.scope f in
      let z = left (y.function f x) in
      let is_left = function_left_is f x valid within in
      let p = placed X.found f h x z is_left in
      record {
        found = p.found;
        tables = fronts_on x.tables z.tables X.tables (function_fronts f h f.body x z is_left.tables) within.tables;
        headers = front_on x.scope.headers z.scope.headers X.scope.headers (placed_grows X.found P [] f h x z p).headers within.headers;
      }

  -- ---- an object

  global_left_is : (words : Spelled) (pointer : Bool) (d : GlobalDeclarator) (x : File) → AreValid (global_leaves d) →
      IsWithin X (left (g.global words pointer d x)) → IsGlobalLeft X.found d x (left (g.global words pointer d x))
  global_left_is words pointer d x valid within =
      let size = of_each expression_leaves d.lengths in
      let values = of_any initializer_leaves d.initializer in
      global_left X.found P nobody words pointer d x (all_front _ size values valid.1) (all_back _ size values valid.1) within.found

  global_within : (words : Spelled) (pointer : Bool) (d : GlobalDeclarator) (x : File) → AreValid (global_leaves d) →
      IsWithin X (left (g.global words pointer d x)) → IsWithin X x
  global_within words pointer d x valid within =
      let z = left (g.global words pointer d x) in
      let is = global_left_is words pointer d x valid within in
      record {
        found = is.found;
        tables = fronts_on x.tables z.tables X.tables (global_fronts d x z is.is) within.tables;
        headers = front_on x.scope.headers z.scope.headers X.scope.headers (object_grows X main numbered [] [] d x z is within.tables).headers within.headers;
      }

  -- ---- what each declaration keeps

  pub record IsKept (L : List ExternalDeclaration) (K : List ExternalDeclaration → File → Type 0) : Type 0 where
    pub at_objects : (done : List ExternalDeclaration) (o : GlobalDeclaration) (x : File) → K done x → K (done ++ external.Objects o ∷ []) x
    pub at_object : (done : List ExternalDeclaration) (words : Spelled) (pointer : Bool) (d : GlobalDeclarator) (x : File) → IsName d.name.bytes →
        IsGlobalLeft X.found d x (left (g.global words pointer d x)) → IsWithin X (left (g.global words pointer d x)) → K done x →
        K done (left (g.global words pointer d x))
    pub at_function : (done rest : List ExternalDeclaration) (f : FunctionTree) (x : File) → done ++ external.Function f ∷ rest ≡ L → AreValid (function_leaves f) →
        IsFunctionLeft X.found f (y.header x.scope f) x (left (y.function f x)) → IsWithin X (left (y.function f x)) → K done x →
        K (done ++ external.Function f ∷ []) (left (y.function f x))

  -- ---- a declaration of objects

  each_global : {Q : GlobalDeclarator → Type 0} → ((d : GlobalDeclarator) → AreValid (global_leaves d) → Q d) → (list : List GlobalDeclarator) →
      AreValid (of_each global_leaves list) → AllByRecursion Q list
  each_global h [] valid = tt
  each_global h (d ∷ list) valid =
      let more = of_each global_leaves list in
      (h d (all_front _ (global_leaves d) more valid), each_global h list (all_back _ (global_leaves d) more valid))

  module _ (L : List ExternalDeclaration) (K : List ExternalDeclaration → File → Type 0) (kept : IsKept L K) where
    next_carries : (done : List ExternalDeclaration) (words : Spelled) (d : GlobalDeclarator) → AreValid (global_leaves d) → (pointer : Bool) →
        Carries X (K done) (g.next_object words pointer d)
    next_carries done words d valid pointer x within =
        let o = g.global words pointer d x in
        let e = turn o (λ _. pure false) in
        let here = subst (λ (z : Outcome File Bool). IsWithin X (left z)) e within in (
          global_within words pointer d x valid here,
          λ k. subst (λ (z : Outcome File Bool). K done (left z)) (sym e)
              (kept.at_object done words pointer d x valid.0 (global_left_is words pointer d x valid here) here k),
        )

    objects_carry : (done : List ExternalDeclaration) (d : GlobalDeclaration) → AreValid (of_each global_leaves d.declarators) → Carries X (K done) (g.objects d)
    unfolding g.objects
    objects_carry done d valid x within =
        let words = spelled_by d.specifiers in
        let all = through (g.next_object words) d.is_pointer d.declarators in
        let e = turn (all x) (λ _. pure tt) in
        let here = subst (λ (z : Outcome File (Unit {0})). IsWithin X (left z)) e within in
        let carried = carries_through X (K done) (g.next_object words) d.is_pointer d.declarators
        (each_global {Q = λ x. (pointer : Bool) → Carries X (K done) (g.next_object words pointer x)} (next_carries done words) d.declarators valid) x here in
        (carried.0, λ k. subst (λ (z : Outcome File (Unit {0})). K done (left z)) (sym e) (carried.1 k))

    -- ---- any declaration

    one_carries : (done rest : List ExternalDeclaration) (d : ExternalDeclaration) → done ++ d ∷ rest ≡ L → AreValid (external_leaves d) → (x : File) →
        IsWithin X (left (declaration d x)) → IsWithin X x × (K done x → K (done ++ d ∷ []) (left (declaration d x)))
    one_carries done rest (external.Function f) is valid x within = (
      function_within f x valid within,
      λ k. kept.at_function done rest f x is valid (function_left_is f x valid within) within k,
    )
    one_carries done rest (external.Objects o) is valid x within =
        let carried = objects_carry done o valid x within in
        (carried.0, λ k. kept.at_objects done o (left (g.objects o x)) (carried.1 k))

    walk : (done list : List ExternalDeclaration) → done ++ list ≡ L → AreValid (of_each external_leaves list) → (a : Unit {0}) (x : File) →
        IsWithin X (left (through (λ _ d. declaration d) a list x)) → IsWithin X x × (K done x → K L (left (through (λ _ d. declaration d) a list x)))
    walk done [] is valid a x within = (within, λ k. subst (λ l. K l x) (sym (append-nil done) ∙ is) k)
    walk done (d ∷ list) is valid a x within =
        let step = λ (_ : Unit {0}) (d : ExternalDeclaration). declaration d in
        let e = after_one step a d list x in
        let o = declaration d x in
        let more = of_each external_leaves list in
        let later = walk (done ++ d ∷ []) list (append_assoc done (d ∷ []) list ∙ is) (all_back _ (external_leaves d) more valid) (given o) (left o)
        (subst (λ (z : Outcome File (Unit {0})). IsWithin X (left z)) e within) in
        let first = one_carries done list d is (all_front _ (external_leaves d) more valid) x later.0 in
        (first.0, λ k. subst (λ (z : Outcome File (Unit {0})). K L (left z)) (sym e) (later.1 (first.1 k)))

    pub all_kept : AreValid (of_each external_leaves L) → (x : File) → IsWithin X (left (declarations L x)) → K [] x → K L (left (declarations L x))
    unfolding declarations
    all_kept valid x within k = (walk [] L refl valid tt x within).1 k
