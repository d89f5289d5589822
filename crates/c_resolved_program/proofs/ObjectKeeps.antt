-- An object at file scope keeps what holds between two declarations.
use Rattle.std.proofs.Common.{◌≡◌, refl, sym, ap, subst, ◌∙◌, inl, inr, ℕ, ◌<◌, ◌≤◌, Bool, List, [], ◌∷◌, ◌++◌, length, Some, None}
use Rattle.std.specs.Prelude.{ℤ, ◌⊎◌, ◌^◌, unwrap_or, slice_get}
use Rattle.c_tree.specs.declared.declaration.GlobalDeclarator.{GlobalDeclarator}
use Rattle.c_tree.specs.declared.declaration.ExternalDeclaration.{ExternalDeclaration}
use Rattle.c_program.specs.declared.tree.Storage.{Storage}
use Rattle.c_program.specs.declared.tree.Storage.TheVariants.{Static}
use Rattle.c_program.specs.Tree.{Function, GlobalVariable, Program}
use Rattle.c_program.specs.Resolved as r
use Rattle.c_rules.specs.Dimensions.{elements}
use Rattle.c_rules.specs.declared.names.ObjectKind.{ObjectKind}
use Rattle.c_rules.specs.declared.names.ObjectKind.TheVariants.{Thread, Mutex, Barrier}
use Rattle.c_rules.specs.declared.names.Variable.{Variable}
use Rattle.c_rules.specs.declared.names.Object.{Object}
use Rattle.c_rules.specs.declared.names.Meaning.{Meaning}
use Rattle.c_rules.specs.declared.names.Meaning.TheVariants as meaning
use Rattle.c_rules.specs.declared.names.Scope.{Scope}
use Rattle.c_rules.specs.Levels.{named_in, inserted}
use Rattle.c_rules.specs.Names.{declaring}
use Rattle.c_rules.specs.Specifiers.{c_type}
use Rattle.c_rules.specs.Walks.{place_in_tree}
use Rattle.c_resolution.specs.Files.{File, Tables}
use Rattle.c_resolution.specs.Globals as g
use Rattle.c_resolution.specs.Resolving.{program_at}
use Rattle.c_resolved_program.specs.Laws.{IsNumbered}
use Rattle.c_resolved_program.specs.Orders.{IsFront, IsMeant, AreMeant, object_length}
use Rattle.std.specs.List.{AllByRecursion}
use Rattle.c_resolved_program.proofs.Elements.{element_is}
use Rattle.c_resolved_program.proofs.Walks.{IfAny}
use Rattle.c_resolved_program.proofs.Steps.{inserted_is, next_in, front_length}
use Rattle.c_resolved_program.proofs.Locals.{number_is}
use Rattle.c_resolved_program.proofs.Numbers.{body_names}
use Rattle.c_resolved_program.proofs.GrownScope.{inserted_there, Grows}
use Rattle.c_resolved_program.proofs.Fronts.{AreFronts}
use Rattle.c_resolved_program.proofs.Headed.{headers_beside, grows_beside}
use Rattle.c_resolved_program.proofs.Coded.{AreCodes, codes_on}
use Rattle.c_resolved_program.proofs.Lengths.{given_lengths, given_count}
use Rattle.c_resolved_program.proofs.ObjectLeft.{count_of, IsVariableLeft, IsObjectLeft, IsGlobalLeft}
use Rattle.c_resolved_program.proofs.FileHolds.{FileHolds}
use Rattle.c_resolved_program.proofs.LocalCounts.{declared_locals}

-- ---- a new name in a scope

declared_inner : (name : List ℕ) (m : Meaning) (s : Scope) → (declaring name m s).inner ≡ inserted s.inner name m
unfolding declaring
declared_inner name m s = refl

declared_headers : (name : List ℕ) (m : Meaning) (s : Scope) → (declaring name m s).headers ≡ s.headers
unfolding declaring
declared_headers name m s = refl

declared_definitions : (name : List ℕ) (m : Meaning) (s : Scope) → (declaring name m s).definitions ≡ s.definitions
unfolding declaring
declared_definitions name m s = refl

declared_outer : (name : List ℕ) (m : Meaning) (s : Scope) → (declaring name m s).outer ≡ s.outer
unfolding declaring
declared_outer name m s = refl

module _ (P : Program) (D : List (List ℕ × ℕ)) (done : List ExternalDeclaration) (x z : File) (name : List ℕ) (m : Meaning) (new : named_in x.scope.inner name ≡ None)
    (scope : z.scope ≡ declaring name m x.scope) (other : (n : ℕ) → m ≡ meaning.Function n → ⊥) where
  inner_is : z.scope.inner ≡ inserted x.scope.inner name m
  inner_is = ap (λ (s : Scope). s.inner) scope ∙ declared_inner name m x.scope

  headers_are : z.scope.headers ≡ x.scope.headers
  headers_are = ap (λ (s : Scope). s.headers) scope ∙ declared_headers name m x.scope

  pub beside_grows : Grows x.scope z.scope
  beside_grows = grows_beside x.scope z.scope name m new inner_is headers_are

  pub beside_named : named_in z.scope.inner name ≡ Some m
  beside_named = ap (λ l. named_in l name) inner_is ∙ inserted_there x.scope.inner name m

  -- where the object is declared in the program as its name says
  pub beside_holds : ((f : Function) → IsMeant P f m) → z.tables.functions ≡ x.tables.functions → FileHolds P D done x → FileHolds P D done z
  beside_holds is functions holds = record {
    scope = record {
      outer = ap (λ (s : Scope). s.outer) scope ∙ declared_outer name m x.scope ∙ holds.scope.outer;
      locals = ap (λ (s : Scope). s.locals) scope ∙ declared_locals name m x.scope ∙ holds.scope.locals;
      inner = λ f. subst (λ l. AreMeant P f l) (sym inner_is) (inserted_is (IsMeant P f) x.scope.inner name m (holds.scope.inner f) (is f));
    };
    definitions = ap (λ (s : Scope). s.definitions) scope ∙ declared_definitions name m x.scope ∙ holds.definitions;
    headers = headers_beside D x.scope z.scope name m holds.headers new other inner_is headers_are;
    codes = subst (λ l. AreCodes D (body_names done) z.scope l) (sym functions)
        (codes_on D (body_names done) (body_names done) x.scope z.scope x.tables.functions (λ n a at. at) beside_grows holds.codes);
    count = ap length functions ∙ holds.count;
  }

-- ---- what a name of an object stands for

abbrev is_function : Meaning → Type 0
is_function (meaning.Function n) = Unit {0}
is_function other = ⊥

pub variable_no : (v : Variable) (n : ℕ) → meaning.Variable v ≡ meaning.Function n → ⊥
variable_no v n h = subst is_function (sym h) tt

object_no : (o : Object) (n : ℕ) → meaning.Object o ≡ meaning.Function n → ⊥
object_no o n h = subst is_function (sym h) tt

module _ (X : File) (main : ℕ) (numbered : IsNumbered (program_at X main)) where
  abbrev P : Program
  P = program_at X main

  static_is : (f : Function) (storage : Storage) (number : ℕ) (a : GlobalVariable) → storage ≡ Static → slice_get P.globals number ≡ Some a →
      r.IsObject P f storage number a.length a.ty
  static_is f storage number a static at = subst (λ s. r.IsObject P f s number a.length a.ty) (sym static) (ap r.global_object at)

  -- the next of a list has the number of its length
  next_at : {A : Type 0} (xs list : List A) (a : A) (number : ℕ) → length list ≤ 2 ^ 32 → number ≡ place_in_tree (length xs) → IsFront (xs ++ a ∷ []) list →
      (slice_get list number ≡ Some a) × (number ≡ length xs)
  next_at xs list a number small is front =
      let place = is ∙ number_is (length xs) (length list) (front_length xs a list front) small in
      (ap (λ n. slice_get list n) place ∙ next_in xs a list front, place)

  abbrev global_of : List ℕ → Variable → List ℤ → GlobalVariable
  global_of name v values = record { name = g.text name; ty = c_type v.ty; length = elements v.dimensions; initial = values }

  pub variable_meant : (d : GlobalDeclarator) (x z : File) (v : IsVariableLeft d x z) → IsFront z.tables.globals X.tables.globals → (f : Function) →
      IsMeant P f (meaning.Variable v.variable) × (v.variable.number ≡ length x.tables.globals)
  variable_meant d x z v front f =
      let a = global_of d.name.bytes v.variable v.values in
      let next = next_at x.tables.globals X.tables.globals a v.variable.number numbered.globals v.number
      (subst (λ (t : Tables). IsFront t.globals X.tables.globals) v.tables front) in
      ((static_is f v.variable.storage v.variable.number a v.storage next.0, v.lengths), next.1)

  -- an element of a list of which each is so
  so_at : {A : Type 0} (Is : A → Type 0) (list : List A) (k : ℕ) (a : A) → AllByRecursion Is list → slice_get list k ≡ Some a → Is a
  so_at Is list k a all at = subst (λ o. IfAny Is o) at (element_is Is list k all)

  pub elements_counted : (d : GlobalDeclarator) (x z : File) (v : IsVariableLeft d x z) → IsFront z.tables.globals X.tables.globals →
      elements v.variable.dimensions < 0xffff_ffff_ffff_ffff
  elements_counted d x z v front =
      let g = global_of d.name.bytes v.variable v.values in
      let next = next_at x.tables.globals X.tables.globals g v.variable.number numbered.globals v.number
      (subst (λ (t : Tables). IsFront t.globals X.tables.globals) v.tables front) in
      so_at (λ (g : GlobalVariable). g.length < 0xffff_ffff_ffff_ffff) P.globals v.variable.number g numbered.elements next.0

  meant_at : (kind : ObjectKind) (number size : ℕ) (initialised : Bool) (t : Tables) → AreFronts (g.with_object_of kind size initialised t) X.tables →
      number ≡ place_in_tree (count_of t kind) → object_length P kind number ≡ Some size
  meant_at Thread number size initialised t fronts is =
      let small = subst (λ n. n ≤ 2 ^ 32) (given_count X.found.creations X.tables.threads None) numbered.threads in
      let next = next_at t.threads X.tables.threads (record { length = size; routine = None }) number small is fronts.threads in
      given_lengths X.found.creations X.tables.threads None number ∙ ap r.thread_length next.0
  meant_at Mutex number size initialised t fronts is =
      ap r.mutex_length (next_at t.mutexes X.tables.mutexes (record { length = size; initialised = initialised }) number numbered.mutexes is fronts.mutexes).0
  meant_at Barrier number size initialised t fronts is =
      ap r.barrier_length (next_at t.barriers X.tables.barriers (record { length = size }) number numbered.barriers is fronts.barriers).0

  pub object_meant : (d : GlobalDeclarator) (x z : File) (o : IsObjectLeft d x z) → AreFronts z.tables X.tables → (f : Function) → IsMeant P f (meaning.Object o.object)
  object_meant d x z o fronts f =
      meant_at o.object.kind o.object.number (unwrap_or o.object.length 1) o.initialised x.tables (subst (λ t. AreFronts t X.tables) o.tables fronts) o.number

  -- ---- what an object keeps

  object_functions : (kind : ObjectKind) (size : ℕ) (initialised : Bool) (t : Tables) → (g.with_object_of kind size initialised t).functions ≡ t.functions
  object_functions Thread size initialised t = refl
  object_functions Mutex size initialised t = refl
  object_functions Barrier size initialised t = refl

  pub same_functions : (d : GlobalDeclarator) (x z : File) → IsVariableLeft d x z ⊎ IsObjectLeft d x z → z.tables.functions ≡ x.tables.functions
  same_functions d x z (inl v) = ap (λ (t : Tables). t.functions) v.tables
  same_functions d x z (inr o) =
      ap (λ (t : Tables). t.functions) o.tables ∙ object_functions o.object.kind (unwrap_or o.object.length 1) o.initialised x.tables

  module _ (D : List (List ℕ × ℕ)) (done : List ExternalDeclaration) (d : GlobalDeclarator) (x z : File) (is : IsGlobalLeft X.found d x z)
      (fronts : AreFronts z.tables X.tables) where
    pub object_grows : Grows x.scope z.scope
    object_grows = by is.is
      where
        by : IsVariableLeft d x z ⊎ IsObjectLeft d x z → Grows x.scope z.scope
        by (inl v) = beside_grows P D done x z d.name.bytes (meaning.Variable v.variable) is.new v.scope (variable_no v.variable)
        by (inr o) = beside_grows P D done x z d.name.bytes (meaning.Object o.object) is.new o.scope (object_no o.object)

    pub object_keeps : FileHolds P D done x → FileHolds P D done z
    object_keeps holds = by is.is
      where
        by : IsVariableLeft d x z ⊎ IsObjectLeft d x z → FileHolds P D done z
        by (inl v) =
            beside_holds P D done x z d.name.bytes (meaning.Variable v.variable) is.new v.scope (variable_no v.variable)
            (λ f. (variable_meant d x z v fronts.globals f).0) (same_functions d x z (inl v)) holds
        by (inr o) =
            beside_holds P D done x z d.name.bytes (meaning.Object o.object) is.new o.scope (object_no o.object)
            (λ f. object_meant d x z o fronts f) (same_functions d x z (inr o)) holds
