-- What a declaration of an object at file scope leaves, where no rule is broken in the whole text: a new name, and one object
-- more.
use Rattle.std.proofs.Common.{◌≡◌, refl, sym, ap, subst, ◌∙◌, inl, inr, ℕ, ◌<◌, ◌≤◌, Bool, true, false, List, length, Option, Some, None, ℤ, arith}
use Rattle.std.specs.Prelude.{◌⊎◌, is_some, is_none, unwrap_or, if◌then◌else◌, ⊤}
use Rattle.std.specs.List.{AllByRecursion}
use Rattle.std.proofs.lemmas.Bool.{or_parts}
use Rattle.lists.proofs.Places.{none_of}
use Rattle.hls_ints.specs.Types.{HasType}
use Rattle.c_tree.specs.declared.expression.Name.{Name}
use Rattle.c_tree.specs.declared.declaration.Initializer.{Initializer}
use Rattle.c_tree.specs.declared.declaration.GlobalDeclarator.{GlobalDeclarator}
use Rattle.c_program.specs.declared.tree.Storage.TheVariants.{Static}
use Rattle.c_program.specs.Tree.{Function, Program}
use Rattle.c_rules.specs.declared.fault.Rule.TheVariants as rule
use Rattle.c_rules.specs.declared.findings.Findings.{Findings}
use Rattle.c_rules.specs.declared.specifiers.BaseType.{BaseType}
use Rattle.c_rules.specs.declared.specifiers.BaseType.TheVariants as base
use Rattle.c_rules.specs.declared.specifiers.Spelled.{Spelled}
use Rattle.c_rules.specs.declared.dimensions.Dimensions.{Dimensions}
use Rattle.c_rules.specs.declared.dimensions.Dimensions.TheVariants.{Scalar, One, Two, Three}
use Rattle.c_rules.specs.declared.names.ObjectKind.{ObjectKind}
use Rattle.c_rules.specs.declared.names.ObjectKind.TheVariants.{Thread, Mutex, Barrier}
use Rattle.c_rules.specs.declared.names.Variable.{Variable}
use Rattle.c_rules.specs.declared.names.Object.{Object}
use Rattle.c_rules.specs.declared.names.Meaning.{Meaning}
use Rattle.c_rules.specs.declared.names.Meaning.TheVariants as meaning
use Rattle.c_rules.specs.declared.names.Scope.{Scope}
use Rattle.c_rules.specs.Levels.{named_in}
use Rattle.c_rules.specs.Library.{function_named}
use Rattle.c_rules.specs.Names.{is_taken, declaring}
use Rattle.c_rules.specs.Specifiers.{c_type}
use Rattle.c_rules.specs.Walks.{Outcome, Finds, and_then, finds, place_in_tree, ◌>>=◌}
use Rattle.c_resolution.specs.States.{State, state, Goes, finding, scoping}
use Rattle.c_resolution.specs.Locals.{declare, dimensions}
use Rattle.c_resolution.specs.Files.{File, Tables, Declares, file, going, tabling}
use Rattle.c_calls.specs.Arguments as a
use Rattle.c_resolution.specs.Globals as g
use Rattle.c_resolved_program.specs.Leaves.{AreValid, expression_leaves, initializer_leaves, of_any, of_each}
use Rattle.c_resolved_program.specs.Orders.{left, given, AreLengths, IsPartOf}
use Rattle.c_resolved_program.proofs.Walks.{Shows, shows_pure, shows_broken, turn}
use Rattle.c_resolved_program.proofs.Steps.{in_scope_is}
use Rattle.c_resolved_program.proofs.Functions.{in_file_is}
use Rattle.c_resolved_program.proofs.Globals.{total, file_dimensions_show, initial_shows, initialised_shows, refused_shows}

-- ---- parts of a file

pub going_then : {A B : Type 0} (w : Goes A) (q : A → Declares B) (x : File) →
    (going w >>= q) x ≡ q (given (w (state x.scope x.found))) (file (left (w (state x.scope x.found))).scope (left (w (state x.scope x.found))).found x.tables)
going_then w q x = ap (λ o. and_then o q) (in_file_is x.tables (w (state x.scope x.found)))

pub finding_then : {A B : Type 0} (walk : Scope → Finds A) (q : A → Declares B) (x : File) →
    (going (finding walk) >>= q) x ≡ q (given (walk x.scope x.found)) (file x.scope (left (walk x.scope x.found)) x.tables)
finding_then {A} walk q x =
    going_then (finding walk) q x
    ∙ ap (λ (o : Outcome State A). q (given o) (file (left o).scope (left o).found x.tables)) (in_scope_is x.scope (walk x.scope x.found))

-- ---- a new name

pub record IsNewName (whole : Findings) (name : Name) (m : Meaning) (x y : State) : Type 0 where
  pub found : IsPartOf whole x.found
  pub new : named_in x.scope.inner name.bytes ≡ None
  pub is : y ≡ state (declaring name.bytes m x.scope) x.found

module _ (whole : Findings) where
  new_by : (b : Bool) (name : Name) (m : Meaning) (x : State) → is_taken x.scope name.bytes ≡ b →
      let y : Outcome State (Unit {0}) = if b then finding (λ scope. finds rule.Twice name.offset) x else scoping (declaring name.bytes m) x in
      IsPartOf whole (left y).found → IsNewName whole name m x (left y)
  unfolding is_taken
  new_by true name m x taken part = absurd ((shows_broken {Before = ⊤} {Is = λ _. ⊥} rule.Twice name.offset).forth x.found part tt)
  new_by false name m x taken part = record {
    found = part;
    new = none_of (named_in x.scope.inner name.bytes) (or_parts (is_some (function_named name.bytes)) (is_some (named_in x.scope.inner name.bytes)) taken).1;
    is = refl;
  }

  pub new_name : (name : Name) (m : Meaning) (x : State) → IsPartOf whole (left (declare name m x)).found → IsNewName whole name m x (left (declare name m x))
  unfolding declare
  new_name name m x part = new_by (is_taken x.scope name.bytes) name m x refl part

-- ---- what the words of a type declare

-- how many objects of that kind there are
abbrev pub count_of : Tables → ObjectKind → ℕ
count_of t Thread = length t.threads
count_of t Mutex = length t.mutexes
count_of t Barrier = length t.barriers

-- the next object of its kind, of that many elements
abbrev pub IsNext : Tables → Dimensions → Meaning → Type 0
IsNext t size (meaning.Variable v) = (v.storage ≡ Static) × (v.number ≡ place_in_tree (length t.globals)) × (v.dimensions ≡ size)
IsNext t size (meaning.Object o) = (o.number ≡ place_in_tree (count_of t o.kind)) × (a.length_dimensions o.length ≡ size)
IsNext t size meaning.Argument = ⊤
IsNext t size (meaning.Function number) = ⊤
IsNext t size meaning.Unusable = ⊤

object_next : (t : Tables) (kind : ObjectKind) (size : Dimensions) → IsNext t size (g.object kind (count_of t kind) size)
object_next t kind Scalar = (refl, refl)
object_next t kind (One n) = (refl, refl)
object_next t kind (Two n m) = tt
object_next t kind (Three n m k) = tt

base_next : (t : Tables) (words : Spelled) (size : Dimensions) (b : BaseType) → IsNext t size (g.meaning_by t words size b)
base_next t words size base.Thread = object_next t Thread size
base_next t words size base.Mutex = object_next t Mutex size
base_next t words size base.Barrier = object_next t Barrier size
base_next t words size (base.Integer ty) = (refl, refl, refl)
base_next t words size base.Void = tt
base_next t words size base.Unlisted = tt

is_next : (t : Tables) (words : Spelled) (pointer : Bool) (size : Dimensions) → IsNext t size (g.global_meaning t words pointer size)
is_next t words true size = tt
is_next t words false size = base_next t words size words.base

-- ---- what a declarator leaves

pub record IsVariableLeft (d : GlobalDeclarator) (x z : File) : Type 0 where
  pub variable : Variable
  pub values : List ℤ
  pub scope : z.scope ≡ declaring d.name.bytes (meaning.Variable variable) x.scope
  pub tables : z.tables ≡ g.with_variable d.name variable values x.tables
  pub storage : variable.storage ≡ Static
  pub number : variable.number ≡ place_in_tree (length x.tables.globals)
  pub lengths : AreLengths variable.dimensions
  pub fits : length values ≤ total variable.dimensions
  pub initial : AllByRecursion (HasType (c_type variable.ty)) values

pub record IsObjectLeft (d : GlobalDeclarator) (x z : File) : Type 0 where
  pub object : Object
  pub initialised : Bool
  pub scope : z.scope ≡ declaring d.name.bytes (meaning.Object object) x.scope
  pub tables : z.tables ≡ g.with_object object initialised x.tables
  pub number : object.number ≡ place_in_tree (count_of x.tables object.kind)
  pub positive : 0 < unwrap_or object.length 1
  pub scalar : initialised ≡ true → is_none object.length ≡ true

pub record IsGlobalLeft (whole : Findings) (d : GlobalDeclarator) (x z : File) : Type 0 where
  pub found : IsPartOf whole x.found
  pub new : named_in x.scope.inner d.name.bytes ≡ None
  pub is : IsVariableLeft d x z ⊎ IsObjectLeft d x z

positive_by : (length : Option ℕ) → AreLengths (a.length_dimensions length) → 0 < unwrap_or length 1
positive_by None are = omega arith
positive_by (Some n) are = are.0

module _ (whole : Findings) (P : Program) (f : Function) where
  -- ---- a variable

  variable_is : (d : GlobalDeclarator) (v : Variable) (x : File) →
      let n = left (declare d.name (meaning.Variable v) (state x.scope x.found)) in
      let o = g.initial d.name v d.initializer n.scope n.found in
      left (g.global_variable d v x) ≡ file n.scope (left o) (g.with_variable d.name v (given o) x.tables)
  unfolding g.global_variable
  variable_is d v x =
      let n = left (declare d.name (meaning.Variable v) (state x.scope x.found)) in
      let last : List ℤ → Declares (Unit {0}) = λ values. tabling (g.with_variable d.name v values) in
      ap (λ (o : Outcome File (Unit {0})). left o)
      (going_then (declare d.name (meaning.Variable v)) (λ _. going (finding (g.initial d.name v d.initializer)) >>= last) x
      ∙ finding_then (g.initial d.name v d.initializer) last (file n.scope n.found x.tables))

  variable_left : (d : GlobalDeclarator) (v : Variable) (size : Dimensions) (x y : File) → y.scope ≡ x.scope → y.tables ≡ x.tables →
      AreValid (of_any initializer_leaves d.initializer) → IsNext x.tables size (meaning.Variable v) → (IsPartOf whole y.found → AreLengths size) →
      IsPartOf whole (left (g.global_variable d v y)).found →
      IsPartOf whole y.found × (named_in x.scope.inner d.name.bytes ≡ None) × IsVariableLeft d x (left (g.global_variable d v y))
  variable_left d v size x y scope tables valid next positive part =
      let e = variable_is d v y in
      let n = left (declare d.name (meaning.Variable v) (state y.scope y.found)) in
      let o = g.initial d.name v d.initializer n.scope n.found in
      let shown = initial_shows whole P f n.scope d.name v d.initializer valid in
      let behind = subst (λ (w : File). IsPartOf whole w.found) e part in
      let new = new_name whole d.name (meaning.Variable v) (state y.scope y.found) (shown.back n.found behind) in (
        new.found,
        subst (λ (s : Scope). named_in s.inner d.name.bytes ≡ None) scope new.new,
        record {
          variable = v;
          values = given o;
          scope = ap (λ (w : File). w.scope) e ∙ ap (λ (s : State). s.scope) new.is ∙ ap (λ (s : Scope). declaring d.name.bytes (meaning.Variable v) s) scope;
          tables = ap (λ (w : File). w.tables) e ∙ ap (λ (t : Tables). g.with_variable d.name v (given o) t) tables;
          storage = next.0;
          number = next.1;
          lengths = subst AreLengths (sym next.2) (positive new.found);
          fits = (shown.forth n.found behind tt).1;
          initial = (shown.forth n.found behind tt).0;
        },
      )

  -- ---- an object of POSIX threads

  object_is : (d : GlobalDeclarator) (k : Object) (x : File) →
      let n = left (declare d.name (meaning.Object k) (state x.scope x.found)) in
      let o = g.is_initialised k d.name d.initializer n.scope n.found in
      left (g.global_object d k x) ≡ file n.scope (left o) (g.with_object k (given o) x.tables)
  unfolding g.global_object
  object_is d k x =
      let n = left (declare d.name (meaning.Object k) (state x.scope x.found)) in
      let last : Bool → Declares (Unit {0}) = λ initialised. tabling (g.with_object k initialised) in
      ap (λ (o : Outcome File (Unit {0})). left o)
      (going_then (declare d.name (meaning.Object k)) (λ _. going (finding (g.is_initialised k d.name d.initializer)) >>= last) x
      ∙ finding_then (g.is_initialised k d.name d.initializer) last (file n.scope n.found x.tables))

  object_left : (d : GlobalDeclarator) (k : Object) (size : Dimensions) (x y : File) → y.scope ≡ x.scope → y.tables ≡ x.tables →
      AreValid (of_any initializer_leaves d.initializer) → IsNext x.tables size (meaning.Object k) → (IsPartOf whole y.found → AreLengths size) →
      IsPartOf whole (left (g.global_object d k y)).found →
      IsPartOf whole y.found × (named_in x.scope.inner d.name.bytes ≡ None) × IsObjectLeft d x (left (g.global_object d k y))
  object_left d k size x y scope tables valid next positive part =
      let e = object_is d k y in
      let n = left (declare d.name (meaning.Object k) (state y.scope y.found)) in
      let o = g.is_initialised k d.name d.initializer n.scope n.found in
      let shown = initialised_shows whole P f n.scope k d.name d.initializer valid in
      let behind = subst (λ (w : File). IsPartOf whole w.found) e part in
      let new = new_name whole d.name (meaning.Object k) (state y.scope y.found) (shown.back n.found behind) in (
        new.found,
        subst (λ (s : Scope). named_in s.inner d.name.bytes ≡ None) scope new.new,
        record {
          object = k;
          initialised = given o;
          scope = ap (λ (w : File). w.scope) e ∙ ap (λ (s : State). s.scope) new.is ∙ ap (λ (s : Scope). declaring d.name.bytes (meaning.Object k) s) scope;
          tables = ap (λ (w : File). w.tables) e ∙ ap (λ (t : Tables). g.with_object k (given o) t) tables;
          number = next.0;
          positive = positive_by k.length (subst AreLengths (sym next.1) (positive new.found));
          scalar = shown.forth n.found behind tt;
        },
      )

  -- ---- an object of another type

  refused_initial_shows : (name : Name) (i : Option Initializer) (s : Scope) → AreValid (of_any initializer_leaves i) →
      Shows whole ⊤ (λ _. ⊤) (g.refused_initial name i s)
  refused_initial_shows name None s valid = shows_pure tt (λ _. tt)
  refused_initial_shows name (Some i) s valid =
      let shown = refused_shows whole P f s name i valid in
      record { back = shown.back; forth = λ found part before. tt }

  unusable_never : (d : GlobalDeclarator) (x : State) → AreValid (of_any initializer_leaves d.initializer) → IsPartOf whole (left (g.unusable d x)).found → ⊥
  unfolding g.unusable
  unusable_never d x valid part =
      let broken = left (finds rule.Kind d.name.offset x.found) in
      let n = declare d.name meaning.Unusable (state x.scope broken) in
      let last : Goes (Unit {0}) = finding (g.refused_initial d.name d.initializer) in
      let behind = subst (λ (o : Outcome State (Unit {0})). IsPartOf whole (left o).found) (turn n (λ _. last)) part in
      let found = subst (λ (o : Outcome State (Unit {0})). IsPartOf whole (left o).found)
      (in_scope_is (left n).scope (g.refused_initial d.name d.initializer (left n).scope (left n).found)) behind in
      let between = (refused_initial_shows d.name d.initializer (left n).scope valid).back (left n).found found in
      let begun = new_name whole d.name meaning.Unusable (state x.scope broken) between in
      (shows_broken {Before = ⊤} {Is = λ _. ⊥} rule.Kind d.name.offset).forth x.found begun.found tt

  going_part : (w : Goes (Unit {0})) (y : File) → IsPartOf whole (left (going w y)).found → IsPartOf whole (left (w (state y.scope y.found))).found
  going_part w y part = subst (λ (o : Outcome File (Unit {0})). IsPartOf whole (left o).found) (in_file_is y.tables (w (state y.scope y.found))) part

  -- ---- any object

  as_left : (d : GlobalDeclarator) (m : Meaning) (size : Dimensions) (x y : File) → y.scope ≡ x.scope → y.tables ≡ x.tables →
      AreValid (of_any initializer_leaves d.initializer) → IsNext x.tables size m → (IsPartOf whole y.found → AreLengths size) →
      IsPartOf whole (left (g.global_as d m y)).found →
      IsPartOf whole y.found × (named_in x.scope.inner d.name.bytes ≡ None) × (IsVariableLeft d x (left (g.global_as d m y)) ⊎ IsObjectLeft d x (left (g.global_as d m y)))
  unfolding g.global_as
  as_left d (meaning.Variable v) size x y scope tables valid next positive part =
      let both = variable_left d v size x y scope tables valid next positive part in
      (both.0, both.1, inl both.2)
  as_left d (meaning.Object k) size x y scope tables valid next positive part =
      let both = object_left d k size x y scope tables valid next positive part in
      (both.0, both.1, inr both.2)
  as_left d meaning.Argument size x y scope tables valid next positive part =
      absurd (unusable_never d (state y.scope y.found) valid (going_part (g.unusable d) y part))
  as_left d (meaning.Function number) size x y scope tables valid next positive part =
      absurd (unusable_never d (state y.scope y.found) valid (going_part (g.unusable d) y part))
  as_left d meaning.Unusable size x y scope tables valid next positive part =
      absurd (unusable_never d (state y.scope y.found) valid (going_part (g.unusable d) y part))

  pub global_left : (words : Spelled) (pointer : Bool) (d : GlobalDeclarator) (x : File) → AreValid (of_each expression_leaves d.lengths) →
      AreValid (of_any initializer_leaves d.initializer) → IsPartOf whole (left (g.global words pointer d x)).found →
      IsGlobalLeft whole d x (left (g.global words pointer d x))
  unfolding g.global
  global_left words pointer d x length_valid valid part =
      let next : Dimensions → Declares (Unit {0}) = λ size. g.global_as d (g.global_meaning x.tables words pointer size) in
      let e = finding_then (dimensions d.lengths) next x in
      let o = dimensions d.lengths x.scope x.found in
      let y : File = file x.scope (left o) x.tables in
      let shown = file_dimensions_show whole P f x.scope d.lengths length_valid in
      let both = as_left d (g.global_meaning x.tables words pointer (given o)) (given o) x y refl refl valid (is_next x.tables words pointer (given o))
      (λ between. shown.forth x.found between tt)
      (subst (λ (w : Outcome File (Unit {0})). IsPartOf whole (left w).found) e part) in
      subst (λ (w : Outcome File (Unit {0})). IsGlobalLeft whole d x (left w)) (sym e)
      (record { found = shown.back x.found both.0; new = both.1; is = both.2 })
