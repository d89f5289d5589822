-- The objects of a program between two declarations at file scope are in order, and each global has a name of its own.
use Rattle.std.proofs.Common.{◌≡◌, refl, sym, ap, subst, ◌∙◌, inl, inr, ℕ, ◌<◌, Bool, true, List, [], ◌∷◌, ◌++◌, length, Option, Some, None, arith}
use Rattle.std.specs.Prelude.{◌⊎◌, is_none, unwrap_or, slice_get}
use Rattle.std.specs.List.{AllByRecursion}
use Rattle.std.proofs.lemmas.Option.{same_Some}
use Rattle.lists.proofs.Places.{get_pushed}
use Rattle.c_tree.specs.declared.statement.Block.{Block}
use Rattle.c_tree.specs.declared.declaration.Function.{Function as FunctionTree}
use Rattle.c_tree.specs.declared.declaration.GlobalDeclarator.{GlobalDeclarator}
use Rattle.c_program.specs.declared.tree.BarrierObject.{BarrierObject}
use Rattle.c_program.specs.Tree.{GlobalVariable}
use Rattle.c_program.specs.Resolved as r
use Rattle.c_rules.specs.declared.names.ObjectKind.{ObjectKind}
use Rattle.c_rules.specs.declared.names.ObjectKind.TheVariants.{Thread, Mutex, Barrier}
use Rattle.c_rules.specs.declared.names.Header.{Header}
use Rattle.c_rules.specs.declared.names.Variable.{Variable}
use Rattle.c_rules.specs.declared.names.Meaning.{Meaning}
use Rattle.c_rules.specs.declared.names.Meaning.TheVariants as meaning
use Rattle.c_rules.specs.Specifiers.{c_type}
use Rattle.c_rules.specs.declared.names.Scope.{Scope}
use Rattle.c_rules.specs.Levels.{named_in}
use Rattle.c_resolution.specs.Files.{File, Tables}
use Rattle.c_resolution.specs.Globals as g
use Rattle.c_resolution.specs.Resolving.{program_at}
use Rattle.c_resolved_program.specs.Laws.{IsNumbered}
use Rattle.c_resolved_program.specs.Gathered.{IsDeclaredThread}
use Rattle.c_resolved_program.proofs.Walks.{all_more}
use Rattle.c_resolved_program.proofs.GrownScope.{Grows}
use Rattle.c_resolved_program.proofs.Fronts.{AreFronts}
use Rattle.c_resolved_program.proofs.NameBytes.{text_is}
use Rattle.c_resolved_program.proofs.ObjectLeft.{IsVariableLeft, IsObjectLeft, IsGlobalLeft}
use Rattle.c_resolved_program.proofs.FunctionLeft.{IsTabled, nobody}
use Rattle.c_resolved_program.proofs.ObjectKeeps.{beside_named, object_grows, variable_meant, variable_no, elements_counted}
use Rattle.c_resolved_program.proofs.Globals.{all_counted}
use Rattle.c_resolved_program.proofs.Locals.{elements_are}
use Rattle.c_rules.specs.Dimensions.{elements}

-- the objects of POSIX threads
pub record AreDeclared (t : Tables) : Type 0 where
  pub threads : AllByRecursion IsDeclaredThread t.threads
  pub mutexes : AllByRecursion r.IsMutexObject t.mutexes
  pub barriers : AllByRecursion (λ (b : BarrierObject). 0 < b.length) t.barriers

-- each global is what its name stands for
abbrev pub AreNamed : Scope → List GlobalVariable → Type 0
AreNamed s globals =
    (number : ℕ) (a : GlobalVariable) → slice_get globals number ≡ Some a → (v : Variable) × (named_in s.inner a.name ≡ Some (meaning.Variable v)) × (v.number ≡ number)

pub record ObjectsHold (x : File) : Type 0 where
  pub globals : AllByRecursion r.IsGlobal x.tables.globals
  pub names : AreNamed x.scope x.tables.globals
  pub others : AreDeclared x.tables

-- ---- names

named_on : (s t : Scope) (globals : List GlobalVariable) → Grows s t → AreNamed s globals → AreNamed t globals
named_on s t globals grows are number a at =
    let known = are number a at in
    (known.0, grows.names a.name (meaning.Variable known.0) known.1, known.2)

named_more : (s : Scope) (globals : List GlobalVariable) (a : GlobalVariable) (v : Variable) → named_in s.inner a.name ≡ Some (meaning.Variable v) →
    v.number ≡ length globals → AreNamed s globals → AreNamed s (globals ++ a ∷ [])
named_more s globals a v is place are number b at =
    elim (get_pushed globals a number b at) [
      | inl before ↦ are number b before
      | inr last ↦ (v, ap (λ (c : GlobalVariable). named_in s.inner c.name) (sym last.1) ∙ is, place ∙ sym last.0)
    ]

abbrev number_of : Meaning → ℕ
number_of (meaning.Variable v) = v.number
number_of other = 0

-- two globals of one name are one
pub one_global : (s : Scope) (globals : List GlobalVariable) → AreNamed s globals → (i j : ℕ) (a b : GlobalVariable) → slice_get globals i ≡ Some a →
    slice_get globals j ≡ Some b → a.name ≡ b.name → i ≡ j
one_global s globals are i j a b at_i at_j same =
    let first = are i a at_i in
    let second = are j b at_j in
    let one = same_Some (meaning.Variable first.0) (meaning.Variable second.0) (sym first.1 ∙ ap (λ n. named_in s.inner n) same ∙ second.1) in
    sym first.2 ∙ ap number_of one ∙ second.2

-- ---- declarations that add none

pub others_same : (x z : File) → Grows x.scope z.scope → z.tables.globals ≡ x.tables.globals → AreDeclared z.tables → ObjectsHold x → ObjectsHold z
others_same x z grows globals declared holds = record {
  globals = subst (λ l. AllByRecursion r.IsGlobal l) (sym globals) holds.globals;
  names = subst (λ l. AreNamed z.scope l) (sym globals) (named_on x.scope z.scope x.tables.globals grows holds.names);
  others = declared;
}

-- a function
pub function_objects : (f : FunctionTree) (h : Header) (o : Option Block) (x z : File) → IsTabled f h o x z → Grows x.scope z.scope → ObjectsHold x → ObjectsHold z
function_objects f h None x z is grows holds =
    others_same x z grows (ap (λ (t : Tables). t.globals) is) (subst AreDeclared (sym is) holds.others) holds
function_objects f h (Some body) x z is grows holds =
    others_same x z grows (ap (λ (t : Tables). t.globals) is)
    (subst AreDeclared (sym is) (record { threads = holds.others.threads; mutexes = holds.others.mutexes; barriers = holds.others.barriers })) holds

-- ---- an object of POSIX threads

declared_more : (kind : ObjectKind) (size : ℕ) (initialised : Bool) (t : Tables) → 0 < size → (initialised ≡ true → size ≡ 1) → AreDeclared t →
    AreDeclared (g.with_object_of kind size initialised t)
declared_more Thread size initialised t positive scalar are = record {
  threads = all_more IsDeclaredThread t.threads (record { length = size; routine = None }) are.threads (record { not_empty = positive; no_routine = refl });
  mutexes = are.mutexes;
  barriers = are.barriers;
}
declared_more Mutex size initialised t positive scalar are = record {
  threads = are.threads;
  mutexes =
      all_more r.IsMutexObject t.mutexes (record { length = size; initialised = initialised }) are.mutexes
      (record { not_empty = positive; initialised = scalar });
  barriers = are.barriers;
}
declared_more Barrier size initialised t positive scalar are = record {
  threads = are.threads;
  mutexes = are.mutexes;
  barriers = all_more (λ (b : BarrierObject). 0 < b.length) t.barriers (record { length = size }) are.barriers positive;
}

object_globals : (kind : ObjectKind) (size : ℕ) (initialised : Bool) (t : Tables) → (g.with_object_of kind size initialised t).globals ≡ t.globals
object_globals Thread size initialised t = refl
object_globals Mutex size initialised t = refl
object_globals Barrier size initialised t = refl

only_one : (o : Option ℕ) → is_none o ≡ true → unwrap_or o 1 ≡ 1
only_one None h = refl
only_one (Some n) h = cc

module _ (X : File) (main : ℕ) (numbered : IsNumbered (program_at X main)) where
  pub object_objects : (d : GlobalDeclarator) (x z : File) → r.IsName d.name.bytes → IsGlobalLeft X.found d x z → AreFronts z.tables X.tables → ObjectsHold x → ObjectsHold z
  object_objects d x z name is fronts holds = by is.is
    where
      grows : Grows x.scope z.scope
      grows = object_grows X main numbered [] [] d x z is fronts

      by : IsVariableLeft d x z ⊎ IsObjectLeft d x z → ObjectsHold z
      by (inl v) =
          let a : GlobalVariable = record {
            name = g.text d.name.bytes;
            ty = c_type v.variable.ty;
            length = elements v.variable.dimensions;
            initial = v.values;
          } in
          let same = text_is d.name.bytes name in
          let counted = all_counted v.variable.dimensions v.lengths (elements_counted X main numbered d x z v fronts.globals) in
          let tabled = v.tables in
          let named = beside_named (program_at X main) [] [] x z d.name.bytes (meaning.Variable v.variable) is.new v.scope (variable_no v.variable) in
          record {
            globals =
                subst (λ (t : Tables). AllByRecursion r.IsGlobal t.globals) (sym tabled)
                (all_more r.IsGlobal x.tables.globals a holds.globals (record {
                  name = subst r.IsName (sym same) name;
                  not_empty = elements_are v.variable.dimensions v.lengths;
                  given = (let fits = v.fits in omega (arith, fits, counted));
                  initial = v.initial;
                }));
            names =
                subst (λ (t : Tables). AreNamed z.scope t.globals) (sym tabled)
                (named_more z.scope x.tables.globals a v.variable (ap (λ n. named_in z.scope.inner n) same ∙ named)
                (variable_meant X main numbered d x z v fronts.globals nobody).1
                (named_on x.scope z.scope x.tables.globals grows holds.names));
            others = subst AreDeclared (sym tabled) (record { threads = holds.others.threads; mutexes = holds.others.mutexes; barriers = holds.others.barriers });
          }
      by (inr o) =
          let size = unwrap_or o.object.length 1 in
          others_same x z grows (ap (λ (t : Tables). t.globals) o.tables ∙ object_globals o.object.kind size o.initialised x.tables)
          (subst AreDeclared (sym o.tables)
          (declared_more o.object.kind size o.initialised x.tables o.positive (λ is. only_one o.object.length (o.scalar is)) holds.others)) holds
