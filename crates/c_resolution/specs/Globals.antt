-- Objects at file scope and their initial values (C99 6.9.2, 6.7.8).
use Rattle.std.specs.Prelude.{ℕ, ◌+◌, ◌-◌, ℤ, Bool, true, false, ◌&&◌, nat_le, min, is_none, unwrap_or, if◌then◌else◌, List, [], ◌∷◌, ◌++◌, length, map, replicate, Option, Some, None, pos, encode_utf8}
use Rattle.std.specs.List.{flat_map}
use Rattle.hls_ints.specs.Types.{IntegerType, wrapped}
use Rattle.c_tree.specs.declared.expression.Name.{Name}
use Rattle.c_tree.specs.declared.expression.Expression.{Expression as ExpressionTree, out-Expression}
use Rattle.c_tree.specs.declared.declaration.Initializer.{Initializer}
use Rattle.c_tree.specs.declared.declaration.Initializer.TheVariants as initial_as
use Rattle.c_tree.specs.declared.declaration.Initial.{Initial, out-Initial}
use Rattle.c_tree.specs.declared.declaration.Initial.TheOpen.{Initial-F}
use Rattle.c_tree.specs.declared.declaration.Initial.TheFolds.{fold-Initial}
use Rattle.c_tree.specs.declared.declaration.GlobalDeclarator.{GlobalDeclarator}
use Rattle.c_tree.specs.declared.declaration.GlobalDeclaration.{GlobalDeclaration}
use Rattle.c_program.specs.declared.tree.Storage.TheVariants.{Static}
use Rattle.c_rules.specs.declared.fault.Rule.TheVariants as rule
use Rattle.c_rules.specs.declared.specifiers.BaseType.{BaseType}
use Rattle.c_rules.specs.declared.specifiers.BaseType.TheVariants as base
use Rattle.c_rules.specs.declared.specifiers.Spelled.{Spelled}
use Rattle.c_rules.specs.declared.dimensions.Dimensions.{Dimensions}
use Rattle.c_rules.specs.declared.dimensions.Dimensions.TheVariants.{Scalar, One, Two, Three}
use Rattle.c_rules.specs.declared.constants.Constancy.{Constancy}
use Rattle.c_rules.specs.declared.constants.Constancy.TheVariants as is
use Rattle.c_rules.specs.declared.names.ObjectKind.{ObjectKind}
use Rattle.c_rules.specs.declared.names.ObjectKind.TheVariants.{Thread, Mutex, Barrier}
use Rattle.c_rules.specs.declared.names.Variable.{Variable}
use Rattle.c_rules.specs.declared.names.Object.{Object}
use Rattle.c_rules.specs.declared.names.Meaning.{Meaning}
use Rattle.c_rules.specs.declared.names.Meaning.TheVariants as meaning
use Rattle.c_rules.specs.declared.names.Scope.{Scope}
use Rattle.c_rules.specs.Constants.{constancy}
use Rattle.c_rules.specs.Dimensions.{elements, inner, is_scalar, outermost, times}
use Rattle.c_rules.specs.Names.{same_kind}
use Rattle.c_rules.specs.Specifiers.{c_type, spelled_by}
use Rattle.c_rules.specs.Walks.{Finds, pure, finds, finds_if, through, visited, place_in_tree, ◌>>=◌, ◌>>◌}
use Rattle.c_calls.specs.Expressions.{looked}
use Rattle.c_resolution.specs.States.{Goes, finding}
use Rattle.c_resolution.specs.Locals.{dimensions, declare}
use Rattle.c_resolution.specs.Files.{Tables, Declares, going, tabling, with_global, with_thread, with_mutex, with_barrier}

-- ---- initial values: constant expressions, converted to the object's type

unfoldable pub initial_from : IntegerType → Constancy → ℕ → Finds ℤ
initial_from ty (is.Constant x) at = pure (wrapped ty x.number)
initial_from ty is.Unknown at = pure (pos 0)
initial_from ty is.NotConstant at = do
  finds rule.Constant at
  pure (pos 0)

unfoldable pub initial_value : IntegerType → ExpressionTree → Scope → Finds ℤ
initial_value ty e s = do
  looked s e
  initial_from ty (constancy e) (out-Expression e).offset

abbrev pub one_value : IntegerType → ExpressionTree → Scope → Finds (List ℤ)
one_value ty e s = do
  x ← initial_value ty e s
  pure (x ∷ [])

-- ---- braces (6.7.8)

-- what stands between braces: its values as one more element of the dimensions, which is one too many or not, and what is found in
-- it where it is of another form than the object
pub record Item : Type 0 where
  pub values : Bool → IntegerType → Dimensions → Finds (List ℤ)
  pub looked : Finds (Unit {0})

-- at least so many values; those between are 0. An array of more than 4096 elements is refused, and so many are enough
abbrev pub filled : ℕ → List ℤ → List ℤ
filled n values = values ++ replicate (min n 4096 - length values) (pos 0)

-- how many items stand before, and the values so far
abbrev pub Row : Type 0
Row = ℕ × List ℤ

-- one more of so many elements of the dimensions
abbrev pub next_item : IntegerType → ℕ → Dimensions → Row → Item → Finds Row
next_item ty size dimensions row x = do
  values ← x.values (nat_le size row.0) ty dimensions
  pure (row.0 + 1, filled (times row.0 (elements dimensions)) row.1 ++ values)

-- the values of so many elements of the dimensions, in row order
unfoldable pub row_values : IntegerType → ℕ → Dimensions → List Item → Finds (List ℤ)
row_values ty size dimensions items = do
  row ← through (next_item ty size dimensions) (0, []) items
  pure row.1

abbrev pub looked_items : List Item → Finds (Unit {0})
looked_items items = visited (λ (x : Item). x.looked) items

-- an item of another form than its place asks for
unfoldable pub refused_item : ℕ → Finds (Unit {0}) → Finds (List ℤ)
refused_item at looked = do
  finds rule.Kind at
  looked
  pure []

abbrev pub value_as : ExpressionTree → Scope → Bool → IntegerType → Finds (List ℤ)
value_as e s true ty = one_value ty e s
value_as e s false ty = refused_item (out-Expression e).offset (looked s e)

-- a value, which only a scalar has
abbrev pub value_item : ExpressionTree → Scope → Bool → IntegerType → Dimensions → Finds (List ℤ)
value_item e s too_many ty dimensions = do
  finds_if too_many rule.Constant (out-Expression e).offset
  value_as e s (is_scalar dimensions) ty

abbrev pub list_as : List Item → ℕ → Bool → IntegerType → Dimensions → Finds (List ℤ)
list_as items at true ty dimensions = refused_item at (looked_items items)
list_as items at false ty dimensions = row_values ty (outermost dimensions) (inner dimensions) items

-- braces, whose first stands at the place, which only an array has
abbrev pub list_item : List Item → ℕ → Bool → IntegerType → Dimensions → Finds (List ℤ)
list_item items at too_many ty dimensions = do
  finds_if too_many rule.Constant at
  list_as items at (is_scalar dimensions) ty dimensions

module _ (s : Scope) where
  abbrev pub item_step : Initial-F Item → Item
  item_step (Initial-F.Value e) = record { values = value_item e s; looked = looked s e }
  item_step (Initial-F.List items at) = record { values = list_item items at; looked = looked_items items }

  abbrev pub item : Initial → Item
  item = fold-Initial Item item_step

abbrev pub has_braces : Initial-F Initial → Bool
has_braces (Initial-F.Value e) = false
has_braces (Initial-F.List items at) = true

-- whether the first item has braces
abbrev pub is_by_rows : List Initial → Bool
is_by_rows [] = false
is_by_rows (first ∷ more) = has_braces (out-Initial first)

-- the braces of an array: one level for each dimension where the first item has braces, and else all elements in row order
unfoldable pub array_values : IntegerType → Dimensions → List Initial → Scope → Finds (List ℤ)
array_values ty dimensions list s =
    if is_by_rows list then row_values ty (outermost dimensions) (inner dimensions) (map (item s) list)
    else row_values ty (elements dimensions) Scalar (map (item s) list)

-- ---- initialisers

abbrev pub looked_list : List Initial → Scope → Finds (Unit {0})
looked_list list s = looked_items (map (item s) list)

abbrev pub looked_through : Initializer → Scope → Finds (Unit {0})
looked_through (initial_as.Value e) s = looked s e
looked_through (initial_as.List list at) s = looked_list list s
looked_through initial_as.Mutex s = pure tt

-- an initialiser of another form than the object's
unfoldable pub refused : Name → Initializer → Scope → Finds (Unit {0})
refused name i s = do
  finds rule.Kind name.offset
  looked_through i s

unfoldable pub refused_values : Name → Initializer → Scope → Finds (List ℤ)
refused_values name i s = do
  refused name i s
  pure []

-- a scalar has a value, and an array braces
abbrev pub initial_of : Name → IntegerType → Dimensions → Bool → Initializer → Scope → Finds (List ℤ)
initial_of name ty dimensions true (initial_as.Value e) s = one_value ty e s
initial_of name ty dimensions false (initial_as.List list at) s = array_values ty dimensions list s
initial_of name ty dimensions true (initial_as.List list at) s = refused_values name (initial_as.List list at) s
initial_of name ty dimensions true initial_as.Mutex s = refused_values name initial_as.Mutex s
initial_of name ty dimensions false (initial_as.Value e) s = refused_values name (initial_as.Value e) s
initial_of name ty dimensions false initial_as.Mutex s = refused_values name initial_as.Mutex s

abbrev pub initial : Name → Variable → Option Initializer → Scope → Finds (List ℤ)
initial name v None s = pure []
initial name v (Some i) s = initial_of name (c_type v.ty) v.dimensions (is_scalar v.dimensions) i s

-- ---- objects

-- the characters of a name
abbrev pub text : List ℕ → List ℕ
text bytes = flat_map encode_utf8 bytes

abbrev pub with_variable : Name → Variable → List ℤ → Tables → Tables
with_variable name v values = with_global (record { name = text name.bytes; ty = c_type v.ty; length = elements v.dimensions; initial = values })

unfoldable pub global_variable : GlobalDeclarator → Variable → Declares (Unit {0})
global_variable d v = do
  going (declare d.name (meaning.Variable v))
  values ← going (finding (initial d.name v d.initializer))
  tabling (with_variable d.name v values)

-- a scalar mutex may be initialised where it is declared
abbrev pub is_scalar_mutex : Object → Bool
is_scalar_mutex o = same_kind o.kind Mutex && is_none o.length

abbrev pub is_mutex_initializer : Initializer → Bool
is_mutex_initializer initial_as.Mutex = true
is_mutex_initializer other = false

abbrev pub initialised_by : Object → Name → Initializer → Scope → Finds Bool
initialised_by o name i s =
    if is_mutex_initializer i && is_scalar_mutex o then pure true else refused name i s >> pure false

abbrev pub is_initialised : Object → Name → Option Initializer → Scope → Finds Bool
is_initialised o name None s = pure false
is_initialised o name (Some i) s = initialised_by o name i s

abbrev pub with_object_of : ObjectKind → ℕ → Bool → Tables → Tables
with_object_of Thread size initialised = with_thread (record { length = size; routine = None })
with_object_of Mutex size initialised = with_mutex (record { length = size; initialised = initialised })
with_object_of Barrier size initialised = with_barrier (record { length = size })

abbrev pub with_object : Object → Bool → Tables → Tables
with_object o initialised = with_object_of o.kind (unwrap_or o.length 1) initialised

unfoldable pub global_object : GlobalDeclarator → Object → Declares (Unit {0})
global_object d o = do
  going (declare d.name (meaning.Object o))
  initialised ← going (finding (is_initialised o d.name d.initializer))
  tabling (with_object o initialised)

abbrev pub refused_initial : Name → Option Initializer → Scope → Finds (Unit {0})
refused_initial name None s = pure tt
refused_initial name (Some i) s = refused name i s

-- an object whose type is none of the profile
unfoldable pub unusable : GlobalDeclarator → Goes (Unit {0})
unusable d = do
  finding (λ s. finds rule.Kind d.name.offset)
  declare d.name meaning.Unusable
  finding (refused_initial d.name d.initializer)

-- an object of POSIX threads has one dimension at most
abbrev pub object : ObjectKind → ℕ → Dimensions → Meaning
object kind count Scalar = meaning.Object (record { kind = kind; number = place_in_tree count; length = None })
object kind count (One n) = meaning.Object (record { kind = kind; number = place_in_tree count; length = Some n })
object kind count (Two a b) = meaning.Unusable
object kind count (Three a b c) = meaning.Unusable

abbrev pub meaning_by : Tables → Spelled → Dimensions → BaseType → Meaning
meaning_by t words dimensions base.Thread = object Thread (length t.threads) dimensions
meaning_by t words dimensions base.Mutex = object Mutex (length t.mutexes) dimensions
meaning_by t words dimensions base.Barrier = object Barrier (length t.barriers) dimensions
meaning_by t words dimensions (base.Integer ty) = meaning.Variable (record {
  storage = Static;
  number = place_in_tree (length t.globals);
  ty = ty;
  dimensions = dimensions;
  is_const = words.is_const;
})
meaning_by t words dimensions base.Void = meaning.Unusable
meaning_by t words dimensions base.Unlisted = meaning.Unusable

-- the object that words of a type declare: it is the next one of its kind
abbrev pub global_meaning : Tables → Spelled → Bool → Dimensions → Meaning
global_meaning t words pointer dimensions = if pointer then meaning.Unusable else meaning_by t words dimensions words.base

unfoldable pub global_as : GlobalDeclarator → Meaning → Declares (Unit {0})
global_as d (meaning.Variable v) = global_variable d v
global_as d (meaning.Object o) = global_object d o
global_as d meaning.Argument = going (unusable d)
global_as d (meaning.Function number) = going (unusable d)
global_as d meaning.Unusable = going (unusable d)

unfoldable pub global : Spelled → Bool → GlobalDeclarator → Declares (Unit {0})
global words pointer d f = (do
  size ← going (finding (dimensions d.lengths))
  global_as d (global_meaning f.tables words pointer size)) f

-- one more object; a * stands before the first name alone
abbrev pub next_object : Spelled → Bool → GlobalDeclarator → Declares Bool
next_object words pointer d = do
  global words pointer d
  pure false

unfoldable pub objects : GlobalDeclaration → Declares (Unit {0})
objects d = do
  through (next_object (spelled_by d.specifiers)) d.is_pointer d.declarators
  pure tt
