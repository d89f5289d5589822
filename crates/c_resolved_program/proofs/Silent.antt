-- An object at file scope creates no thread.
use Rattle.std.proofs.Common.{◌≡◌, sym, subst, inl, inr, ℕ, Bool, true, false, List, [], ◌∷◌, ◌++◌, map, Option, Some, None, ℤ, pos}
use Rattle.std.specs.List.{AllByRecursion}
use denote.Hole.Holds.{Such}
use Rattle.std.specs.Prelude.{◌+◌, ◌⊎◌, ◌&&◌, nat_le, Contains}
use Rattle.hls_ints.specs.Types.{IntegerType, wrapped}
use Rattle.c_tree.specs.declared.expression.Name.{Name}
use Rattle.c_tree.specs.declared.expression.Expression.{Expression as ExpressionTree, out-Expression}
use Rattle.c_tree.specs.declared.declaration.Initializer.{Initializer}
use Rattle.c_tree.specs.declared.declaration.Initializer.TheVariants as initial_as
use Rattle.c_tree.specs.declared.declaration.Initial.{Initial, roll-Initial}
use Rattle.c_tree.specs.declared.declaration.Initial.TheOpen.{Initial-F}
use Rattle.c_tree.specs.declared.declaration.Initial.TheBlock.{the_family, member-Initial}
use Rattle.c_tree.specs.declared.declaration.Initial.TheFolds.{claims, map-Initial, fold-roll-Initial, ind-Initial}
use Rattle.c_tree.specs.declared.declaration.GlobalDeclarator.{GlobalDeclarator}
use Rattle.c_rules.specs.declared.dimensions.Dimensions.{Dimensions}
use Rattle.c_rules.specs.declared.dimensions.Dimensions.TheVariants.{Scalar}
use Rattle.c_rules.specs.Dimensions.{elements, inner, is_scalar, outermost, times}
use Rattle.c_rules.specs.declared.fault.Rule.TheVariants as rule
use Rattle.c_rules.specs.declared.findings.Creation.{Creation}
use Rattle.c_rules.specs.declared.constants.Constancy.{Constancy}
use Rattle.c_rules.specs.declared.constants.Constancy.TheVariants as is
use Rattle.c_rules.specs.declared.specifiers.Spelled.{Spelled}
use Rattle.c_rules.specs.declared.names.Object.{Object}
use Rattle.c_rules.specs.declared.names.Variable.{Variable}
use Rattle.c_rules.specs.declared.names.Meaning.{Meaning}
use Rattle.c_rules.specs.declared.names.Meaning.TheVariants as meaning
use Rattle.c_rules.specs.declared.names.Scope.{Scope}
use Rattle.c_rules.specs.Constants.{constancy}
use Rattle.c_rules.specs.Specifiers.{c_type}
use Rattle.c_rules.specs.Walks.{Outcome, Finds, pure, finds, finds_if, through, ◌>>=◌, ◌>>◌}
use Rattle.c_expressions.specs.Expressions.{looked}
use Rattle.c_resolution.specs.States.{state, Goes, finding}
use Rattle.c_resolution.specs.Locals.{declare, dimensions}
use Rattle.c_resolution.specs.Files.{File, Tables, Declares, going, tabling}
use Rattle.c_resolution.specs.Globals as g
use Rattle.c_resolved_program.specs.Orders.{left, given}
use Rattle.c_resolved_program.proofs.Walks.{turn}
use Rattle.c_resolved_program.proofs.Functions.{in_file_is}
use Rattle.c_resolved_program.proofs.Quiet.{IsQuiet, quiet_then, quiet_pure, quiet_finds, quiet_if, quiet_either, quiet_through, quiet_visited, quiet_looked}
use Rattle.c_resolved_program.proofs.Makings as k
use Rattle.c_resolved_program.proofs.HeadsWithoutCreates.{MakesNone}

-- ---- initial values

quiet_from : (ty : IntegerType) (x : Constancy) (at : ℕ) → IsQuiet (g.initial_from ty x at)
unfolding g.initial_from
quiet_from ty (is.Constant x) at = quiet_pure (wrapped ty x.number)
quiet_from ty is.Unknown at = quiet_pure (pos 0)
quiet_from ty is.NotConstant at = quiet_then (finds rule.Constant at) (λ _. pure (pos 0)) (quiet_finds rule.Constant at) (λ _. quiet_pure (pos 0))

quiet_initial_value : (ty : IntegerType) (e : ExpressionTree) (s : Scope) → IsQuiet (g.initial_value ty e s)
unfolding g.initial_value
quiet_initial_value ty e s =
    quiet_then (looked s e) (λ _. g.initial_from ty (constancy e) (out-Expression e).offset) (quiet_looked s e)
    (λ _. quiet_from ty (constancy e) (out-Expression e).offset)

quiet_one : (ty : IntegerType) (e : ExpressionTree) (s : Scope) → IsQuiet (g.one_value ty e s)
quiet_one ty e s = quiet_then (g.initial_value ty e s) (λ x. pure (x ∷ [])) (quiet_initial_value ty e s) (λ x. quiet_pure (x ∷ []))

-- ---- braces

-- what stands between braces finds no create
pub record QuietItem (x : g.Item) : Type 0 where
  pub values : (too_many : Bool) (ty : IntegerType) (d : Dimensions) → IsQuiet (x.values too_many ty d)
  pub looked : IsQuiet x.looked

each_next : (ty : IntegerType) (size : ℕ) (d : Dimensions) (list : List g.Item) → AllByRecursion QuietItem list → AllByRecursion (λ x. (row : g.Row) → IsQuiet (g.next_item ty size d row x)) list
each_next ty size d [] all = tt
each_next ty size d (x ∷ list) all = (
  λ row.
      let made : List ℤ → g.Row = λ values. (row.0 + 1, g.filled (times row.0 (elements d)) row.1 ++ values) in
      quiet_then (x.values (nat_le size row.0) ty d) (λ values. pure (made values)) (all.0.values (nat_le size row.0) ty d) (λ values. quiet_pure (made values)),
  each_next ty size d list all.1,
)

quiet_row : (ty : IntegerType) (size : ℕ) (d : Dimensions) (list : List g.Item) → AllByRecursion QuietItem list → IsQuiet (g.row_values ty size d list)
unfolding g.row_values
quiet_row ty size d list all =
    quiet_then (through (g.next_item ty size d) (0, []) list) (λ row. pure row.1) (quiet_through (g.next_item ty size d) (0, []) list (each_next ty size d list all)) (λ row. quiet_pure row.1)

each_looked : (list : List g.Item) → AllByRecursion QuietItem list → AllByRecursion (λ (x : g.Item). IsQuiet x.looked) list
each_looked [] all = tt
each_looked (x ∷ list) all = (all.0.looked, each_looked list all.1)

quiet_looked_items : (list : List g.Item) → AllByRecursion QuietItem list → IsQuiet (g.looked_items list)
quiet_looked_items list all = quiet_visited (λ (x : g.Item). x.looked) list (each_looked list all)

quiet_refused_item : (at : ℕ) (w : Finds (Unit {0})) → IsQuiet w → IsQuiet (g.refused_item at w)
unfolding g.refused_item
quiet_refused_item at w h = quiet_then (finds rule.Kind at) (λ _. w >> pure []) (quiet_finds rule.Kind at) (λ _. quiet_then w (λ _. pure []) h (λ _. quiet_pure []))

module _ (s : Scope) where
  value_as : (e : ExpressionTree) (ty : IntegerType) (b : Bool) → IsQuiet (g.value_as e s b ty)
  value_as e ty true = quiet_one ty e s
  value_as e ty false = quiet_refused_item (out-Expression e).offset (looked s e) (quiet_looked s e)

  value_item : (e : ExpressionTree) → QuietItem (record { values = g.value_item e s; looked = looked s e })
  value_item e = record {
    values = λ too_many ty d.
        quiet_then (finds_if too_many rule.Constant (out-Expression e).offset) (λ _. g.value_as e s (is_scalar d) ty) (quiet_if too_many rule.Constant (out-Expression e).offset)
        (λ _. value_as e ty (is_scalar d));
    looked = quiet_looked s e;
  }

  list_as : (list : List g.Item) (at : ℕ) (ty : IntegerType) (d : Dimensions) (b : Bool) → AllByRecursion QuietItem list → IsQuiet (g.list_as list at b ty d)
  list_as list at ty d true all = quiet_refused_item at (g.looked_items list) (quiet_looked_items list all)
  list_as list at ty d false all = quiet_row ty (outermost d) (inner d) list all

  list_item : (list : List g.Item) (at : ℕ) → AllByRecursion QuietItem list → QuietItem (record { values = g.list_item list at; looked = g.looked_items list })
  list_item list at all = record {
    values = λ too_many ty d.
        quiet_then (finds_if too_many rule.Constant at) (λ _. g.list_as list at (is_scalar d) ty d) (quiet_if too_many rule.Constant at) (λ _. list_as list at ty d (is_scalar d) all);
    looked = quiet_looked_items list all;
  }

  abbrev ClaimInitial : Initial → Type 0
  ClaimInitial x = QuietItem (g.item s x)

  abbrev SomeInitial : Type 0
  SomeInitial = Such the_family (claims ClaimInitial) member-Initial

  abbrev seen : Initial-F SomeInitial → Initial-F Initial
  seen x = map-Initial SomeInitial Initial (λ e. e.0) x

  each_item : (list : List SomeInitial) → AllByRecursion QuietItem (map (g.item s) (map (λ e. e.0) list))
  each_item [] = tt
  each_item (x ∷ list) = (x.1, each_item list)

  initial_case : (x : Initial-F SomeInitial) → QuietItem (g.item_step s (map-Initial Initial g.Item (g.item s) (seen x)))
  initial_case (Initial-F.Value e) = value_item e
  initial_case (Initial-F.List list at) = list_item (map (g.item s) (map (λ e. e.0) list)) at (each_item list)

  initial_induct : (x : Initial-F Initial) (t : Initial-F SomeInitial) → seen t ≡ x → ClaimInitial (roll-Initial x)
  initial_induct x t e = subst (λ k. ClaimInitial (roll-Initial k)) e (subst QuietItem (sym (fold-roll-Initial g.Item (g.item_step s) (seen t))) (initial_case t))

  quiet_item : (x : Initial) → QuietItem (g.item s x)
  quiet_item = ind-Initial ClaimInitial initial_induct

  quiet_items : (list : List Initial) → AllByRecursion QuietItem (map (g.item s) list)
  quiet_items [] = tt
  quiet_items (x ∷ list) = (quiet_item x, quiet_items list)

quiet_array : (ty : IntegerType) (d : Dimensions) (list : List Initial) (s : Scope) → IsQuiet (g.array_values ty d list s)
unfolding g.array_values
quiet_array ty d list s =
    quiet_either (g.is_by_rows list) (g.row_values ty (outermost d) (inner d) (map (g.item s) list)) (g.row_values ty (elements d) Scalar (map (g.item s) list))
    (quiet_row ty (outermost d) (inner d) (map (g.item s) list) (quiet_items s list)) (quiet_row ty (elements d) Scalar (map (g.item s) list) (quiet_items s list))

quiet_through_it : (i : Initializer) (s : Scope) → IsQuiet (g.looked_through i s)
quiet_through_it (initial_as.Value e) s = quiet_looked s e
quiet_through_it (initial_as.List list at) s = quiet_looked_items (map (g.item s) list) (quiet_items s list)
quiet_through_it initial_as.Mutex s = quiet_pure tt

quiet_refused : (name : Name) (i : Initializer) (s : Scope) → IsQuiet (g.refused name i s)
unfolding g.refused
quiet_refused name i s = quiet_then (finds rule.Kind name.offset) (λ _. g.looked_through i s) (quiet_finds rule.Kind name.offset) (λ _. quiet_through_it i s)

quiet_refused_values : (name : Name) (i : Initializer) (s : Scope) → IsQuiet (g.refused_values name i s)
unfolding g.refused_values
quiet_refused_values name i s = quiet_then (g.refused name i s) (λ _. pure []) (quiet_refused name i s) (λ _. quiet_pure [])

quiet_initial_of : (name : Name) (ty : IntegerType) (d : Dimensions) (b : Bool) (i : Initializer) (s : Scope) → IsQuiet (g.initial_of name ty d b i s)
quiet_initial_of name ty d true (initial_as.Value e) s = quiet_one ty e s
quiet_initial_of name ty d false (initial_as.List list at) s = quiet_array ty d list s
quiet_initial_of name ty d true (initial_as.List list at) s = quiet_refused_values name (initial_as.List list at) s
quiet_initial_of name ty d true initial_as.Mutex s = quiet_refused_values name initial_as.Mutex s
quiet_initial_of name ty d false (initial_as.Value e) s = quiet_refused_values name (initial_as.Value e) s
quiet_initial_of name ty d false initial_as.Mutex s = quiet_refused_values name initial_as.Mutex s

quiet_initial : (name : Name) (v : Variable) (i : Option Initializer) (s : Scope) → IsQuiet (g.initial name v i s)
quiet_initial name v None s = quiet_pure []
quiet_initial name v (Some i) s = quiet_initial_of name (c_type v.ty) v.dimensions (is_scalar v.dimensions) i s

quiet_initialised : (o : Object) (name : Name) (i : Option Initializer) (s : Scope) → IsQuiet (g.is_initialised o name i s)
quiet_initialised o name None s = quiet_pure false
quiet_initialised o name (Some i) s =
    quiet_either (g.is_mutex_initializer i && g.is_scalar_mutex o) (pure true) (g.refused name i s >> pure false) (quiet_pure true)
    (quiet_then (g.refused name i s) (λ _. pure false) (quiet_refused name i s) (λ _. quiet_pure false))

quiet_refused_initial : (name : Name) (i : Option Initializer) (s : Scope) → IsQuiet (g.refused_initial name i s)
quiet_refused_initial name None s = quiet_pure tt
quiet_refused_initial name (Some i) s = quiet_refused name i s

-- ---- parts of a file that create no thread

abbrev pub IsSilent : {A : Type 0} → Declares A → Type 0
IsSilent w = (x : File) (c : Creation) → Contains (left (w x)).found.creations c → Contains x.found.creations c

no_more : {X : Type 0} → X ⊎ ⊥ → X
no_more (inl x) = x
no_more (inr never) = absurd never

silent_going : {A : Type 0} (w : Goes A) → MakesNone w → IsSilent (going w)
silent_going {A} w h x c inside =
    no_more (h.new (state x.scope x.found) c
    (subst (λ (o : Outcome File A). Contains (left o).found.creations c) (in_file_is x.tables (w (state x.scope x.found))) inside))

silent_finding : {A : Type 0} (walk : Scope → Finds A) → ((s : Scope) → IsQuiet (walk s)) → IsSilent (going (finding walk))
silent_finding walk h = silent_going (finding walk) (k.making_quiet walk h)

silent_then : {A B : Type 0} (p : Declares A) (q : A → Declares B) → IsSilent p → ((a : A) → IsSilent (q a)) → IsSilent (p >>= q)
silent_then {A} {B} p q hp hq x c inside =
    hp x c (hq (given (p x)) (left (p x)) c (subst (λ (o : Outcome File B). Contains (left o).found.creations c) (turn (p x) q) inside))

silent_tabling : (change : Tables → Tables) → IsSilent (tabling change)
silent_tabling change x c inside = inside

none_unusable : (d : GlobalDeclarator) → MakesNone (g.unusable d)
unfolding g.unusable
none_unusable d =
    let first : Goes (Unit {0}) = finding (λ s. finds rule.Kind d.name.offset) in
    let last : Goes (Unit {0}) = finding (g.refused_initial d.name d.initializer) in
    k.making_then first (λ _. declare d.name meaning.Unusable >> last) (k.making_quiet (λ s. finds rule.Kind d.name.offset) (λ s. quiet_finds rule.Kind d.name.offset))
    (λ _. k.making_then (declare d.name meaning.Unusable) (λ _. last) (k.making_declare d.name meaning.Unusable)
    (λ _. k.making_quiet (g.refused_initial d.name d.initializer) (λ s. quiet_refused_initial d.name d.initializer s)))

silent_as : (d : GlobalDeclarator) (m : Meaning) → IsSilent (g.global_as d m)
unfolding g.global_as g.global_variable g.global_object
silent_as d (meaning.Variable v) =
    let last : List ℤ → Declares (Unit {0}) = λ values. tabling (g.with_variable d.name v values) in
    silent_then (going (declare d.name (meaning.Variable v))) (λ _. going (finding (g.initial d.name v d.initializer)) >>= last)
    (silent_going (declare d.name (meaning.Variable v)) (k.making_declare d.name (meaning.Variable v)))
    (λ _. silent_then (going (finding (g.initial d.name v d.initializer))) last (silent_finding (g.initial d.name v d.initializer) (λ s. quiet_initial d.name v d.initializer s))
    (λ values. silent_tabling (g.with_variable d.name v values)))
silent_as d (meaning.Object o) =
    let last : Bool → Declares (Unit {0}) = λ initialised. tabling (g.with_object o initialised) in
    silent_then (going (declare d.name (meaning.Object o))) (λ _. going (finding (g.is_initialised o d.name d.initializer)) >>= last)
    (silent_going (declare d.name (meaning.Object o)) (k.making_declare d.name (meaning.Object o)))
    (λ _. silent_then (going (finding (g.is_initialised o d.name d.initializer))) last
    (silent_finding (g.is_initialised o d.name d.initializer) (λ s. quiet_initialised o d.name d.initializer s))
    (λ initialised. silent_tabling (g.with_object o initialised)))
silent_as d meaning.Argument = silent_going (g.unusable d) (none_unusable d)
silent_as d (meaning.Function number) = silent_going (g.unusable d) (none_unusable d)
silent_as d meaning.Unusable = silent_going (g.unusable d) (none_unusable d)

pub global_silent : (words : Spelled) (pointer : Bool) (d : GlobalDeclarator) → IsSilent (g.global words pointer d)
unfolding g.global
global_silent words pointer d x =
    silent_then (going (finding (dimensions d.lengths))) (λ size. g.global_as d (g.global_meaning x.tables words pointer size))
    (silent_finding (dimensions d.lengths) (λ s. k.quiet_dimensions d.lengths s))
    (λ size. silent_as d (g.global_meaning x.tables words pointer size)) x
