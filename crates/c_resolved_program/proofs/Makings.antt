-- The creates that a body finds are those of its statements.
use Rattle.std.proofs.Common.{◌≡◌, sym, subst, inl, inr, ℕ, Bool, true, false, ℤ, List, []}
use Rattle.std.proofs.Common.{◌∷◌, ◌++◌, map, Option, Some, None}
use Rattle.std.specs.Prelude.{◌⊎◌, not, nat_eq, if◌then◌else◌, Contains}
use Rattle.std.specs.List.{AllByRecursion}
use Rattle.std.proofs.lemmas.List.Elements.{Contains-append_left, Contains-append_right}
use denote.Hole.Holds.{Such}
use Rattle.c_tree.specs.declared.expression.Name.{Name}
use Rattle.c_tree.specs.declared.expression.Expression.{Expression as ExpressionTree, out-Expression}
use Rattle.c_tree.specs.declared.expression.Place.{Place as PlaceTree}
use Rattle.c_tree.specs.declared.declaration.Declaration.{Declaration}
use Rattle.c_tree.specs.declared.declaration.Declarator.{Declarator}
use Rattle.c_tree.specs.declared.statement.AssignmentOperator.{AssignmentOperator}
use Rattle.c_tree.specs.declared.statement.AssignmentOperator.TheVariants as assignment
use Rattle.c_tree.specs.declared.statement.SimpleForm.{SimpleForm}
use Rattle.c_tree.specs.declared.statement.SimpleForm.TheVariants as form
use Rattle.c_tree.specs.declared.statement.SimpleStatement.{SimpleStatement}
use Rattle.c_tree.specs.declared.statement.Returned.{Returned}
use Rattle.c_tree.specs.declared.statement.Returned.TheVariants as returned_as
use Rattle.c_tree.specs.declared.statement.ForStart.{ForStart}
use Rattle.c_tree.specs.declared.statement.ForStart.TheVariants as start
use Rattle.c_tree.specs.declared.statement.Block.{Block as BlockTree, roll-Block}
use Rattle.c_tree.specs.declared.statement.BlockItem.{BlockItem as BlockItemTree, roll-BlockItem}
use Rattle.c_tree.specs.declared.statement.CaseLabel.{CaseLabel}
use Rattle.c_tree.specs.declared.statement.Group.{Group as GroupTree, roll-Group}
use Rattle.c_tree.specs.declared.statement.Statement.{Statement as StatementTree, roll-Statement}
use Rattle.c_tree.specs.declared.statement.BlockItem.TheOpen.{Block-F, BlockItem-F, Group-F, Statement-F}
use Rattle.c_tree.specs.declared.statement.BlockItem.TheBlock.{the_family, member-BlockItem, member-Statement, member-Block, member-Group}
use Rattle.c_tree.specs.declared.statement.BlockItem.TheFolds.{claims, map-BlockItem, map-Statement, map-Block, map-Group}
use Rattle.c_tree.specs.declared.statement.BlockItem.TheFolds.{fold-roll-BlockItem, fold-roll-Statement, fold-roll-Block, fold-roll-Group, ind-Block}
use Rattle.c_program.specs.declared.tree.BinaryOperator.{BinaryOperator as ResolvedBinary}
use Rattle.c_program.specs.Tree.{Expression, Place, Statement}
use Rattle.hls_ints.specs.Types.{IntegerType, promoted, wrapped}
use Rattle.c_program.specs.Types.{type_of}
use Rattle.c_program.specs.Resolved.{creates_of}
use Rattle.c_rules.specs.declared.findings.Findings.{Findings}
use Rattle.c_rules.specs.declared.dimensions.Dimensions.{Dimensions}
use Rattle.c_rules.specs.declared.dimensions.Dimensions.TheVariants.{Scalar}
use Rattle.c_rules.specs.Cases.{stands, noted}
use Rattle.c_rules.specs.Dimensions.{with_length}
use Rattle.c_rules.specs.declared.fault.Rule.TheVariants as rule
use Rattle.c_rules.specs.declared.findings.Creation.{Creation}
use Rattle.c_rules.specs.declared.names.Meaning.{Meaning}
use Rattle.c_rules.specs.declared.names.Meaning.TheVariants as meaning
use Rattle.c_rules.specs.declared.names.Variable.{Variable}
use Rattle.c_rules.specs.declared.names.Scope.{Scope}
use Rattle.c_rules.specs.declared.constants.Constancy.{Constancy}
use Rattle.c_rules.specs.declared.constants.Constancy.TheVariants as is
use Rattle.c_rules.specs.declared.specifiers.BasicType.{BasicType}
use Rattle.c_rules.specs.declared.specifiers.Spelled.{Spelled}
use Rattle.c_rules.specs.Constants.{constancy, operator_count}
use Rattle.c_rules.specs.Specifiers.{c_type, plain, spelled_by}
use Rattle.c_rules.specs.Names.{is_taken, declaring, opened, closed}
use Rattle.c_rules.specs.Walks.{Outcome, Finds, pure, finds, finds_if, through, place_in_tree, ◌>>=◌, ◌>>◌}
use Rattle.c_expressions.specs.Cuts.{Cut, free_from}
use Rattle.c_expressions.specs.Expressions.{value, condition, looked}
use Rattle.c_calls.specs.Arguments as a
use Rattle.c_expressions.specs.Targets.{target}
use Rattle.c_expressions.specs.Sequences.{sequence, behind_cuts}
use Rattle.c_resolution.specs.Simple as z
use Rattle.c_resolution.specs.Locals as l
use Rattle.c_resolution.specs.States.{State, Goes, finding, scoping}
use Rattle.c_resolution.specs.Statements as y
use Rattle.c_resolution.specs.Statements.{Adds, Groups, item_step, statement_step, block_step, group_step, item, statement, items, group}
use Rattle.c_resolved_program.specs.Orders.{left, given}
use Rattle.c_resolved_program.proofs.Walks.{turn}
use Rattle.c_resolved_program.proofs.Steps as s
use Rattle.c_resolved_program.proofs.Neighbours as p
use Rattle.c_resolved_program.proofs.Quiet as q
use Rattle.c_resolved_program.proofs.Quiet.{IsQuiet, quiet_then, quiet_pure, quiet_finds, quiet_if}
use Rattle.c_resolved_program.proofs.CreatesOfParts.{IsOf, Makes, MakesIt, makes_quiet, makes_pure, behind_of, quiet_pointer_value, quiet_target, call_makes}

-- ---- simple statements

module _ (w : Scope) where
  quiet_compound_by : (o : Option ResolvedBinary) (at : ℕ) (p : Cut Place) (right : Expression) → MakesIt (z.compound_by o at p right)
  unfolding z.compound_by
  quiet_compound_by (Some o) at p right = makes_pure (z.updated at p o right)
  quiet_compound_by None at p right = makes_quiet (finds rule.Place at) (λ _. pure Statement.Empty) (quiet_finds rule.Place at) (λ _. makes_pure Statement.Empty)

  assign_makes : (at : ℕ) (p : PlaceTree) (o : AssignmentOperator) (e : ExpressionTree) → MakesIt (z.assign w at p o e)
  unfolding z.assigned z.compound
  assign_makes at p assignment.Set e =
      let here = place_in_tree at in
      let made = λ (right : Cut Expression) (x : Cut Place). behind_cuts x.cuts.before (Statement.Assign here x.rest right.rest) in
      makes_quiet (value w e here (free_from w.kept_from)) (λ right. target w p here right.cuts >>= (λ x. pure (made right x))) (q.quiet_value w e here (free_from w.kept_from))
      (λ right. makes_quiet (target w p here right.cuts) (λ x. pure (made right x)) (quiet_target w p here right.cuts) (λ x. makes_pure (made right x)))
  assign_makes at p (assignment.Compound operator) e =
      let here = place_in_tree at in
      let by = z.compound_by (z.compound_operator operator) at in
      makes_quiet (value w e here (free_from w.kept_from)) (λ right. target w p here right.cuts >>= (λ x. by x right.rest)) (q.quiet_value w e here (free_from w.kept_from))
      (λ right. makes_quiet (target w p here right.cuts) (λ x. by x right.rest) (quiet_target w p here right.cuts)
      (λ x. quiet_compound_by (z.compound_operator operator) at x right.rest))

  simple_form_makes : (at : ℕ) (x : SimpleForm) → MakesIt (z.simple_form w at x)
  unfolding z.step
  simple_form_makes at (form.Assign p o e) = assign_makes at p o e
  simple_form_makes at (form.Step p way) =
      makes_quiet (target w p (place_in_tree at) (free_from w.kept_from)) (λ x. pure (z.updated at x (z.stepping way) z.int_one)) (quiet_target w p (place_in_tree at) (free_from w.kept_from))
      (λ x. makes_pure (z.updated at x (z.stepping way) z.int_one))
  simple_form_makes at (form.Call x) = call_makes w (place_in_tree at) x

  simple_makes : (x : SimpleStatement) → MakesIt (z.simple w x)
  unfolding z.simple
  simple_makes x = simple_form_makes x.offset x.form

  return_at_makes : (at : ℕ) (x : Returned) → MakesIt (z.return_at w at x)
  return_at_makes at returned_as.Nothing = makes_pure (Statement.Return at None)
  return_at_makes at (returned_as.Value e) =
      makes_quiet (value w e at (free_from w.kept_from)) (λ right. pure (z.given_back w at right)) (q.quiet_value w e at (free_from w.kept_from)) (λ right. makes_pure (z.given_back w at right))
  return_at_makes at (returned_as.Pointer p) =
      makes_quiet (a.pointer_value w p at (free_from w.kept_from)) (λ right. pure (z.given_back w at right)) (quiet_pointer_value w p at (free_from w.kept_from))
      (λ right. makes_pure (z.given_back w at right))

  returned_makes : (x : Returned) (at : ℕ) → MakesIt (z.returned w x at)
  unfolding z.returned
  returned_makes x at =
      makes_quiet (finds_if (not (z.may_return w.gives x)) rule.Kind at) (λ _. z.return_at w (place_in_tree at) x) (quiet_if (not (z.may_return w.gives x)) rule.Kind at)
      (λ _. return_at_makes (place_in_tree at) x)

-- ---- parts that change the names in scope

pub record Making {A : Type 0} (Earlier : Creation → Type 0) (Made : A → Creation → Type 0) (w : Goes A) : Type 0 where
  pub new : (x : State) (k : Creation) → Contains (left (w x)).found.creations k → Contains x.found.creations k ⊎ Made (given (w x)) k
  pub kept : (x : State) (k : Creation) → Earlier k → Made (given (w x)) k

either_of : {X Y Z : Type 0} → X ⊎ Y → (Y → Z) → X ⊎ Z
either_of (inl x) f = inl x
either_of (inr y) f = inr (f y)

joined : {X Y Z : Type 0} → X ⊎ Z → (X → Y ⊎ Z) → Y ⊎ Z
joined (inl x) f = f x
joined (inr z) f = inr z

module _ {Earlier : Creation → Type 0} where
  pub making_then : {A B : Type 0} {Made : A → Creation → Type 0} {Next : B → Creation → Type 0} (p : Goes A) (r : A → Goes B) →
      Making Earlier Made p → ((a : A) → Making (Made a) Next (r a)) → Making Earlier Next (p >>= r)
  making_then {A} {B} {Made} {Next} p r hp hr = record {
    new = λ x k inside.
        let next = hr (given (p x)) in
        subst (λ (o : Outcome State B). Contains x.found.creations k ⊎ Next (given o) k) (sym (turn (p x) r))
        (joined (next.new (left (p x)) k (subst (λ (o : Outcome State B). Contains (left o).found.creations k) (turn (p x) r) inside))
        (λ between. either_of (hp.new x k between) (next.kept (left (p x)) k)));
    kept = λ x k earlier.
        subst (λ (o : Outcome State B). Next (given o) k) (sym (turn (p x) r)) ((hr (given (p x))).kept (left (p x)) k (hp.kept x k earlier));
  }

  pub making_pure : {A : Type 0} {Made : A → Creation → Type 0} (a : A) → ((k : Creation) → Earlier k → Made a k) → Making Earlier Made (pure a)
  making_pure a h = record { new = λ x k inside. inl inside; kept = λ x k earlier. h k earlier }

  pub making_scoping : (change : Scope → Scope) → Making Earlier (λ _. Earlier) (scoping change)
  making_scoping change = record { new = λ x k inside. inl inside; kept = λ x k earlier. earlier }

  pub making_quiet : {A : Type 0} (walk : Scope → Finds A) → ((w : Scope) → IsQuiet (walk w)) → Making Earlier (λ _. Earlier) (finding walk)
  making_quiet {A} walk h = record {
    new = λ x k inside.
        let o = walk x.scope x.found in
        inl (subst (λ list. Contains list k) ((h x.scope).same x.found) (subst (λ (o : Outcome State A). Contains (left o).found.creations k) (s.in_scope_is x.scope o) inside));
    kept = λ x k earlier. earlier;
  }

  -- what is made, beside what was made before
  pub making_beside : {A : Type 0} {Made : A → Creation → Type 0} (w : Goes A) → Making (λ _. ⊥) Made w → Making Earlier (λ a k. Earlier k ⊎ Made a k) w
  making_beside w h = record { new = λ x k inside. either_of (h.new x k inside) inr; kept = λ x k earlier. inl earlier }

pub making_finding : (walk : Scope → Finds Statement) → ((w : Scope) → MakesIt (walk w)) → Making (λ _. ⊥) IsOf (finding walk)
making_finding walk h = record {
  new = λ x k inside.
      let o = walk x.scope x.found in
      subst (λ (o : Outcome State Statement). Contains x.found.creations k ⊎ IsOf (given o) k) (sym (s.in_scope_is x.scope o))
      ((h x.scope).new x.found k (subst (λ (o : Outcome State Statement). Contains (left o).found.creations k) (s.in_scope_is x.scope o) inside));
  kept = λ x k no_k. absurd no_k;
}

-- ---- declarations

pub making_by : {Earlier : Creation → Type 0} (b : Bool) (v w : Goes (Unit {0})) (x : State) → Making Earlier (λ _. Earlier) v → Making Earlier (λ _. Earlier) w → (k : Creation) →
    Contains (left (if b then v x else w x)).found.creations k → Contains x.found.creations k ⊎ Earlier k
making_by true v w x h g k inside = h.new x k inside
making_by false v w x h g k inside = g.new x k inside

pub making_declare : {Earlier : Creation → Type 0} (name : Name) (m : Meaning) → Making Earlier (λ _. Earlier) (l.declare name m)
unfolding l.declare
making_declare {Earlier} name m =
    let v : Goes (Unit {0}) = finding (λ s. finds rule.Twice name.offset) in
    let w : Goes (Unit {0}) = scoping (declaring name.bytes m) in
    let hv = making_quiet {Earlier = Earlier} (λ s. finds rule.Twice name.offset) (λ s. quiet_finds rule.Twice name.offset) in
    let hw = making_scoping {Earlier = Earlier} (declaring name.bytes m) in
    record { new = λ x k inside. making_by {Earlier = Earlier} (is_taken x.scope name.bytes) v w x hv hw k inside; kept = λ x k earlier. earlier }

pub making_new_local : {Earlier : Creation → Type 0} (words : Spelled) (size : Dimensions) (ty : BasicType) → Making Earlier (λ _. Earlier) (l.new_local words size ty)
unfolding l.new_local
making_new_local words size ty = record { new = λ x k inside. inl inside; kept = λ x k earlier. earlier }

pub quiet_refused_local : (words : Spelled) (at : ℕ) → IsQuiet (l.refused_local words at)
unfolding l.refused_local
quiet_refused_local words at =
    q.quiet_either (l.is_object_type words.base) (finds_if words.is_static rule.Kind at >> (finds rule.Threads at >> pure meaning.Unusable))
    (finds rule.Kind at >> pure meaning.Unusable)
    (quiet_then (finds_if words.is_static rule.Kind at) (λ _. finds rule.Threads at >> pure meaning.Unusable) (quiet_if words.is_static rule.Kind at)
    (λ _. quiet_then (finds rule.Threads at) (λ _. pure meaning.Unusable) (quiet_finds rule.Threads at) (λ _. quiet_pure meaning.Unusable)))
    (quiet_then (finds rule.Kind at) (λ _. pure meaning.Unusable) (quiet_finds rule.Kind at) (λ _. quiet_pure meaning.Unusable))

making_local_of : {Earlier : Creation → Type 0} (words : Spelled) (at : ℕ) (size : Dimensions) (ty : Option BasicType) → Making Earlier (λ _. Earlier) (l.local_of words at size ty)
making_local_of words at size (Some ty) = making_new_local words size ty
making_local_of words at size None = making_quiet (λ s. l.refused_local words at) (λ s. quiet_refused_local words at)

making_local : {Earlier : Creation → Type 0} (words : Spelled) (at : ℕ) (size : Dimensions) → Making Earlier (λ _. Earlier) (l.local words at size)
unfolding l.local
making_local words at size = making_local_of words at size (plain words.is_static words.base)

quiet_length_of_number : (n : Option ℕ) (at : ℕ) → IsQuiet (l.length_of_number n at)
quiet_length_of_number (Some n) at = quiet_pure n
quiet_length_of_number None at = quiet_then (finds rule.Constant at) (λ _. pure 1) (quiet_finds rule.Constant at) (λ _. quiet_pure 1)

quiet_length_from : (x : Constancy) (at : ℕ) → IsQuiet (l.length_from x at)
unfolding l.length_from
quiet_length_from (is.Constant x) at = quiet_length_of_number (l.positive x.number) at
quiet_length_from is.Unknown at = quiet_pure 1
quiet_length_from is.NotConstant at = quiet_length_of_number None at

quiet_array_length : (e : ExpressionTree) (w : Scope) → IsQuiet (l.array_length e w)
unfolding l.array_length
quiet_array_length e w =
    quiet_then (looked w e) (λ _. l.length_from (constancy e) (out-Expression e).offset) (q.quiet_looked w e) (λ _. quiet_length_from (constancy e) (out-Expression e).offset)

each_length : (list : List ExpressionTree) (w : Scope) → AllByRecursion (λ e. (d : Dimensions) → IsQuiet (l.next_length w d e)) list
each_length [] w = tt
each_length (e ∷ list) w =
    (λ d. quiet_then (l.array_length e w) (λ n. pure (with_length d n)) (quiet_array_length e w) (λ n. quiet_pure (with_length d n)), each_length list w)

pub quiet_dimensions : (list : List ExpressionTree) (w : Scope) → IsQuiet (l.dimensions list w)
unfolding l.dimensions
quiet_dimensions list w = q.quiet_through (l.next_length w) Scalar list (each_length list w)

initialised_by_makes : (v : Option Variable) (at : ℕ) (right : Cut Expression) → MakesIt (l.initialised_by v at right)
unfolding l.initialised_by
initialised_by_makes (Some v) at right =
    makes_pure (behind_cuts right.cuts.before (Statement.Assign (place_in_tree at) (Place.Scalar v.storage v.number (c_type v.ty)) right.rest))
initialised_by_makes None at right = makes_quiet (finds rule.Kind at) (λ _. pure Statement.Empty) (quiet_finds rule.Kind at) (λ _. makes_pure Statement.Empty)

declared_step_makes : (d : Declarator) (m : Meaning) (e : Option ExpressionTree) (w : Scope) → MakesIt (l.declared_step d m e w)
unfolding l.initialised
declared_step_makes d m None w = makes_pure (l.uninitialised d m)
declared_step_makes d m (Some e) w =
    let at = place_in_tree d.name.offset in
    makes_quiet (value w e at (free_from w.kept_from)) (λ right. l.initialised_by (l.scalar_in m) d.name.offset right) (q.quiet_value w e at (free_from w.kept_from))
    (λ right. initialised_by_makes (l.scalar_in m) d.name.offset right)

making_declarator : (words : Spelled) (d : Declarator) → Making (λ _. ⊥) IsOf (l.declarator words d)
unfolding l.declarator
making_declarator words d =
    let stepping = λ (m : Meaning). finding (l.declared_step d m d.initializer) in
    let declaring = λ (m : Meaning). l.declare d.name m >> stepping m in
    making_then (finding (l.dimensions d.lengths)) (λ size. l.local words d.name.offset size >>= declaring)
    (making_quiet (l.dimensions d.lengths) (quiet_dimensions d.lengths))
    (λ size. making_then (l.local words d.name.offset size) declaring (making_local words d.name.offset size)
    (λ m. making_then (l.declare d.name m) (λ _. stepping m) (making_declare d.name m)
    (λ _. making_finding (l.declared_step d m d.initializer) (declared_step_makes d m d.initializer))))

-- a create is one of some statement
abbrev pub IsOfAny : List Statement → Creation → Type 0
IsOfAny list k = p.IsOfAny (λ x. IsOf x k) list

any_more : (list : List Statement) (x : Statement) (k : Creation) → IsOfAny list k ⊎ IsOf x k → IsOfAny (list ++ x ∷ []) k
any_more list x k of = p.any_more (λ x. IsOf x k) list x of

-- one more statement behind others
making_more : (list : List Statement) (w : Goes Statement) → Making (λ _. ⊥) IsOf w → Making (IsOfAny list) IsOfAny (w >>= (λ x. pure (list ++ x ∷ [])))
making_more list w h = making_then w (λ x. pure (list ++ x ∷ [])) (making_beside w h) (λ x. making_pure (list ++ x ∷ []) (λ k of. any_more list x k of))

pub making_through : {A B : Type 0} {Made : A → Creation → Type 0} (step : A → B → Goes A) (a : A) (list : List B) → AllByRecursion
    (λ b. (a : A) → Making (Made a) Made (step a b)) list →
    Making (Made a) Made (through step a list)
making_through step a [] all = record { new = λ x k inside. inl inside; kept = λ x k made. made }
making_through {A} {B} {Made} step a (b ∷ rest) all = record {
  new = λ x k inside.
      let o = step a b x in
      let later = making_through {Made = Made} step (given o) rest all.1 in
      let e = s.after_one step a b rest x in
      subst (λ (z : Outcome State A). Contains x.found.creations k ⊎ Made (given z) k) (sym e)
      (joined (later.new (left o) k (subst (λ (z : Outcome State A). Contains (left z).found.creations k) e inside))
      (λ between. either_of ((all.0 a).new x k between) (later.kept (left o) k)));
  kept = λ x k made.
      let o = step a b x in
      subst (λ (z : Outcome State A). Made (given z) k) (sym (s.after_one step a b rest x))
      ((making_through {Made = Made} step (given o) rest all.1).kept (left o) k ((all.0 a).kept x k made));
}

making_declaration : (list : List Statement) (d : Declaration) → Making (IsOfAny list) IsOfAny (l.declaration list d)
unfolding l.declaration
making_declaration list d =
    making_through (λ (done : List Statement) (x : Declarator). l.declarator (spelled_by d.specifiers) x >>= (λ s. pure (done ++ s ∷ []))) list d.declarators (each d.declarators)
  where
    each : (xs : List Declarator) → AllByRecursion (λ (x : Declarator). (done : List Statement) →
        Making (IsOfAny done) IsOfAny (l.declarator (spelled_by d.specifiers) x >>= (λ s. pure (done ++ s ∷ [])))) xs
    each [] = tt
    each (x ∷ xs) = (λ done. making_more done (l.declarator (spelled_by d.specifiers) x) (making_declarator (spelled_by d.specifiers) x), each xs)

-- ---- statements one after another keep their creates

both_of : (x z : Statement) (k : Creation) → IsOf x k ⊎ IsOf z k → IsOf (Statement.Sequence x z) k
both_of x z k (inl of) = Contains-append_left (creates_of x) (creates_of z) (k.thread, k.routine) of
both_of x z k (inr of) = Contains-append_right (creates_of x) (creates_of z) (k.thread, k.routine) of

sequence_keeps : (list : List Statement) (k : Creation) → IsOfAny list k → IsOf (sequence list) k
sequence_keeps list k of = p.sequence_keeps (λ x. IsOf x k) (λ x z either. both_of x z k either) list of

-- ---- statements

making_loop_body : {Earlier : Creation → Type 0} (body : Goes Statement) → Making (λ _. ⊥) IsOf body → Making Earlier (λ x k. Earlier k ⊎ IsOf x k) (y.loop_body body)
unfolding y.loop_body
making_loop_body {Earlier} body h =
    let out = λ (x : Statement). scoping y.shallower >> pure x in
    making_then (scoping y.deeper) (λ _. body >>= out) (making_scoping y.deeper)
    (λ _. making_then body out (making_beside body h)
    (λ x. making_then (scoping y.shallower) (λ _. pure x) (making_scoping y.shallower) (λ _. making_pure x (λ k of. of))))

making_start : (x : ForStart) → Making (λ _. ⊥) IsOf (y.for_start x)
making_start start.Nothing = making_pure Statement.Done (λ k no_k. absurd no_k)
making_start (start.Simple x) = making_finding (λ s. z.simple s x) (λ s. simple_makes s x)
making_start (start.Declaration d) =
    making_then (l.declaration [] d) (λ list. pure (sequence list)) (making_declaration [] d) (λ list. making_pure (sequence list) (λ k of. sequence_keeps list k of))

making_step : (x : Option SimpleStatement) → Making (λ _. ⊥) IsOf (finding (y.for_step x))
making_step None = making_finding (y.for_step None) (λ s. makes_pure Statement.Done)
making_step (Some x) = making_finding (y.for_step (Some x)) (λ s. simple_makes s x)

quiet_for_condition : (test : Option ExpressionTree) (s : Scope) → IsQuiet (y.for_condition test s)
quiet_for_condition None s = quiet_pure y.int_one
quiet_for_condition (Some test) s = (q.quiet_expression s test).condition s.kept_from

-- the creates of a for's head
IsOfHead : y.Head → Creation → Type 0
IsOfHead head k = IsOf head.0 k ⊎ IsOf head.2 k

making_head : (begin : ForStart) (test : Option ExpressionTree) (step : Option SimpleStatement) → Making (λ _. ⊥) IsOfHead (y.for_head begin test step)
unfolding y.for_head IsOfHead
making_head begin test step =
    let stepping = λ (first : Statement) (k : Statement). finding (y.for_step step) >>= (λ last. pure (first, k, last)) in
    let testing = λ (first : Statement). finding (y.for_condition test) >>= stepping first in
    making_then (y.for_start begin) testing (making_start begin)
    (λ first. making_then (finding (y.for_condition test)) (stepping first) (making_quiet (y.for_condition test) (quiet_for_condition test))
    (λ k. making_then (finding (y.for_step step)) (λ last. pure (first, k, last)) (making_beside (finding (y.for_step step)) (making_step step))
    (λ last. making_pure (first, k, last) (λ k of. of))))

for_keeps : (head : y.Head) (x : Statement) (k : Creation) → IsOfHead head k ⊎ IsOf x k → IsOf (y.for_of head x) k
unfolding IsOfHead
for_keeps head x k (inl (inl of)) = Contains-append_left (creates_of head.0) (creates_of head.2 ++ creates_of x) (k.thread, k.routine) of
for_keeps head x k (inl (inr of)) =
    Contains-append_right (creates_of head.0) (creates_of head.2 ++ creates_of x) (k.thread, k.routine)
    (Contains-append_left (creates_of head.2) (creates_of x) (k.thread, k.routine) of)
for_keeps head x k (inr of) =
    Contains-append_right (creates_of head.0) (creates_of head.2 ++ creates_of x) (k.thread, k.routine)
    (Contains-append_right (creates_of head.2) (creates_of x) (k.thread, k.routine) of)

if_keeps : (t : Statement) (x z : Statement) (k : Creation) → IsOf x k ⊎ IsOf z k → IsOf (y.if_of t x z) k
if_keeps t x z k (inl of) = Contains-append_left (creates_of x) (creates_of z) (k.thread, k.routine) of
if_keeps t x z k (inr of) = Contains-append_right (creates_of x) (creates_of z) (k.thread, k.routine) of

only_right : {X : Type 0} → ⊥ ⊎ X → X
only_right (inl no_k) = absurd no_k
only_right (inr x) = x

making_condition : {Earlier : Creation → Type 0} (test : ExpressionTree) → Making Earlier (λ _. Earlier) (finding (λ s. condition s test s.kept_from))
making_condition test = making_quiet (λ s. condition s test s.kept_from) (λ s. (q.quiet_expression s test).condition s.kept_from)

making_branch : (test : ExpressionTree) (consequent alternative : Goes Statement) → Making (λ _. ⊥) IsOf consequent → Making (λ _. ⊥) IsOf alternative →
    Making (λ _. ⊥) IsOf (finding (λ s. condition s test s.kept_from) >>= (λ t. consequent >>= (λ x. alternative >>= (λ z. pure (y.if_of t x z)))))
making_branch test consequent alternative h g =
    let last = λ (t : Statement) (x : Statement). alternative >>= (λ z. pure (y.if_of t x z)) in
    let next = λ (t : Statement). consequent >>= last t in
    making_then (finding (λ s. condition s test s.kept_from)) next (making_condition test)
    (λ t. making_then consequent (last t) h
    (λ x. making_then alternative (λ z. pure (y.if_of t x z)) (making_beside alternative g)
    (λ z. making_pure (y.if_of t x z) (λ k of. if_keeps t x z k of))))

making_while : (test : ExpressionTree) (body : Goes Statement) → Making (λ _. ⊥) IsOf body → Making (λ _. ⊥) IsOf (y.while_loop test body)
making_while test body h =
    let next = λ (t : Statement). y.loop_body body >>= (λ x. pure (y.while_of t x)) in
    making_then (finding (λ s. condition s test s.kept_from)) next (making_condition test)
    (λ t. making_then (y.loop_body body) (λ x. pure (y.while_of t x)) (making_loop_body body h) (λ x. making_pure (y.while_of t x) (λ k of. only_right of)))

making_do_while : (test : ExpressionTree) (body : Goes Statement) → Making (λ _. ⊥) IsOf body → Making (λ _. ⊥) IsOf (y.do_while body test)
making_do_while test body h =
    let next = λ (x : Statement). finding (λ s. condition s test s.kept_from) >>= (λ t. pure (y.do_while_of x t)) in
    making_then (y.loop_body body) next (making_loop_body body h)
    (λ x. making_then (finding (λ s. condition s test s.kept_from)) (λ t. pure (y.do_while_of x t)) (making_condition test) (λ t. making_pure (y.do_while_of x t) (λ k of. only_right of)))

making_for : (begin : ForStart) (test : Option ExpressionTree) (step : Option SimpleStatement) (body : Goes Statement) → Making (λ _. ⊥) IsOf body →
    Making (λ _. ⊥) IsOf (y.for_loop begin test step body)
unfolding y.for_loop
making_for begin test step body h =
    let out = λ (head : y.Head) (x : Statement). scoping closed >> pure (y.for_of head x) in
    let next = λ (head : y.Head). y.loop_body body >>= out head in
    making_then (scoping opened) (λ _. y.for_head begin test step >>= next) (making_scoping opened)
    (λ _. making_then (y.for_head begin test step) next (making_head begin test step)
    (λ head. making_then (y.loop_body body) (out head) (making_loop_body body h)
    (λ x. making_then (scoping closed) (λ _. pure (y.for_of head x)) (making_scoping closed) (λ _. making_pure (y.for_of head x) (λ k of. for_keeps head x k of)))))

making_block : (w : Goes Statement) → Making (λ _. ⊥) IsOf w → Making (λ _. ⊥) IsOf (y.block_statement w)
making_block w h =
    let out = λ (body : Statement). scoping closed >> pure (y.block_of body) in
    making_then (scoping opened) (λ _. w >>= out) (making_scoping opened)
    (λ _. making_then w out h
    (λ body. making_then (scoping closed) (λ _. pure (y.block_of body)) (making_scoping closed) (λ _. making_pure (y.block_of body) (λ k of. of))))

making_break : (at : ℕ) → Making (λ _. ⊥) IsOf (y.break_at at)
unfolding z.check_break
making_break at =
    making_then (finding (λ s. z.check_break s at)) (λ _. pure Statement.Break) (making_quiet (λ s. z.check_break s at) (λ s. quiet_if (nat_eq s.exits 0) rule.Place at))
    (λ _. making_pure Statement.Break (λ k no_k. absurd no_k))

making_continue : (at : ℕ) → Making (λ _. ⊥) IsOf (y.continue_at at)
unfolding z.check_continue
making_continue at =
    making_then (finding (λ s. z.check_continue s at)) (λ _. pure Statement.Continue) (making_quiet (λ s. z.check_continue s at) (λ s. quiet_if (nat_eq s.loops 0) rule.Place at))
    (λ _. making_pure Statement.Continue (λ k no_k. absurd no_k))

-- ---- switches

-- the creates of the statements of a switch so far
abbrev IsOfCases : y.Cases → Creation → Type 0
IsOfCases c k = IsOfAny c.steps k

makes_same : {A : Type 0} {Earlier : Creation → Type 0} {Made : A → Creation → Type 0} (a : A) → ((k : Creation) → Earlier k → Made a k) → Makes Earlier Made (pure a)
makes_same a h = record { new = λ found k inside. inl inside; kept = λ found k earlier. h k earlier }

makes_then : {A B : Type 0} {Earlier : Creation → Type 0} {Made : A → Creation → Type 0} {Next : B → Creation → Type 0} (p : Finds A) (r : A → Finds B) →
    Makes Earlier Made p → ((a : A) → Makes (Made a) Next (r a)) → Makes Earlier Next (p >>= r)
makes_then {A} {B} {Earlier} {Made} {Next} p r hp hr = record {
  new = λ found k inside.
      let next = hr (given (p found)) in
      subst (λ (o : Outcome Findings B). Contains found.creations k ⊎ Next (given o) k) (sym (turn (p found) r))
      (joined (next.new (left (p found)) k (subst (λ (o : Outcome Findings B). Contains (left o).creations k) (turn (p found) r) inside))
      (λ between. either_of (hp.new found k between) (next.kept (left (p found)) k)));
  kept = λ found k earlier.
      subst (λ (o : Outcome Findings B). Next (given o) k) (sym (turn (p found) r)) ((hr (given (p found))).kept (left (p found)) k (hp.kept found k earlier));
}

making_of : {A : Type 0} {Earlier : Creation → Type 0} {Made : A → Creation → Type 0} (walk : Scope → Finds A) → ((w : Scope) → Makes Earlier Made (walk w)) →
    Making Earlier Made (finding walk)
making_of {A} {Earlier} {Made} walk h = record {
  new = λ x k inside.
      let o = walk x.scope x.found in
      subst (λ (o : Outcome State A). Contains x.found.creations k ⊎ Made (given o) k) (sym (s.in_scope_is x.scope o))
      ((h x.scope).new x.found k (subst (λ (o : Outcome State A). Contains (left o).found.creations k) (s.in_scope_is x.scope o) inside));
  kept = λ x k earlier.
      let o = walk x.scope x.found in
      subst (λ (o : Outcome State A). Made (given o) k) (sym (s.in_scope_is x.scope o)) ((h x.scope).kept x.found k earlier);
}

-- another value keeps the steps
noted_makes : (ty : IntegerType) (x : Constancy) (at : ℕ) (c : y.Cases) → Makes (λ k. IsOfAny c.steps k) IsOfCases (y.noted_case ty x at c)
unfolding y.noted_case
noted_makes ty (is.Constant x) at c =
    makes_quiet (finds_if (stands c.values (wrapped ty x.number)) rule.Twice at) (λ _. pure (record c { values = noted c.values (wrapped ty x.number) }))
    (quiet_if (stands c.values (wrapped ty x.number)) rule.Twice at) (λ _. makes_same (record c { values = noted c.values (wrapped ty x.number) }) (λ k of. of))
noted_makes ty is.Unknown at c = makes_same c (λ k of. of)
noted_makes ty is.NotConstant at c = makes_quiet (finds rule.Constant at) (λ _. pure c) (quiet_finds rule.Constant at) (λ _. makes_same c (λ k of. of))

labelled_keeps : (value : Option ℤ) (operators : ℕ) (c : y.Cases) (k : Creation) → IsOfAny c.steps k → IsOfCases (y.labelled value operators c) k
labelled_keeps value operators c k of = any_more c.steps (Statement.Label value operators) k (inl of)

label_makes : (ty : IntegerType) (x : CaseLabel) (c : y.Cases) (s : Scope) → Makes (λ k. IsOfAny c.steps k) IsOfCases (y.label ty x c s)
unfolding y.case_label y.default_label
label_makes ty x c s = by x.value
  where
    by : (e : Option ExpressionTree) → Makes (λ k. IsOfAny c.steps k) IsOfCases (y.label_of ty e x.offset c s)
    by (Some e) =
        let made = λ (d : y.Cases). y.labelled (Some (y.case_value ty (constancy e))) (operator_count e) d in
        let walk = y.noted_case ty (constancy e) (out-Expression e).offset c in
        makes_quiet (looked s e) (λ _. walk >>= (λ d. pure (made d))) (q.quiet_looked s e)
        (λ _. makes_then walk (λ d. pure (made d)) (noted_makes ty (constancy e) (out-Expression e).offset c)
        (λ d. makes_same (made d) (λ k of. labelled_keeps (Some (y.case_value ty (constancy e))) (operator_count e) d k of)))
    by None =
        let d : y.Cases = record c { has_default = true } in
        makes_quiet (finds_if c.has_default rule.Twice x.offset) (λ _. pure (y.labelled None 0 d)) (quiet_if c.has_default rule.Twice x.offset)
        (λ _. makes_same (y.labelled None 0 d) (λ k of. labelled_keeps None 0 d k of))

next_makes : (c : y.Cases) (w : Goes Statement) → Making (λ _. ⊥) IsOf w → Making (λ k. IsOfAny c.steps k) IsOfCases (y.next_statement c w)
next_makes c w h =
    making_then w (λ step. pure (record c { steps = c.steps ++ step ∷ [] })) (making_beside w h)
    (λ step. making_pure (record c { steps = c.steps ++ step ∷ [] }) (λ k of. any_more c.steps step k of))

-- what the groups of a switch make
abbrev pub MakesGroup : Groups → Type 0
MakesGroup w = (ty : IntegerType) (c : y.Cases) → Making (λ k. IsOfAny c.steps k) IsOfCases (w ty c)

switch_body_makes : (ty : IntegerType) (groups : List Groups) → AllByRecursion MakesGroup groups → Making (λ _. ⊥) IsOf (y.switch_body ty groups)
unfolding y.switch_body
switch_body_makes ty groups all =
    let add = λ (c : y.Cases) (w : Groups). w ty c in
    let out = λ (c : y.Cases). scoping y.unswitched >> pure (sequence c.steps) in
    making_then (scoping y.switched) (λ _. through add y.no_cases groups >>= out) (making_scoping y.switched)
    (λ _. making_then (through add y.no_cases groups) out (making_through {Made = λ (c : y.Cases) k. IsOfAny c.steps k} add y.no_cases groups (each groups all))
    (λ c. making_then (scoping y.unswitched) (λ _. pure (sequence c.steps)) (making_scoping y.unswitched)
    (λ _. making_pure (sequence c.steps) (λ k of. sequence_keeps c.steps k of))))
  where
    each : (list : List Groups) → AllByRecursion MakesGroup list → AllByRecursion (λ (w : Groups). (c : y.Cases) → Making (λ k. IsOfAny c.steps k) (λ (d : y.Cases) k. IsOfAny d.steps k) (w ty c)) list
    each [] all = tt
    each (w ∷ list) all = (all.0 ty, each list all.1)

switch_keeps : (at : ℕ) (x : Cut Expression) (body : Statement) (k : Creation) → IsOf body k → IsOf (y.switch_of at x body) k
switch_keeps at x body k of = behind_of x.cuts.before (Statement.Switch at (promoted (type_of x.rest)) x.rest body) k of

making_switch : (e : ExpressionTree) (groups : List Groups) (at : ℕ) → AllByRecursion MakesGroup groups → Making (λ _. ⊥) IsOf (y.switch e groups at)
unfolding y.switch
making_switch e groups at all =
    let walk = λ (s : Scope). value s e at (free_from s.kept_from) in
    let next = λ (x : Cut Expression). y.switch_body (promoted (type_of x.rest)) groups >>= (λ body. pure (y.switch_of at x body)) in
    making_then (finding walk) next (making_quiet walk (λ s. q.quiet_value s e at (free_from s.kept_from)))
    (λ x. making_then (y.switch_body (promoted (type_of x.rest)) groups) (λ body. pure (y.switch_of at x body)) (switch_body_makes (promoted (type_of x.rest)) groups all)
    (λ body. making_pure (y.switch_of at x body) (λ k of. switch_keeps at x body k of)))

-- ---- each tree

abbrev ClaimBlockItem : BlockItemTree → Type 0
ClaimBlockItem x = (list : List Statement) → Making (IsOfAny list) IsOfAny (item x list)

abbrev ClaimStatement : StatementTree → Type 0
ClaimStatement x = Making (λ _. ⊥) IsOf (statement x)

abbrev ClaimBlock : BlockTree → Type 0
ClaimBlock x = Making (λ _. ⊥) IsOf (items x)

abbrev ClaimGroup : GroupTree → Type 0
ClaimGroup x = MakesGroup (group x)

abbrev SomeBlockItem : Type 0
SomeBlockItem = Such the_family (claims ClaimBlockItem ClaimStatement ClaimBlock ClaimGroup) member-BlockItem

abbrev SomeStatement : Type 0
SomeStatement = Such the_family (claims ClaimBlockItem ClaimStatement ClaimBlock ClaimGroup) member-Statement

abbrev SomeBlock : Type 0
SomeBlock = Such the_family (claims ClaimBlockItem ClaimStatement ClaimBlock ClaimGroup) member-Block

abbrev SomeGroup : Type 0
SomeGroup = Such the_family (claims ClaimBlockItem ClaimStatement ClaimBlock ClaimGroup) member-Group

abbrev seen_group : Group-F SomeBlockItem SomeStatement SomeBlock SomeGroup → Group-F BlockItemTree StatementTree BlockTree GroupTree
seen_group x = map-Group SomeBlockItem SomeStatement SomeBlock SomeGroup BlockItemTree StatementTree BlockTree GroupTree (λ e. e.0) (λ e. e.0) (λ e. e.0) (λ e. e.0) x

abbrev parts_in_group : Group-F BlockItemTree StatementTree BlockTree GroupTree → Group-F Adds (Goes Statement) (Goes Statement) Groups
parts_in_group x = map-Group BlockItemTree StatementTree BlockTree GroupTree Adds (Goes Statement) (Goes Statement) Groups item statement items group x

abbrev seen_item : BlockItem-F SomeBlockItem SomeStatement SomeBlock SomeGroup → BlockItem-F BlockItemTree StatementTree BlockTree GroupTree
seen_item x = map-BlockItem SomeBlockItem SomeStatement SomeBlock SomeGroup BlockItemTree StatementTree BlockTree GroupTree (λ e. e.0) (λ e. e.0) (λ e. e.0) (λ e. e.0) x

abbrev parts_in_item : BlockItem-F BlockItemTree StatementTree BlockTree GroupTree → BlockItem-F Adds (Goes Statement) (Goes Statement) Groups
parts_in_item x = map-BlockItem BlockItemTree StatementTree BlockTree GroupTree Adds (Goes Statement) (Goes Statement) Groups item statement items group x

abbrev seen_statement : Statement-F SomeBlockItem SomeStatement SomeBlock SomeGroup → Statement-F BlockItemTree StatementTree BlockTree GroupTree
seen_statement x = map-Statement SomeBlockItem SomeStatement SomeBlock SomeGroup BlockItemTree StatementTree BlockTree GroupTree (λ e. e.0) (λ e. e.0) (λ e. e.0) (λ e. e.0) x

abbrev parts_in_statement : Statement-F BlockItemTree StatementTree BlockTree GroupTree → Statement-F Adds (Goes Statement) (Goes Statement) Groups
parts_in_statement x = map-Statement BlockItemTree StatementTree BlockTree GroupTree Adds (Goes Statement) (Goes Statement) Groups item statement items group x

abbrev seen_block : Block-F SomeBlockItem SomeStatement SomeBlock SomeGroup → Block-F BlockItemTree StatementTree BlockTree GroupTree
seen_block x = map-Block SomeBlockItem SomeStatement SomeBlock SomeGroup BlockItemTree StatementTree BlockTree GroupTree (λ e. e.0) (λ e. e.0) (λ e. e.0) (λ e. e.0) x

abbrev parts_in_block : Block-F BlockItemTree StatementTree BlockTree GroupTree → Block-F Adds (Goes Statement) (Goes Statement) Groups
parts_in_block x = map-Block BlockItemTree StatementTree BlockTree GroupTree Adds (Goes Statement) (Goes Statement) Groups item statement items group x

item_case : (x : BlockItem-F SomeBlockItem SomeStatement SomeBlock SomeGroup) → (list : List Statement) → Making (IsOfAny list) IsOfAny (item_step (parts_in_item (seen_item x)) list)
item_case (BlockItem-F.Declaration d) list = making_declaration list d
item_case (BlockItem-F.Statement x) list = making_more list (statement x.0) x.1

each_item : (list : List SomeBlockItem) → AllByRecursion (λ (w : Adds). (steps : List Statement) → Making (IsOfAny steps) IsOfAny (w steps)) (map item (map (λ e. e.0) list))
each_item [] = tt
each_item (x ∷ list) = (x.1, each_item list)

block_case : (x : Block-F SomeBlockItem SomeStatement SomeBlock SomeGroup) → Making (λ _. ⊥) IsOf (block_step (parts_in_block (seen_block x)))
block_case x =
    let list = map item (map (λ e. e.0) x.items) in
    making_then (y.block_items list) (λ steps. pure (sequence steps))
    (making_through (λ (steps : List Statement) (add : Adds). add steps) [] list (each_item x.items))
    (λ steps. making_pure (sequence steps) (λ k of. sequence_keeps steps k of))

each_group : (list : List SomeGroup) → AllByRecursion MakesGroup (map group (map (λ g. g.0) list))
each_group [] = tt
each_group (x ∷ list) = (x.1, each_group list)

statement_case : (x : Statement-F SomeBlockItem SomeStatement SomeBlock SomeGroup) → Making (λ _. ⊥) IsOf (statement_step (parts_in_statement (seen_statement x)))
statement_case (Statement-F.Block body) = making_block (items body.0) body.1
statement_case Statement-F.Empty = making_pure Statement.Empty (λ k no_k. absurd no_k)
statement_case (Statement-F.Simple x) = making_finding (λ s. z.simple s x) (λ s. simple_makes s x)
statement_case (Statement-F.Break at) = making_break at
statement_case (Statement-F.Continue at) = making_continue at
statement_case (Statement-F.If test consequent None) = making_branch test (statement consequent.0) (pure Statement.Done) consequent.1
    (making_pure Statement.Done (λ k no_k. absurd no_k))
statement_case (Statement-F.If test consequent (Some alternative)) = making_branch test (statement consequent.0) (statement alternative.0) consequent.1 alternative.1
statement_case (Statement-F.While test body) = making_while test (statement body.0) body.1
statement_case (Statement-F.DoWhile body test) = making_do_while test (statement body.0) body.1
statement_case (Statement-F.For begin test step body) = making_for begin test step (statement body.0) body.1
statement_case (Statement-F.Return x at) = making_finding (λ s. z.returned s x at) (λ s. returned_makes s x at)
statement_case (Statement-F.Switch e groups at) = making_switch e (map group (map (λ g. g.0) groups)) (place_in_tree at) (each_group groups)

each_statement : (list : List SomeStatement) → AllByRecursion (λ (w : Goes Statement). (c : y.Cases) → Making (λ k. IsOfAny c.steps k) IsOfCases (y.next_statement c w))
    (map statement (map (λ e. e.0) list))
each_statement [] = tt
each_statement (x ∷ list) = (λ c. next_makes c (statement x.0) x.1, each_statement list)

group_case : (x : Group-F SomeBlockItem SomeStatement SomeBlock SomeGroup) → MakesGroup (group_step (parts_in_group (seen_group x)))
group_case x ty c =
    let list = map statement (map (λ e. e.0) x.statements) in
    making_then (finding (y.label ty x.label c)) (λ d. through y.next_statement d list) (making_of (y.label ty x.label c) (label_makes ty x.label c))
    (λ d. making_through {Made = IsOfCases} y.next_statement d list (each_statement x.statements))

item_induct : (x : BlockItem-F BlockItemTree StatementTree BlockTree GroupTree) (t : BlockItem-F SomeBlockItem SomeStatement SomeBlock SomeGroup) → seen_item t ≡ x → ClaimBlockItem (roll-BlockItem x)
item_induct x t e = subst (λ k. ClaimBlockItem (roll-BlockItem k)) e
    (λ list. subst (λ (w : Adds). Making (IsOfAny list) IsOfAny (w list))
    (sym (fold-roll-BlockItem Adds (Goes Statement) (Goes Statement) Groups item_step statement_step block_step group_step (seen_item t))) (item_case t list))

statement_induct : (x : Statement-F BlockItemTree StatementTree BlockTree GroupTree) (t : Statement-F SomeBlockItem SomeStatement SomeBlock SomeGroup) → seen_statement t ≡ x → ClaimStatement
    (roll-Statement x)
statement_induct x t e = subst (λ k. ClaimStatement (roll-Statement k)) e
    (subst (λ (w : Goes Statement). Making (λ _. ⊥) IsOf w)
    (sym (fold-roll-Statement Adds (Goes Statement) (Goes Statement) Groups item_step statement_step block_step group_step (seen_statement t))) (statement_case t))

block_induct : (x : Block-F BlockItemTree StatementTree BlockTree GroupTree) (t : Block-F SomeBlockItem SomeStatement SomeBlock SomeGroup) → seen_block t ≡ x → ClaimBlock (roll-Block x)
block_induct x t e = subst (λ k. ClaimBlock (roll-Block k)) e
    (subst (λ (w : Goes Statement). Making (λ _. ⊥) IsOf w) (sym (fold-roll-Block Adds (Goes Statement) (Goes Statement) Groups item_step statement_step block_step group_step (seen_block t)))
    (block_case t))

group_induct : (x : Group-F BlockItemTree StatementTree BlockTree GroupTree) (t : Group-F SomeBlockItem SomeStatement SomeBlock SomeGroup) → seen_group t ≡ x → ClaimGroup (roll-Group x)
group_induct x t e = subst (λ k. ClaimGroup (roll-Group k)) e
    (subst MakesGroup (sym (fold-roll-Group Adds (Goes Statement) (Goes Statement) Groups item_step statement_step block_step group_step (seen_group t))) (group_case t))

-- each create that a body finds is one of its statements
pub body_makes : (x : BlockTree) → Making (λ _. ⊥) IsOf (items x)
body_makes = ind-Block ClaimBlockItem ClaimStatement ClaimBlock ClaimGroup item_induct statement_induct block_induct group_induct
