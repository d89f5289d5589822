-- What statements without statements in them give.
use Rattle.std.proofs.Common.{◌≡◌, refl, sym, subst, ℕ, ◌<◌, ◌≤◌, Bool, true, false, Option, Some, None, arith}
use Rattle.std.specs.Prelude.{◌+◌, not, if◌then◌else◌, ⊤}
use Rattle.std.proofs.lemmas.Bool.{not-false}
use Rattle.lists.proofs.Places.{all_back, all_front}
use Rattle.c_tree.specs.declared.expression.BinaryOperator.{BinaryOperator}
use Rattle.c_tree.specs.declared.expression.Expression.{Expression as ExpressionTree}
use Rattle.c_tree.specs.declared.expression.Place.{Place as PlaceTree}
use Rattle.c_tree.specs.declared.expression.Pointer.{Pointer as PointerTree}
use Rattle.c_tree.specs.declared.statement.AssignmentOperator.{AssignmentOperator}
use Rattle.c_tree.specs.declared.statement.AssignmentOperator.TheVariants as assignment
use Rattle.c_tree.specs.declared.statement.Direction.{Direction}
use Rattle.c_tree.specs.declared.statement.Direction.TheVariants as direction
use Rattle.c_tree.specs.declared.statement.SimpleForm.{SimpleForm}
use Rattle.c_tree.specs.declared.statement.SimpleForm.TheVariants as form
use Rattle.c_tree.specs.declared.statement.SimpleStatement.{SimpleStatement}
use Rattle.c_tree.specs.declared.statement.Returned.{Returned}
use Rattle.c_tree.specs.declared.statement.Returned.TheVariants as returned_as
use Rattle.c_program.specs.declared.tree.BinaryOperator.{BinaryOperator as ResolvedBinary}
use Rattle.c_program.specs.declared.tree.ReturnType.{ReturnType}
use Rattle.c_program.specs.declared.tree.ReturnType.TheVariants as returns_as
use Rattle.c_program.specs.Tree.{Expression, Place, Statement, Function, Program}
use Rattle.c_program.specs.Types.{type_of, working_type}
use Rattle.c_program.specs.Weight.{expression_weight, place_weight}
use Rattle.c_program.specs.Resolved as r
use Rattle.c_rules.specs.declared.fault.Rule.TheVariants as rule
use Rattle.c_rules.specs.declared.findings.Findings.{Findings}
use Rattle.c_rules.specs.declared.names.Gives.{Gives}
use Rattle.c_rules.specs.declared.names.Gives.TheVariants as gives
use Rattle.c_rules.specs.declared.names.Scope.{Scope}
use Rattle.c_rules.specs.Walks.{pure, finds, finds_if, place_in_tree, ◌>>=◌}
use Rattle.c_expressions.specs.Expressions.{binary_operator, value}
use Rattle.c_calls.specs.Arguments as a
use Rattle.c_expressions.specs.Cuts.{Cuts, Cut, free_from}
use Rattle.c_expressions.specs.Targets.{target}
use Rattle.c_expressions.specs.Sequences.{behind_cuts}
use Rattle.c_resolution.specs.Simple as y
use Rattle.c_resolved_program.specs.Leaves.{AreValid, expression_leaves, place_leaves, simple_form_leaves, simple_leaves, returned_leaves}
use Rattle.c_resolved_program.specs.Orders.{IsOrderly, IsGiven, IsInOrder, GivesRoutines}
use Rattle.c_resolved_program.proofs.Walks.{Shows, shows_pure, shows_then, shows_as, shows_broken, shows_if, IfAny}
use Rattle.c_resolved_program.proofs.Known.{Is}
use Rattle.c_resolved_program.proofs.Arguments.{target_shows, pointer_value_shows}
use Rattle.c_resolved_program.proofs.Calls as k
use Rattle.c_resolved_program.proofs.Cuts as u
use Rattle.c_resolved_program.proofs.Behind as b
use Rattle.c_resolved_program.proofs.Trees.{value_shows}

comparison_by : (b : Bool) (o : ResolvedBinary) → r.is_comparison o ≡ b → IfAny (λ o. r.is_comparison o ≡ false) (if b then None else Some o)
comparison_by true o is = tt
comparison_by false o is = is

unless_is : (o : Option ResolvedBinary) → IfAny (λ o. r.is_comparison o ≡ false) (y.unless_comparison o)
unless_is None = tt
unless_is (Some o) = comparison_by (r.is_comparison o) o refl

module _ (whole : Findings) (P : Program) (number : ℕ) (f : Function) (small : f.declared_locals < 0xffff_ffff) (s : Scope) (given_routines : GivesRoutines whole P) (around : r.Around) where
  abbrev Now : Type 0
  Now = IsOrderly P number f s

  abbrev InOrder : Statement → Type 0
  InOrder x = IsInOrder whole P number f around x

  abbrev from : ℕ
  from = s.kept_from

  abbrev none : Cuts
  none = free_from s.kept_from

  starts : Now → Now × u.AreCuts whole P number f from 0 none
  starts now = (now, b.starts whole P number f s now)

  -- a value at the head of a step
  abbrev pub IsRight : Cut Expression → Type 0
  IsRight x = u.IsValue whole P number f from 0 none x

  pub right_shows : (e : ExpressionTree) (at : ℕ) → AreValid (expression_leaves e) → Shows whole Now IsRight (value s e at none)
  right_shows e at valid = shows_as (value s e at none) starts (λ _ _ is. is) (value_shows whole P number f small s e valid from 0 at none)

  -- ---- assignments

  -- a place behind the cuts before it
  abbrev Target : ℕ → Cuts → Cut Place → Type 0
  Target p cuts x = u.Follows whole P number f place_weight (r.IsPlace P f) from p cuts x

  assigned_is : (at : ℕ) (right : Cut Expression) (place : Cut Place) → Now → IsRight right → Target (0 + u.value_room right.rest) right.cuts place →
      InOrder (behind_cuts place.cuts.before (Statement.Assign at place.rest right.rest))
  assigned_is at right place now is target =
      b.plain_behind whole P number f around s (0 + u.value_room right.rest + place_weight place.rest) place.cuts (Statement.Assign at place.rest right.rest) now target.cuts (omega arith) refl
      (λ fit. (target.rest fit, is.rest (let more = target.more in omega (arith, fit, more)))) refl refl

  assigned_shows : (at : ℕ) (q : PlaceTree) (e : ExpressionTree) → AreValid (place_leaves q) → AreValid (expression_leaves e) → Shows whole Now InOrder (y.assigned s at q e)
  unfolding y.assigned
  assigned_shows at q e h0 h1 =
      let here = place_in_tree at in
      let made = λ (right : Cut Expression) (place : Cut Place). behind_cuts place.cuts.before (Statement.Assign here place.rest right.rest) in
      shows_then (value s e here none) (λ right. target s q here right.cuts >>= (λ place. pure (made right place))) (right_shows e here h1)
      (λ right. shows_then (target s q here right.cuts) (λ place. pure (made right place))
      (shows_as (target s q here right.cuts) (λ x. (x.0, x.1.cuts)) (λ _ _ is. is) (target_shows whole P number f small s q h0 from (0 + u.value_room right.rest) here right.cuts))
      (λ place. shows_pure (made right place) (λ x. assigned_is here right place x.0.0 x.0.1 x.1)))

  -- a declarator's initial value
  pub initial_is : (at : ℕ) (place : Place) (right : Cut Expression) → Now → place_weight place ≡ 0 → r.IsPlace P f place → IsRight right →
      InOrder (behind_cuts right.cuts.before (Statement.Assign at place right.rest))
  initial_is at place right now scalar target is =
      b.plain_behind whole P number f around s (0 + u.value_room right.rest) right.cuts (Statement.Assign at place right.rest) now is.cuts (omega arith) refl
      (λ fit. (target, is.rest fit)) refl refl

  updated_is : (at p : ℕ) (place : Cut Place) (operator : ResolvedBinary) (right : Expression) → Now → r.is_comparison operator ≡ false →
      u.AreCuts whole P number f from p place.cuts → p ≤ place_weight place.rest + expression_weight right + 5 →
      (u.Fits whole P number f place.cuts → r.IsPlace P f place.rest × Is P f right) → InOrder (y.updated at place operator right)
  updated_is at p place operator right now compound h le is =
      b.plain_behind whole P number f around s p place.cuts
      (Statement.Update (place_in_tree at) place.rest operator (working_type operator (r.place_type place.rest) (type_of right)) right) now h (omega (arith, le)) refl
      (λ fit. let both = is fit in record { compound = compound; works_in = refl; target = both.0; operand = both.1 }) refl refl

  compound_by_shows : (o : Option ResolvedBinary) (at : ℕ) (right : Cut Expression) (place : Cut Place) → IfAny (λ o. r.is_comparison o ≡ false) o →
      Shows whole (Now × IsRight right × Target (0 + u.value_room right.rest) right.cuts place) InOrder (y.compound_by o at place right.rest)
  unfolding y.compound_by
  compound_by_shows (Some o) at right place compound =
      shows_pure (y.updated at place o right.rest)
      (λ x. updated_is at (0 + u.value_room right.rest + place_weight place.rest) place o right.rest x.0 compound x.2.cuts (omega arith)
      (λ fit. (x.2.rest fit, x.1.rest (let more = x.2.more in omega (arith, fit, more)))))
  compound_by_shows None at right place compound =
      shows_then (finds rule.Place at) (λ _. pure Statement.Empty) (shows_broken {Is = λ _. ⊤} rule.Place at)
      (λ _. shows_pure Statement.Empty (λ _. b.empty_in whole P number f around))

  compound_shows : (at : ℕ) (q : PlaceTree) (operator : BinaryOperator) (e : ExpressionTree) → AreValid (place_leaves q) → AreValid (expression_leaves e) →
      Shows whole Now InOrder (y.compound s at q operator e)
  unfolding y.compound
  compound_shows at q operator e h0 h1 =
      let here = place_in_tree at in
      let o = y.compound_operator operator in
      shows_then (value s e here none) (λ right. target s q here right.cuts >>= (λ place. y.compound_by o at place right.rest)) (right_shows e here h1)
      (λ right. shows_then (target s q here right.cuts) (λ place. y.compound_by o at place right.rest)
      (shows_as (target s q here right.cuts) (λ x. (x.0, x.1.cuts)) (λ _ _ is. is) (target_shows whole P number f small s q h0 from (0 + u.value_room right.rest) here right.cuts))
      (λ place. shows_as (y.compound_by o at place right.rest) (λ x. (x.0.0, x.0.1, x.1)) (λ _ _ is. is)
      (compound_by_shows o at right place (unless_is (binary_operator operator)))))

  stepping_is : (way : Direction) → r.is_comparison (y.stepping way) ≡ false
  stepping_is direction.Up = refl
  stepping_is direction.Down = refl

  step_shows : (at : ℕ) (q : PlaceTree) (way : Direction) → AreValid (place_leaves q) → Shows whole Now InOrder (y.step s at q way)
  unfolding y.step
  step_shows at q way h =
      let here = place_in_tree at in
      shows_then (target s q here none) (λ place. pure (y.updated at place (y.stepping way) y.int_one))
      (shows_as (target s q here none) starts (λ _ _ is. is) (target_shows whole P number f small s q h from 0 here none))
      (λ place. shows_pure (y.updated at place (y.stepping way) y.int_one)
      (λ x. updated_is at (0 + place_weight place.rest) place (y.stepping way) y.int_one x.0 (stepping_is way) x.1.cuts (omega arith) (λ fit. (x.1.rest fit, refl))))

  assign_shows : (at : ℕ) (q : PlaceTree) (o : AssignmentOperator) (e : ExpressionTree) → AreValid (place_leaves q) → AreValid (expression_leaves e) →
      Shows whole Now InOrder (y.assign s at q o e)
  assign_shows at q assignment.Set e h0 h1 = assigned_shows at q e h0 h1
  assign_shows at q (assignment.Compound operator) e h0 h1 = compound_shows at q operator e h0 h1

  simple_form_shows : (at : ℕ) (x : SimpleForm) → AreValid (simple_form_leaves x) → Shows whole Now InOrder (y.simple_form s at x)
  simple_form_shows at (form.Assign q o e) valid =
      assign_shows at q o e (all_front _ (place_leaves q) (expression_leaves e) valid) (all_back _ (place_leaves q) (expression_leaves e) valid)
  simple_form_shows at (form.Step q way) valid = step_shows at q way valid
  simple_form_shows at (form.Call x) valid = k.call_shows whole P number f small s given_routines around (place_in_tree at) x valid

  pub simple_shows : (x : SimpleStatement) → AreValid (simple_leaves x) → Shows whole Now InOrder (y.simple s x)
  unfolding y.simple
  simple_shows x valid = simple_form_shows x.offset x.form valid

  -- ---- returns

  nothing_returned : (g : Gives) (returns : ReturnType) → y.may_return g returned_as.Nothing ≡ true → IsGiven g returns → r.IsReturn P f returns None
  nothing_returned gives.Nothing returns may is = subst (λ x. r.IsReturn P f x None) (sym is) tt
  nothing_returned gives.Integer returns may is = cc
  nothing_returned gives.Pointer returns may is = cc
  nothing_returned gives.Unlisted returns may is = absurd is

  integer_returned : (returns : ReturnType) (x : Expression) → IsGiven gives.Integer returns → Is P f x → r.IsReturn P f returns (Some x)
  integer_returned (returns_as.Integer ty) x given is = is
  integer_returned returns_as.Void x given is = absurd given
  integer_returned returns_as.Pointer x given is = absurd given

  value_returned : (g : Gives) (returns : ReturnType) (e : ExpressionTree) (x : Expression) → y.may_return g (returned_as.Value e) ≡ true → IsGiven g returns →
      Is P f x → r.IsReturn P f returns (Some x)
  value_returned gives.Nothing returns e x may given is = cc
  value_returned gives.Integer returns e x may given is = integer_returned returns x given is
  value_returned gives.Pointer returns e x may given is = subst (λ y. r.IsReturn P f y (Some x)) (sym given) is
  value_returned gives.Unlisted returns e x may given is = absurd given

  pointer_returned : (g : Gives) (returns : ReturnType) (p : PointerTree) (x : Expression) → y.may_return g (returned_as.Pointer p) ≡ true → IsGiven g returns →
      Is P f x → r.IsReturn P f returns (Some x)
  pointer_returned gives.Nothing returns p x may given is = cc
  pointer_returned gives.Integer returns p x may given is = cc
  pointer_returned gives.Pointer returns p x may given is = subst (λ y. r.IsReturn P f y (Some x)) (sym given) is
  pointer_returned gives.Unlisted returns p x may given is = absurd given

  given_back_is : (at : ℕ) (right : Cut Expression) → Now → IsRight right → (Is P f right.rest → r.IsReturn P f f.returns (Some right.rest)) → InOrder (y.given_back s at right)
  given_back_is at right now is gives =
      b.plain_behind whole P number f around s (0 + u.value_room right.rest) right.cuts (Statement.Return at (Some right.rest)) now is.cuts (omega arith) refl (λ fit. gives (is.rest fit)) refl refl

  return_at_shows : (at : ℕ) (x : Returned) → AreValid (returned_leaves x) → Shows whole (Now × (y.may_return s.gives x ≡ true)) InOrder (y.return_at s at x)
  return_at_shows at returned_as.Nothing valid =
      shows_pure (Statement.Return at None) (λ x. b.plain_in whole P number f around (Statement.Return at None) (nothing_returned s.gives f.returns x.1 x.0.gives) refl refl refl)
  return_at_shows at (returned_as.Value e) valid =
      shows_then (value s e at none) (λ right. pure (y.given_back s at right)) (shows_as (value s e at none) (λ x. x.0) (λ _ _ is. is) (right_shows e at valid))
      (λ right. shows_pure (y.given_back s at right)
      (λ x. given_back_is at right x.0.0 x.1 (λ is. value_returned s.gives f.returns e right.rest x.0.1 x.0.0.gives is)))
  return_at_shows at (returned_as.Pointer q) valid =
      shows_then (a.pointer_value s q at none) (λ right. pure (y.given_back s at right))
      (shows_as (a.pointer_value s q at none) (λ x. starts x.0) (λ _ _ is. is) (pointer_value_shows whole P number f small s q valid from 0 at none))
      (λ right. shows_pure (y.given_back s at right)
      (λ x. given_back_is at right x.0.0 x.1 (λ is. pointer_returned s.gives f.returns q right.rest x.0.1 x.0.0.gives is)))

  pub returned_shows : (x : Returned) (at : ℕ) → AreValid (returned_leaves x) → Shows whole Now InOrder (y.returned s x at)
  unfolding y.returned
  returned_shows x at valid =
      shows_then (finds_if (not (y.may_return s.gives x)) rule.Kind at) (λ _. y.return_at s (place_in_tree at) x)
      (shows_if (not (y.may_return s.gives x)) rule.Kind at)
      (λ _. shows_as (y.return_at s (place_in_tree at) x) (λ z. (z.0, not-false (y.may_return s.gives x) z.1)) (λ _ _ is. is) (return_at_shows (place_in_tree at) x valid))
