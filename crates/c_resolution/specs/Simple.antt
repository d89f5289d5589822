-- Statements without statements in them (C99 6.8.3, 6.8.6, 6.5.16).
use Rattle.std.specs.Prelude.{ℕ, nat_eq, Bool, true, false, not, if◌then◌else◌, Option, Some, None, pos}
use Rattle.hls_ints.specs.Types.{int_type}
use Rattle.c_token.specs.declared.constant.Constant.{Constant}
use Rattle.c_token.specs.declared.constant.Constant.TheVariants as constant
use Rattle.c_tree.specs.declared.expression.BinaryOperator.{BinaryOperator}
use Rattle.c_tree.specs.declared.expression.Form.{out-Form}
use Rattle.c_tree.specs.declared.expression.Expression.{Expression as ExpressionTree, out-Expression}
use Rattle.c_tree.specs.declared.expression.Place.{Place as PlaceTree}
use Rattle.c_tree.specs.declared.expression.Argument.TheOpen.{Form-F}
use Rattle.c_tree.specs.declared.statement.AssignmentOperator.{AssignmentOperator}
use Rattle.c_tree.specs.declared.statement.AssignmentOperator.TheVariants as assignment
use Rattle.c_tree.specs.declared.statement.Direction.{Direction}
use Rattle.c_tree.specs.declared.statement.Direction.TheVariants as direction
use Rattle.c_tree.specs.declared.statement.SimpleForm.{SimpleForm}
use Rattle.c_tree.specs.declared.statement.SimpleForm.TheVariants as form
use Rattle.c_tree.specs.declared.statement.SimpleStatement.{SimpleStatement}
use Rattle.c_tree.specs.declared.statement.Returned.{Returned}
use Rattle.c_tree.specs.declared.statement.Returned.TheVariants as returned_as
use Rattle.c_program.specs.declared.tree.BinaryOperator.{BinaryOperator as ResolvedBinary}
use Rattle.c_program.specs.declared.tree.BinaryOperator.TheVariants.{Add, Subtract}
use Rattle.c_program.specs.Tree.{Expression, Place, Statement}
use Rattle.c_program.specs.Types.{type_of, working_type}
use Rattle.c_program.specs.Resolved.{is_comparison, place_type}
use Rattle.c_rules.specs.declared.fault.Rule.TheVariants as rule
use Rattle.c_rules.specs.declared.names.Gives.{Gives}
use Rattle.c_rules.specs.declared.names.Gives.TheVariants as gives
use Rattle.c_rules.specs.declared.names.Scope.{Scope}
use Rattle.c_rules.specs.Walks.{Finds, pure, finds, finds_if, place_in_tree, ◌>>=◌, ◌>>◌}
use Rattle.c_calls.specs.Expressions.{binary_operator, value}
use Rattle.c_calls.specs.Arguments.{FormLayer, pointer_value}
use Rattle.c_calls.specs.Calls.{call}
use Rattle.c_calls.specs.Cuts.{Cut, free_from}
use Rattle.c_calls.specs.Sequences.{behind_cuts}
use Rattle.c_calls.specs.Targets.{target}

-- ---- assignments

-- a compound assignment has no comparison and no short circuit
abbrev pub unless_comparison : Option ResolvedBinary → Option ResolvedBinary
unless_comparison None = None
unless_comparison (Some operator) = if is_comparison operator then None else Some operator

abbrev pub compound_operator : BinaryOperator → Option ResolvedBinary
compound_operator operator = unless_comparison (binary_operator operator)

-- behind the cuts of the right side and of the indices
abbrev pub updated : ℕ → Cut Place → ResolvedBinary → Expression → Statement
updated at place operator right =
    behind_cuts place.cuts.before
    (Statement.Update (place_in_tree at) place.rest operator (working_type operator (place_type place.rest) (type_of right)) right)

unfoldable pub compound_by : Option ResolvedBinary → ℕ → Cut Place → Expression → Finds Statement
compound_by (Some operator) at place right = pure (updated at place operator right)
compound_by None at place right = do
  finds rule.Place at
  pure Statement.Empty

-- ++ and -- are the compound assignments of an int 1 (6.5.3.1)
abbrev pub stepping : Direction → ResolvedBinary
stepping direction.Up = Add
stepping direction.Down = Subtract

abbrev pub int_one : Expression
int_one = Expression.Constant int_type (pos 1)

-- ---- returns

abbrev pub is_zero_constant : Constant → Bool
is_zero_constant (constant.Typed value ty) = nat_eq value 0
is_zero_constant constant.TooLarge = false

abbrev pub is_zero_form : FormLayer → Bool
is_zero_form (Form-F.Constant c at) = is_zero_constant c
is_zero_form other = false

-- the constant 0
abbrev pub is_zero : ExpressionTree → Bool
is_zero e = is_zero_form (out-Form (out-Expression e).form)

-- whether a function that gives so may return so
abbrev pub may_return : Gives → Returned → Bool
may_return gives.Unlisted x = true
may_return gives.Nothing returned_as.Nothing = true
may_return gives.Integer (returned_as.Value e) = true
may_return gives.Pointer (returned_as.Pointer p) = true
may_return gives.Pointer (returned_as.Value e) = is_zero e
may_return given x = false

module _ (s : Scope) where
  -- the right side is evaluated first, then the indices of what is assigned to
  unfoldable pub assigned : ℕ → PlaceTree → ExpressionTree → Finds Statement
  assigned at place e = do
    right ← value s e (place_in_tree at) (free_from s.kept_from)
    p ← target s place (place_in_tree at) right.cuts
    pure (behind_cuts p.cuts.before (Statement.Assign (place_in_tree at) p.rest right.rest))

  unfoldable pub compound : ℕ → PlaceTree → BinaryOperator → ExpressionTree → Finds Statement
  compound at place operator e = do
    right ← value s e (place_in_tree at) (free_from s.kept_from)
    p ← target s place (place_in_tree at) right.cuts
    compound_by (compound_operator operator) at p right.rest

  unfoldable pub step : ℕ → PlaceTree → Direction → Finds Statement
  step at place way = do
    p ← target s place (place_in_tree at) (free_from s.kept_from)
    pure (updated at p (stepping way) int_one)

  abbrev pub assign : ℕ → PlaceTree → AssignmentOperator → ExpressionTree → Finds Statement
  assign at place assignment.Set e = assigned at place e
  assign at place (assignment.Compound operator) e = compound at place operator e

  abbrev pub simple_form : ℕ → SimpleForm → Finds Statement
  simple_form at (form.Assign place operator e) = assign at place operator e
  simple_form at (form.Step place way) = step at place way
  simple_form at (form.Call c) = call s (place_in_tree at) c

  unfoldable pub simple : SimpleStatement → Finds Statement
  simple x = simple_form x.offset x.form

  -- ---- what a return gives back

  -- a return of a value behind its cuts
  abbrev pub given_back : ℕ → Cut Expression → Statement
  given_back at right = behind_cuts right.cuts.before (Statement.Return at (Some right.rest))

  abbrev pub return_at : ℕ → Returned → Finds Statement
  return_at at returned_as.Nothing = pure (Statement.Return at None)
  return_at at (returned_as.Value e) = do
    right ← value s e at (free_from s.kept_from)
    pure (given_back at right)
  return_at at (returned_as.Pointer p) = do
    right ← pointer_value s p at (free_from s.kept_from)
    pure (given_back at right)

  unfoldable pub returned : Returned → ℕ → Finds Statement
  returned x at = do
    finds_if (not (may_return s.gives x)) rule.Kind at
    return_at (place_in_tree at) x

  -- a break outside of loops and switches, and a continue outside of loops
  unfoldable pub check_break : ℕ → Finds (Unit {0})
  check_break at = finds_if (nat_eq s.exits 0) rule.Place at

  unfoldable pub check_continue : ℕ → Finds (Unit {0})
  check_continue at = finds_if (nat_eq s.loops 0) rule.Place at
