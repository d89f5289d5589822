-- What statements without statements in them write.
use Rattle.std.proofs.Common.{ℕ, Bool, true, false, [], ◌∷◌, ◌++◌, length, Option, Some, None}
use Rattle.std.specs.Prelude.{not, nat_eq}
use Rattle.c_tree.specs.declared.expression.BinaryOperator.{BinaryOperator}
use Rattle.c_tree.specs.declared.expression.Expression.{Expression as ExpressionTree}
use Rattle.c_tree.specs.declared.expression.Place.{Place as PlaceTree, out-Place}
use Rattle.c_tree.specs.declared.statement.AssignmentOperator.{AssignmentOperator}
use Rattle.c_tree.specs.declared.statement.AssignmentOperator.TheVariants as assignment
use Rattle.c_tree.specs.declared.statement.Direction.{Direction}
use Rattle.c_tree.specs.declared.statement.SimpleForm.{SimpleForm}
use Rattle.c_tree.specs.declared.statement.SimpleForm.TheVariants as form
use Rattle.c_tree.specs.declared.statement.SimpleStatement.{SimpleStatement}
use Rattle.c_tree.specs.declared.statement.Returned.{Returned}
use Rattle.c_tree.specs.declared.statement.Returned.TheVariants as returned_as
use Rattle.c_program.specs.declared.tree.BinaryOperator.{BinaryOperator as ResolvedBinary}
use Rattle.c_program.specs.Tree.{Expression, Place, Statement}
use Rattle.c_rules.specs.declared.fault.Rule.{Rule}
use Rattle.c_rules.specs.declared.fault.Rule.TheVariants as rule
use Rattle.c_rules.specs.declared.names.Scope.{Scope}
use Rattle.c_rules.specs.Names.{look_up}
use Rattle.c_rules.specs.Walks.{pure, finds, finds_if, finds_any, place_in_tree, ◌>>=◌, ◌>>◌}
use Rattle.c_expressions.specs.Cuts.{Cuts, Cut, cut, free_from}
use Rattle.c_expressions.specs.Expressions as e
use Rattle.c_expressions.specs.Targets as t
use Rattle.c_calls.specs.Arguments as a
use Rattle.c_expressions.specs.Sequences.{behind_cuts}
use Rattle.c_resolution.specs.Simple as y
use Rattle.c_broken_rules.specs.Sight.{Where}
use Rattle.c_broken_rules.specs.Parts as p
use Rattle.c_broken_rules.specs.Parts.{Part, all_of}
use Rattle.c_broken_rules.proofs.Ledgers.{Ledger, Good, good_pure, good_then, good_before, nothing_new}
use Rattle.c_broken_rules.proofs.Events.{Events, Creates}
use Rattle.c_broken_rules.proofs.Values.{good_number, good_value}
use Rattle.c_broken_rules.proofs.Arguments.{pointer_value}
use Rattle.c_broken_rules.proofs.Calls.{call}

module _ (L : Ledger) (s : Scope) (w : Where) (events : Events L s w) where
  target : (q : PlaceTree) (at : ℕ) (cuts : Cuts) → Good L (t.target s q at cuts) (p.place_parts w q)
  unfolding t.target
  target q at cuts =
      let name = (out-Place q).name in
      let v = e.variable_named s name in
      let fault = t.target_fault (look_up s name.bytes) (length (out-Place q).indices) in
      let made = λ (i : Cut (Option Expression)). cut i.cuts (t.named_place v i.rest) in
      good_then L (e.place_number s (e.dimensions_of v) q at cuts) (λ i. finds_any fault name.offset >> pure (made i)) (all_of (p.indexed w q).indices) (Part.Use w name ∷ [])
      (good_number L s w events (e.dimensions_of v) q at cuts)
      (λ i. good_before L (finds_any fault name.offset) (λ _. pure (made i)) (Part.Use w name ∷ []) (events.target name (length (out-Place q).indices)) (λ _. good_pure L (made i)))

  other_if : (b : Bool) (r : Rule) (at : ℕ) → Good L (finds r at) [] → Good L (finds_if b r at) []
  other_if true r at h = record { writes = h.writes }
  other_if false r at h = record { writes = λ found. nothing_new L found }

  -- the right side, then the place
  assigned : (at : ℕ) (q : PlaceTree) (v : ExpressionTree) → Good L (y.assigned s at q v) (p.expression_parts w v ++ p.place_parts w q)
  unfolding y.assigned
  assigned at q v =
      let there = place_in_tree at in
      let right = e.value s v there (free_from s.kept_from) in
      let made = λ (r : Cut Expression) (o : Cut Place). behind_cuts o.cuts.before (Statement.Assign there o.rest r.rest) in
      good_then L right (λ r. t.target s q there r.cuts >>= (λ o. pure (made r o))) (p.expression_parts w v) (p.place_parts w q)
      (good_value L s w events v there (free_from s.kept_from))
      (λ r. good_before L (t.target s q there r.cuts) (λ o. pure (made r o)) (p.place_parts w q) (target q there r.cuts) (λ o. good_pure L (made r o)))

  compound_by : (o : Option ResolvedBinary) (at : ℕ) (q : Cut Place) (v : Expression) → Good L (y.compound_by o at q v) []
  unfolding y.compound_by
  compound_by (Some o) at q v = good_pure L (y.updated at q o v)
  compound_by None at q v = good_before L (finds rule.Place at) (λ _. pure Statement.Empty) [] (events.other rule.Place at tt) (λ _. good_pure L Statement.Empty)

  compound : (at : ℕ) (q : PlaceTree) (o : BinaryOperator) (v : ExpressionTree) → Good L (y.compound s at q o v) (p.expression_parts w v ++ p.place_parts w q)
  unfolding y.compound
  compound at q o v =
      let there = place_in_tree at in
      let right = e.value s v there (free_from s.kept_from) in
      let last = λ (r : Cut Expression) (z : Cut Place). y.compound_by (y.compound_operator o) at z r.rest in
      good_then L right (λ r. t.target s q there r.cuts >>= (λ z. last r z)) (p.expression_parts w v) (p.place_parts w q)
      (good_value L s w events v there (free_from s.kept_from))
      (λ r. good_before L (t.target s q there r.cuts) (λ z. last r z) (p.place_parts w q) (target q there r.cuts) (λ z. compound_by (y.compound_operator o) at z r.rest))

  step : (at : ℕ) (q : PlaceTree) (way : Direction) → Good L (y.step s at q way) (p.place_parts w q)
  unfolding y.step
  step at q way =
      let there = place_in_tree at in
      let made = λ (z : Cut Place). y.updated at z (y.stepping way) y.int_one in
      good_before L (t.target s q there (free_from s.kept_from)) (λ z. pure (made z)) (p.place_parts w q) (target q there (free_from s.kept_from)) (λ z. good_pure L (made z))

  assign : (at : ℕ) (q : PlaceTree) (o : AssignmentOperator) (v : ExpressionTree) → Good L (y.assign s at q o v) (p.expression_parts w v ++ p.place_parts w q)
  assign at q assignment.Set v = assigned at q v
  assign at q (assignment.Compound o) v = compound at q o v

  return_at : (at : ℕ) (x : Returned) → Good L (y.return_at s at x) (p.returned_parts w x)
  return_at at returned_as.Nothing = good_pure L (Statement.Return at None)
  return_at at (returned_as.Value v) =
      good_before L (e.value s v at (free_from s.kept_from)) (λ r. pure (y.given_back s at r)) (p.expression_parts w v)
      (good_value L s w events v at (free_from s.kept_from)) (λ r. good_pure L (y.given_back s at r))
  return_at at (returned_as.Pointer q) =
      good_before L (a.pointer_value s q at (free_from s.kept_from)) (λ r. pure (y.given_back s at r)) (p.pointer_parts w q)
      (pointer_value L s w events q at (free_from s.kept_from)) (λ r. good_pure L (y.given_back s at r))

  pub returned : (x : Returned) (at : ℕ) → Good L (y.returned s x at) (p.returned_parts w x)
  unfolding y.returned
  returned x at =
      good_then L (finds_if (not (y.may_return s.gives x)) rule.Kind at) (λ _. y.return_at s (place_in_tree at) x) [] (p.returned_parts w x)
      (other_if (not (y.may_return s.gives x)) rule.Kind at (events.other rule.Kind at tt)) (λ _. return_at (place_in_tree at) x)

  pub break_is : (at : ℕ) → Good L (y.check_break s at) []
  unfolding y.check_break
  break_is at = other_if (nat_eq s.exits 0) rule.Place at (events.other rule.Place at tt)

  pub continue_is : (at : ℕ) → Good L (y.check_continue s at) []
  unfolding y.check_continue
  continue_is at = other_if (nat_eq s.loops 0) rule.Place at (events.other rule.Place at tt)

module _ (L : Ledger) (s : Scope) (w : Where) (events : Events L s w) (creates_are : Creates L s w) where
  simple_form : (at : ℕ) (f : SimpleForm) → Good L (y.simple_form s at f) (p.simple_form_parts w f)
  simple_form at (form.Assign q o v) = assign L s w events at q o v
  simple_form at (form.Step q way) = step L s w events at q way
  simple_form at (form.Call x) = call L s w events creates_are (place_in_tree at) x

  pub simple : (x : SimpleStatement) → Good L (y.simple s x) (p.simple_parts w x)
  unfolding y.simple
  simple x = simple_form x.offset x.form
