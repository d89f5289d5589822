-- What the lines of a generated text stand for, one after another.
use Rattle.std.proofs.Common.{◌≡◌, ℕ, List, [], ◌∷◌, ◌++◌, map, append_assoc, append-nil, None, refl, sym, ap, ◌∙◌}
use Rattle.std.specs.Prelude.{fold}
use Rattle.hls_ints.specs.Types.{unsigned_int}
use Rattle.c_lexer.specs.Texts.{tokens}
use Rattle.c_tree.specs.declared.expression.BinaryOperator.TheVariants as b
use Rattle.c_tree.specs.declared.expression.Expression.{Expression as ExpressionTree}
use Rattle.c_tree.specs.declared.expression.Form.TheVariants as form
use Rattle.c_tree.specs.declared.statement.AssignmentOperator.TheVariants.{Set}
use Rattle.c_tree.specs.declared.statement.BlockItem.{BlockItem}
use Rattle.c_tree.specs.declared.statement.BlockItem.TheVariants as block_item
use Rattle.c_tree.specs.declared.statement.Statement.TheVariants as st
use Rattle.c_tree.specs.Trees as tree
use Rattle.c_program.specs.declared.tree.Storage.TheVariants.{Static}
use Rattle.c_program.specs.declared.tree.BinaryOperator.TheVariants as operator
use Rattle.c_program.specs.Tree.{Expression, Place, ObjectPlace, ThreadCall, Statement}
use Rattle.c_rules.specs.declared.findings.Findings.{Findings}
use Rattle.c_rules.specs.declared.names.Scope.{Scope}
use Rattle.c_rules.specs.Names.{opened, closed}
use Rattle.c_rules.specs.Walks.{Outcome, and_then, pure, place_in_tree, ◌>>=◌}
use Rattle.c_expressions.specs.Expressions.{condition}
use Rattle.c_resolution.specs.States.{State, state, in_scope, scoping}
use Rattle.c_resolution.specs.Sequences.{sequence}
use Rattle.c_resolution.specs.Statements.{Adds, item, with_step, branch, block_statement, block_step, block_of, if_of}
use Rattle.generated_text.specs.declared.draws.Letter.{Letter}
use Rattle.generated_text.specs.declared.draws.Kind.{Kind as LineKind}
use Rattle.generated_text.specs.declared.draws.Kind.TheVariants.{Sum, Difference, Product, ExclusiveOr, Quotient, Raise, Publish, Add}
use Rattle.generated_text.specs.declared.draws.Line.{Line}
use Rattle.generated_profile.proofs.Pieces as ps
use Rattle.generated_profile.proofs.Placed.{place_in}
use Rattle.generated_profile.proofs.Splitting.{behind}
use Rattle.generated_profile.proofs.LineReading.{items_of}
use Rattle.generated_profile.proofs.Trees as tr
use Rattle.generated_profile.proofs.Layers as node
use Rattle.generated_profile.proofs.Lettered as word

-- ---- a comparison as a condition

abbrev compared : (ℕ → ℕ) → Letter → Letter → ExpressionTree
compared at y z =
    tree.expression (at 2) (form.Binary (tr.variable (tr.lettered y (at 2))) (tree.term (b.Less, (at 3)) (tr.variable (tr.lettered z (at 4))) ∷ []))

abbrev less_of : Letter → Letter → Expression
less_of y z = word.unsigned_of operator.Less (word.read_of y) (word.read_of z)

module _ (s : Scope) (size : ℕ) (found : Findings) (means : word.Means s size) where
  compared_value : (at : ℕ → ℕ) (y z : Letter) → node.IsValue s (compared at y z) found (less_of y z)
  compared_value at y z =
      node.between_value s (at 2) (at 3) b.Less (tr.variable (tr.lettered y (at 2))) (tr.variable (tr.lettered z (at 4))) (word.read_of y) (word.read_of z) (less_of y z) found
      refl (word.letter_value s size found means y (at 2)) (word.letter_value s size found means z (at 4)) refl

  compared_condition : (at : ℕ → ℕ) (y z : Letter) (n : ℕ) → condition s (compared at y z) n found ≡ Outcome.Gives (Statement.Test (place_in_tree (at 2)) (less_of y z)) found
  compared_condition at y z n =
      node.between_condition s (at 2) (at 3) b.Less (tr.variable (tr.lettered y (at 2))) (tr.variable (tr.lettered z (at 4))) (less_of y z) found n refl (compared_value at y z)

-- ---- if (y < z) { x = x + 1; }

abbrev pub raised : (ℕ → ℕ) → Letter → Letter → Letter → Statement
raised at x y z =
    Statement.If (Statement.Test (place_in_tree (at 2)) (less_of y z))
    (Statement.Block (word.set_to (at 7) x (word.unsigned_of operator.Add (word.read_of x) (word.int_number 1)))) Statement.Done

abbrev one_more : (ℕ → ℕ) → Letter → ExpressionTree
one_more at x = tree.expression (at 9) (form.Binary (tr.variable (tr.lettered x (at 9))) (tree.term (b.Add, (at 10)) (tr.constant 1 (at 11)) ∷ []))

abbrev raise_inner : (ℕ → ℕ) → Letter → BlockItem
raise_inner at x = block_item.Statement (st.Simple (tr.changed (at 7) (tr.alone (tr.lettered x (at 7))) Set (one_more at x)))

module _ (s : Scope) (size : ℕ) (found : Findings) (means : word.Means s size) (inner : word.Means (opened s) size) (closes : closed (opened s) ≡ s) where
  inner_step : (at : ℕ → ℕ) (x : Letter) → item (raise_inner at x) [] (state (opened s) found)
      ≡ Outcome.Gives (word.set_to (at 7) x (word.unsigned_of operator.Add (word.read_of x) (word.int_number 1)) ∷ []) (state (opened s) found)
  inner_step at x =
      let v : Expression = word.unsigned_of operator.Add (word.read_of x) (word.int_number 1) in
      let both : node.IsValue (opened s) (one_more at x) found v =
      node.between_value (opened s) (at 9) (at 10) b.Add (tr.variable (tr.lettered x (at 9))) (tr.constant 1 (at 11)) (word.read_of x) (word.int_number 1) v found refl
      (word.letter_value (opened s) size found inner x (at 9)) (node.constant_value (opened s) 1 (at 11) found) refl in
      word.simple_item (opened s) size found inner (tr.changed (at 7) (tr.alone (tr.lettered x (at 7))) Set (one_more at x)) (word.set_to (at 7) x v) []
      (word.set_letter (opened s) size found inner x (at 7) (one_more at x) v both)

  pub raise_step : (at : ℕ → ℕ) (x y z : Letter) (steps : List Statement) → item (tr.raise_item at x y z) steps (state s found)
      ≡ Outcome.Gives (steps ++ (raised at x y z ∷ [])) (state s found)
  unfolding sequence
  raise_step at x y z steps =
      let block = tree.block (raise_inner at x ∷ []) (at 13) in
      let test : ExpressionTree = compared at y z in
      let c : Statement = Statement.Test (place_in_tree (at 2)) (less_of y z) in
      ap (λ (add : Adds). add steps (state s found))
      (node.statement_item (st.If test (st.Block block) None)
      ∙ ap with_step (node.branch_statement test (st.Block block)
      ∙ ap (λ g. branch test g None) (node.inner_block block ∙ ap block_statement (node.block_is (raise_inner at x ∷ []) (at 13)))))
      ∙ ap (λ (r : Outcome Findings Statement). and_then (and_then (in_scope s r)
      (λ d. (block_statement (block_step (record { items = item (raise_inner at x) ∷ []; close = at 13 })) >>= (λ a. pure (if_of d a Statement.Done)))))
      (λ step. pure (steps ++ (step ∷ [])))) (compared_condition s size found means at y z s.kept_from)
      ∙ ap (λ (r : Outcome State (List Statement)). and_then (and_then (and_then (and_then r (λ done. pure (sequence done)))
      (λ body. (scoping closed >>= (λ u. pure (block_of body))))) (λ a. pure (if_of c a Statement.Done))) (λ step. pure (steps ++ (step ∷ [])))) (inner_step at x)
      ∙ ap (λ w. Outcome.Gives (steps ++ (raised at x y z ∷ [])) (state w found)) closes

-- ---- all lines

abbrev pub statements_in : ℕ → LineKind → (ℕ → ℕ) → Letter → Letter → Letter → List Statement
statements_in size Sum at x y z = word.set_to (at 0) x (word.unsigned_of operator.Add (word.read_of y) (word.read_of z)) ∷ []
statements_in size Difference at x y z = word.set_to (at 0) x (word.unsigned_of operator.Subtract (word.read_of y) (word.read_of z)) ∷ []
statements_in size Product at x y z = word.set_to (at 0) x (word.unsigned_of operator.Multiply (word.read_of y) (word.read_of z)) ∷ []
statements_in size ExclusiveOr at x y z = word.set_to (at 0) x (word.unsigned_of operator.ExclusiveOr (word.read_of y) (word.read_of z)) ∷ []
statements_in size Quotient at x y z = word.set_to (at 0) x (word.unsigned_of operator.Divide (word.read_of y) (word.odd_of z)) ∷ []
statements_in size Raise at x y z = raised at x y z ∷ []
statements_in size Publish at x y z =
    Statement.Assign (place_in_tree (at 0)) (Place.Element Static 1 size unsigned_int word.id_value) (word.read_of x) ∷ []
statements_in size Add at x y z =
    Statement.Thread (place_in_tree (at 0)) (ThreadCall.MutexLock (ObjectPlace.Single 0))
    ∷ Statement.Update (place_in_tree (at 6)) (Place.Scalar Static 0 unsigned_int) operator.Add unsigned_int (word.read_of x)
    ∷ Statement.Thread (place_in_tree (at 10)) (ThreadCall.MutexUnlock (ObjectPlace.Single 0)) ∷ []

abbrev pub statements_of : ℕ → ℕ → List Line → List Statement
statements_of size o [] = []
statements_of size o (line ∷ lines) =
    statements_in size line.kind (place_in (tokens o (ps.line_pieces line))) line.target line.left line.right
    ++ statements_of size (behind o (ps.line_pieces line)) lines

module _ (s : Scope) (size : ℕ) (found : Findings) (means : word.Means s size) (inner : word.Means (opened s) size) (closes : closed (opened s) ≡ s) where
  kind_steps : (k : LineKind) (at : ℕ → ℕ) (x y z : Letter) (steps : List Statement) →
      fold node.joins (Outcome.Gives steps (state s found)) (map item (tr.line_items k at x y z)) ≡ Outcome.Gives (steps ++ statements_in size k at x y z) (state s found)
  kind_steps Sum at x y z steps = word.sum_step s size found means at x y z steps
  kind_steps Difference at x y z steps = word.difference_step s size found means at x y z steps
  kind_steps Product at x y z steps = word.product_step s size found means at x y z steps
  kind_steps ExclusiveOr at x y z steps = word.exclusive_or_step s size found means at x y z steps
  kind_steps Quotient at x y z steps = word.quotient_step s size found means at x y z steps
  kind_steps Raise at x y z steps = raise_step s size found means inner closes at x y z steps
  kind_steps Publish at x y z steps = word.publish_step s size found means at x steps
  kind_steps Add at x y z steps =
      let a : Statement = Statement.Thread (place_in_tree (at 0)) (ThreadCall.MutexLock (ObjectPlace.Single 0)) in
      let d : Statement = Statement.Update (place_in_tree (at 6)) (Place.Scalar Static 0 unsigned_int) operator.Add unsigned_int (word.read_of x) in
      let u : Statement = Statement.Thread (place_in_tree (at 10)) (ThreadCall.MutexUnlock (ObjectPlace.Single 0)) in
      ap (λ o. fold node.joins o (item (tr.add_item at x) ∷ item (tr.unlock_item at) ∷ [])) (word.lock_step s size found means at steps)
      ∙ ap (λ o. fold node.joins o (item (tr.unlock_item at) ∷ [])) (word.add_step s size found means at x (steps ++ (a ∷ [])))
      ∙ word.unlock_step s size found means at (steps ++ (a ∷ []) ++ (d ∷ []))
      ∙ ap (λ list. Outcome.Gives list (state s found)) (append_assoc (steps ++ (a ∷ [])) (d ∷ []) (u ∷ []) ∙ append_assoc steps (a ∷ []) (d ∷ u ∷ []))

  pub lines_steps : (o : ℕ) (lines : List Line) (steps : List Statement) →
      fold node.joins (Outcome.Gives steps (state s found)) (map item (items_of o lines)) ≡ Outcome.Gives (steps ++ statements_of size o lines) (state s found)
  lines_steps o [] steps = ap (λ list. Outcome.Gives list (state s found)) (sym (append-nil steps))
  lines_steps o (line ∷ lines) steps =
      let at : ℕ → ℕ = place_in (tokens o (ps.line_pieces line)) in
      let here : List Statement = statements_in size line.kind at line.target line.left line.right in
      let next : ℕ = behind o (ps.line_pieces line) in
      node.items_append (tr.line_items line.kind at line.target line.left line.right) (items_of next lines) (Outcome.Gives steps (state s found))
      ∙ ap (λ o. fold node.joins o (map item (items_of next lines))) (kind_steps line.kind at line.target line.left line.right steps)
      ∙ lines_steps next lines (steps ++ here)
      ∙ ap (λ list. Outcome.Gives list (state s found)) (append_assoc steps here (statements_of size next lines))
