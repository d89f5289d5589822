-- What a loop with a block of one statement stands for.
use Rattle.std.proofs.Common.{◌≡◌, ℕ, List, [], ◌∷◌, ◌++◌, Some, ap, ◌∙◌}
use Rattle.c_tree.specs.declared.expression.Expression.{Expression as ExpressionTree}
use Rattle.c_tree.specs.declared.statement.SimpleStatement.{SimpleStatement}
use Rattle.c_tree.specs.declared.statement.ForStart.TheVariants as start
use Rattle.c_tree.specs.declared.statement.BlockItem.{BlockItem}
use Rattle.c_tree.specs.declared.statement.BlockItem.TheVariants as block_item
use Rattle.c_tree.specs.declared.statement.Statement.TheVariants as st
use Rattle.c_tree.specs.Trees as tree
use Rattle.c_program.specs.Tree.{Statement}
use Rattle.c_rules.specs.declared.findings.Findings.{Findings}
use Rattle.c_rules.specs.declared.names.Scope.{Scope}
use Rattle.c_rules.specs.Names.{opened, closed}
use Rattle.c_rules.specs.Walks.{Outcome, and_then, pure, ◌>>=◌}
use Rattle.c_expressions.specs.Expressions.{condition}
use Rattle.c_resolution.specs.Simple.{simple}
use Rattle.c_resolution.specs.States.{State, state, in_scope, finding, scoping}
use Rattle.c_resolution.specs.Statements.{Adds, Head, item, with_step, for_loop, for_head, for_condition, for_step, loop_body, deeper, shallower}
use Rattle.c_resolution.specs.Statements.{block_statement, block_step}
use Rattle.c_resolution.specs.Sequences.{sequence}
use Rattle.c_resolution.specs.Statements.{block_of, for_of}
use Rattle.generated_profile.proofs.Layers as node

module _ (s : Scope) (x u : SimpleStatement) (e : ExpressionTree) (i : BlockItem) (close : ℕ) (a v d c : Statement) (found after : Findings) where
  abbrev inner : Scope
  inner = deeper (opened s)

  abbrev adds : List Statement → Outcome State Statement → Outcome State (List Statement)
  adds steps r = and_then r (λ step. pure (steps ++ (step ∷ [])))

  pub loop_step : (steps : List Statement) → simple (opened s) x found ≡ Outcome.Gives a found → condition (opened s) e (opened s).kept_from found ≡ Outcome.Gives c found →
      simple (opened s) u found ≡ Outcome.Gives v found → item i [] (state (opened inner) found) ≡ Outcome.Gives (d ∷ []) (state (opened inner) after) →
      closed (opened inner) ≡ inner → shallower inner ≡ opened s → closed (opened s) ≡ s →
      item (block_item.Statement (st.For (start.Simple x) (Some e) (Some u) (st.Block (tree.block (i ∷ []) close)))) steps (state s found)
      ≡ Outcome.Gives (steps ++ (Statement.For a c v (Statement.Block d) ∷ [])) (state s after)
  unfolding for_loop for_head loop_body sequence
  loop_step steps first test last body inside back out =
      let block = tree.block (i ∷ []) close in
      let walk = block_statement (block_step (record { items = item i ∷ []; close = close })) in
      let rest : Head → State → Outcome State Statement = λ head. (loop_body walk >>= (λ b. (scoping closed >>= (λ t. pure (for_of head b))))) in
      ap (λ (add : Adds). add steps (state s found))
      (node.statement_item (st.For (start.Simple x) (Some e) (Some u) (st.Block block))
      ∙ ap with_step (node.for_statement (start.Simple x) (Some e) (Some u) (st.Block block)
      ∙ ap (for_loop (start.Simple x) (Some e) (Some u)) (node.inner_block block ∙ ap block_statement (node.block_is (i ∷ []) close))))
      ∙ ap (λ (r : Outcome Findings Statement). adds steps (and_then (and_then (in_scope (opened s) r)
      (λ f. (finding (for_condition (Some e)) >>= (λ k. (finding (for_step (Some u)) >>= (λ z. pure (f, k, z))))))) rest)) first
      ∙ ap (λ (r : Outcome Findings Statement). adds steps (and_then (and_then (in_scope (opened s) r)
      (λ k. (finding (for_step (Some u)) >>= (λ z. pure (a, k, z))))) rest)) test
      ∙ ap (λ (r : Outcome Findings Statement). adds steps (and_then (and_then (in_scope (opened s) r) (λ z. pure (a, c, z))) rest)) last
      ∙ ap (λ (r : Outcome State (List Statement)). adds steps (and_then (and_then (and_then (and_then r (λ done. pure (sequence done)))
      (λ z. (scoping closed >>= (λ t. pure (block_of z))))) (λ b. (scoping shallower >>= (λ t. pure b))))
      (λ b. (scoping closed >>= (λ t. pure (for_of (a, c, v) b)))))) body
      ∙ ap (λ w. Outcome.Gives (steps ++ (Statement.For a c v (Statement.Block d) ∷ [])) (state (closed (shallower w)) after)) inside
      ∙ ap (λ w. Outcome.Gives (steps ++ (Statement.For a c v (Statement.Block d) ∷ [])) (state (closed w) after)) back
      ∙ ap (λ w. Outcome.Gives (steps ++ (Statement.For a c v (Statement.Block d) ∷ [])) (state w after)) out
