-- The leaves of blocks are among what their tokens are, and a block has no more declarators than tokens.
use Rattle.std.proofs.Common.{ℕ, zero, suc, Bool, true, false, List, length, Option, None, le_trans, arith}
use Rattle.std.specs.Prelude.{◌+◌}
use Rattle.c_token.specs.declared.keyword.Keyword.TheVariants as k
use Rattle.c_token.specs.declared.punctuator.Punctuator.TheVariants as p
use Rattle.grammar.specs.Rules.{pure, many, optional, ◌>>=◌, ◌>>◌}
use Rattle.c_tree.specs.declared.sign.Sign.TheVariants.{Word, Mark}
use Rattle.c_tree.specs.declared.expression.Expression.{Expression}
use Rattle.c_tree.specs.declared.statement.SimpleStatement.{SimpleStatement}
use Rattle.c_tree.specs.declared.statement.ForStart.{ForStart}
use Rattle.c_tree.specs.declared.statement.Block.{Block}
use Rattle.c_tree.specs.declared.statement.Group.{Group}
use Rattle.c_tree.specs.declared.statement.Statement.{Statement}
use Rattle.c_tree.specs.Trees as tree
use Rattle.c_tree.specs.Expressions as g
use Rattle.c_tree.specs.Expressions.{Phrase}
use Rattle.c_tree.specs.Statements as h
use Rattle.c_resolved_program.proofs.ValidSentences.{Gives, gives_as, gives_none, gives_pure, gives_then, gives_either, gives_nested, gives_many, gives_optional}
use Rattle.c_resolved_program.proofs.Tokens.{IsValidToken}
use Rattle.c_resolved_program.proofs.ExpressionGrammar.{IsExpression}
use Rattle.c_resolved_program.proofs.ExpressionLeaves.{Good, sign_gives, cast_gives, expr_gives}
use Rattle.c_resolved_program.proofs.SimpleLeaves.{IsSimple, simple_gives, returned_gives, declaration_gives}
use Rattle.c_resolved_program.proofs.StatementLeaves.{IsStatement, IsItem, IsBlock, IsStart, AreItems, IsElse, none_most, place_most, item_counts, block_is, declaration_item, statement_item}
use Rattle.c_resolved_program.proofs.StatementLeaves.{IsLabel, IsGroup, AreStatements, AreGroups, statements_more, groups_more, group_is, switch_is}
use Rattle.c_resolved_program.proofs.StatementLeaves.{empty_is, simple_is, break_is, continue_is, return_is, block_statement_is, if_is, while_is, do_is, for_is}
use Rattle.c_resolved_program.proofs.Walks.{IfAny}

module _ (cast expr : Phrase Expression) (of_cast : Good IsExpression cast) (of_expr : Good IsExpression expr) where
  -- ---- statements with no statement in them

  empty_gives : Gives IsValidToken IsStatement (h.empty cast expr)
  empty_gives = gives_then IsValidToken _ _ (sign_gives (Mark p.Semicolon)) (λ m _ _. gives_pure IsValidToken _ (empty_is (m + 0)))

  simple_statement_gives : Gives IsValidToken IsStatement (h.simple_statement cast expr)
  simple_statement_gives =
      gives_then IsValidToken _ _ (simple_gives cast expr of_cast of_expr)
      (λ m x is. gives_then IsValidToken _ _ (sign_gives (Mark p.Semicolon)) (λ n _ _. gives_pure IsValidToken _ (simple_is (m + (n + 0)) x is)))

  break_gives : Gives IsValidToken IsStatement (h.break_out cast expr)
  break_gives =
      gives_then IsValidToken _ _ (sign_gives (Word k.Break))
      (λ m at _. gives_then IsValidToken _ _ (sign_gives (Mark p.Semicolon)) (λ n _ _. gives_pure IsValidToken _ (break_is (m + (n + 0)) at)))

  continue_gives : Gives IsValidToken IsStatement (h.continue_on cast expr)
  continue_gives =
      gives_then IsValidToken _ _ (sign_gives (Word k.Continue))
      (λ m at _. gives_then IsValidToken _ _ (sign_gives (Mark p.Semicolon)) (λ n _ _. gives_pure IsValidToken _ (continue_is (m + (n + 0)) at)))

  return_gives : Gives IsValidToken IsStatement (h.return_back cast expr)
  return_gives =
      gives_then IsValidToken _ _ (sign_gives (Word k.Return))
      (λ a at _. gives_then IsValidToken _ _ (returned_gives cast expr of_cast of_expr)
      (λ b x is. gives_then IsValidToken _ _ (sign_gives (Mark p.Semicolon)) (λ c _ _. gives_pure IsValidToken _ (return_is (a + (b + (c + 0))) x at is))))

  plain_gives : Gives IsValidToken IsStatement (h.plain_statement cast expr)
  plain_gives =
      gives_either IsValidToken empty_gives (gives_either IsValidToken break_gives (gives_either IsValidToken continue_gives (gives_either IsValidToken return_gives simple_statement_gives)))

  -- ---- the heads of control statements

  abbrev in_condition : Phrase Expression
  in_condition = do
    g.sign (Mark p.OpenRound)
    x ← expr
    g.sign (Mark p.CloseRound)
    pure x

  condition_gives : Good IsExpression (h.condition cast expr)
  condition_gives =
      gives_nested IsValidToken in_condition (gives_then IsValidToken _ _ (sign_gives (Mark p.OpenRound))
      (λ _ _ _. gives_then IsValidToken _ _ of_expr (λ _ x is. gives_then IsValidToken _ _ (sign_gives (Mark p.CloseRound)) (λ _ _ _. gives_pure IsValidToken _ is))))

  declared_start_gives : Gives IsValidToken IsStart (h.declared_start cast expr)
  declared_start_gives =
      gives_then IsValidToken _ _ (declaration_gives cast expr of_cast of_expr)
      (λ m d is. gives_pure IsValidToken _ (is.0, le_trans (place_most (length d.declarators)) (omega (arith, is.1))))

  simple_start_gives : Gives IsValidToken IsStart (h.simple_start cast expr)
  simple_start_gives =
      gives_then IsValidToken _ _ (simple_gives cast expr of_cast of_expr)
      (λ m x is. gives_then IsValidToken _ _ (sign_gives (Mark p.Semicolon))
      (λ n _ _. gives_pure IsValidToken _
      (is, none_most (m + (n + 0)))))

  no_start_gives : Gives IsValidToken IsStart (h.no_start cast expr)
  no_start_gives =
      gives_then IsValidToken _ _ (sign_gives (Mark p.Semicolon))
      (λ m _ _. gives_pure IsValidToken _ (tt, none_most (m + 0)))

  for_start_gives : Gives IsValidToken IsStart (h.for_start cast expr)
  for_start_gives = gives_either IsValidToken declared_start_gives (gives_either IsValidToken simple_start_gives no_start_gives)

  abbrev Head : Type 0
  Head = ForStart × Option Expression × Option SimpleStatement

  abbrev IsHead : ℕ → Head → Type 0
  IsHead n x = IsStart n x.0 × IfAny IsExpression x.1 × IfAny IsSimple x.2

  abbrev in_head : Phrase Head
  in_head = do
    g.sign (Mark p.OpenRound)
    first ← h.for_start cast expr
    c ← optional expr
    g.sign (Mark p.Semicolon)
    step ← optional (h.simple cast expr)
    g.sign (Mark p.CloseRound)
    pure (first, c, step)

  for_head_gives : Gives IsValidToken IsHead (h.for_head cast expr)
  for_head_gives =
      gives_nested IsValidToken in_head (gives_then IsValidToken _ _ (sign_gives (Mark p.OpenRound))
      (λ a _ _. gives_then IsValidToken _ _ for_start_gives
      (λ b first is. gives_then IsValidToken _ _ (gives_optional IsValidToken (λ _ o. IfAny IsExpression o) tt (λ _ v so. so) of_expr)
      (λ c test so. gives_then IsValidToken _ _ (sign_gives (Mark p.Semicolon))
      (λ d _ _. gives_then IsValidToken _ _ (gives_optional IsValidToken (λ _ o. IfAny IsSimple o) tt (λ _ v so. so) (simple_gives cast expr of_cast of_expr))
      (λ e step last. gives_then IsValidToken _ _ (sign_gives (Mark p.CloseRound))
      (λ f _ _. gives_pure IsValidToken _ ((is.0, let few = is.1 in omega (arith, few)), so, last))))))))

  -- ---- labels

  case_gives : Good IsLabel (h.case_label cast expr)
  case_gives =
      gives_then IsValidToken _ _ (sign_gives (Word k.Case))
      (λ _ at _. gives_then IsValidToken _ _ of_expr (λ _ x is. gives_then IsValidToken _ _ (sign_gives (Mark p.Colon)) (λ _ _ _. gives_pure IsValidToken _ is)))

  default_gives : Good IsLabel (h.default_label cast expr)
  default_gives =
      gives_then IsValidToken _ _ (sign_gives (Word k.Default)) (λ _ at _. gives_then IsValidToken _ _ (sign_gives (Mark p.Colon)) (λ _ _ _. gives_pure IsValidToken _ tt))

  label_gives : Good IsLabel (h.label cast expr)
  label_gives = gives_either IsValidToken case_gives default_gives

  -- ---- statements with statements in them

  module _ (statement : Phrase Statement) (of_statement : Gives IsValidToken IsStatement statement) where
    item_gives : Gives IsValidToken IsItem (h.item cast expr statement)
    item_gives =
        gives_either IsValidToken
        (gives_then IsValidToken _ _ (declaration_gives cast expr of_cast of_expr)
        (λ m x is. gives_pure IsValidToken _ (declaration_item (m + 0) x (is.0, omega (arith, is.1)))))
        (gives_then IsValidToken _ _ of_statement
        (λ m x is. gives_pure IsValidToken _ (statement_item (m + 0) x (is.0, let few = is.1 in omega (arith, few)))))

    abbrev in_block : Phrase Block
    in_block = do
      g.sign (Mark p.OpenCurly)
      items ← many (h.item cast expr statement)
      close ← g.sign (Mark p.CloseCurly)
      pure (tree.block items close)

    pub block_gives : Gives IsValidToken IsBlock (h.block cast expr statement)
    block_gives =
        gives_nested IsValidToken in_block (gives_then IsValidToken _ _ (sign_gives (Mark p.OpenCurly))
        (λ a _ _. gives_then IsValidToken _ _
        (gives_many IsValidToken AreItems (tt, λ k. omega arith) (λ m n i list one more. ((one.0, more.0), item_counts m n i list one.1 more.1)) item_gives)
        (λ b list all. gives_then IsValidToken _ _ (sign_gives (Mark p.CloseCurly))
        (λ c close _. gives_pure IsValidToken _ (block_is (a + (b + (c + 0))) list close (all.0, λ k. (let n = all.1 k in omega (arith, n))))))))

    block_statement_gives : Gives IsValidToken IsStatement (h.block_statement cast expr statement)
    block_statement_gives = gives_then IsValidToken _ _ block_gives (λ m b is. gives_pure IsValidToken _ (block_statement_is (m + 0) m b (omega arith) is))

    else_gives : (closed : Bool) → Gives IsValidToken IsElse (h.else_part cast expr statement closed)
    else_gives true =
        gives_optional IsValidToken IsElse tt (λ n v is. is)
        (gives_then IsValidToken _ _ (sign_gives (Word k.Else))
        (λ m _ _. gives_as IsValidToken (λ n v is. (is.0, let few = is.1 in omega (arith, few))) (gives_nested IsValidToken statement of_statement)))
    else_gives false = gives_pure IsValidToken None tt

    branch_gives : Gives IsValidToken IsStatement (h.branch cast expr statement)
    branch_gives =
        gives_then IsValidToken _ _ (sign_gives (Word k.If))
        (λ a _ _. gives_then IsValidToken _ _ condition_gives
        (λ b c test. gives_then IsValidToken _ _ (gives_nested IsValidToken statement of_statement)
        (λ m body is. gives_then IsValidToken _ _ (else_gives (h.closed body))
        (λ n other so. gives_pure IsValidToken _ (if_is (a + (b + (m + (n + 0)))) m n c body other (omega arith) test is so)))))

    while_gives : Gives IsValidToken IsStatement (h.while_loop cast expr statement)
    while_gives =
        gives_then IsValidToken _ _ (sign_gives (Word k.While))
        (λ a _ _. gives_then IsValidToken _ _ condition_gives
        (λ b c test. gives_then IsValidToken _ _ (gives_nested IsValidToken statement of_statement)
        (λ m body is. gives_pure IsValidToken _ (while_is (a + (b + (m + 0))) m c body (omega arith) test is))))

    do_gives : Gives IsValidToken IsStatement (h.do_loop cast expr statement)
    do_gives =
        gives_then IsValidToken _ _ (sign_gives (Word k.Do))
        (λ a _ _. gives_then IsValidToken _ _ (gives_nested IsValidToken statement of_statement)
        (λ m body is. gives_then IsValidToken _ _ (sign_gives (Word k.While))
        (λ b _ _. gives_then IsValidToken _ _ condition_gives
        (λ d c test. gives_then IsValidToken _ _ (sign_gives (Mark p.Semicolon))
        (λ e _ _. gives_pure IsValidToken _ (do_is (a + (m + (b + (d + (e + 0))))) m body c (omega arith) is test))))))

    for_gives : Gives IsValidToken IsStatement (h.for_loop cast expr statement)
    for_gives =
        gives_then IsValidToken _ _ (sign_gives (Word k.For))
        (λ a _ _. gives_then IsValidToken _ _ for_head_gives
        (λ m head is. gives_then IsValidToken _ _ (gives_nested IsValidToken statement of_statement)
        (λ n body so. gives_pure IsValidToken _ (for_is (a + (m + (n + 0))) m n head.0 head.1 head.2 body (omega arith) is.0 is.1 is.2 so))))

    group_gives : Gives IsValidToken IsGroup (h.group cast expr statement)
    group_gives =
        gives_then IsValidToken _ _ label_gives
        (λ a x is. gives_then IsValidToken _ _
        (gives_many IsValidToken AreStatements (tt, λ k. omega arith) (λ m n i list one more. statements_more m n i list one more) of_statement)
        (λ b list all. gives_pure IsValidToken _ (group_is (a + (b + 0)) x list is (all.0, λ k. (let n = all.1 k in omega (arith, n))))))

    abbrev in_groups : Phrase (List Group)
    in_groups = do
      g.sign (Mark p.OpenCurly)
      found ← many (h.group cast expr statement)
      g.sign (Mark p.CloseCurly)
      pure found

    groups_give : Gives IsValidToken AreGroups (h.groups cast expr statement)
    groups_give =
        gives_nested IsValidToken in_groups (gives_then IsValidToken _ _ (sign_gives (Mark p.OpenCurly))
        (λ a _ _. gives_then IsValidToken _ _
        (gives_many IsValidToken AreGroups (tt, λ k. omega arith) (λ m n i list one more. groups_more m n i list one more) group_gives)
        (λ b list all. gives_then IsValidToken _ _ (sign_gives (Mark p.CloseCurly))
        (λ c _ _. gives_pure IsValidToken _ (all.0, λ k. (let n = all.1 k in omega (arith, n)))))))

    switch_gives : Gives IsValidToken IsStatement (h.switch cast expr statement)
    switch_gives =
        gives_then IsValidToken _ _ (sign_gives (Word k.Switch))
        (λ a at _. gives_then IsValidToken _ _ condition_gives
        (λ b c test. gives_then IsValidToken _ _ (gives_nested IsValidToken (h.groups cast expr statement) groups_give)
        (λ m list all. gives_pure IsValidToken _ (switch_is (a + (b + (m + 0))) m c list at (omega arith) test all))))

    any_gives : Gives IsValidToken IsStatement (h.any_statement cast expr statement)
    any_gives =
        gives_either IsValidToken
        (gives_either IsValidToken block_statement_gives
        (gives_either IsValidToken branch_gives (gives_either IsValidToken while_gives (gives_either IsValidToken do_gives (gives_either IsValidToken for_gives switch_gives)))))
        plain_gives

-- by how often the rule is entered within itself
pub statement_gives : (depth : ℕ) → Gives IsValidToken IsStatement (h.statement depth)
statement_gives zero = gives_none IsValidToken
statement_gives (suc depth) = any_gives (g.cast depth) (g.expr depth) (cast_gives depth) (expr_gives depth) (h.statement depth) (statement_gives depth)
