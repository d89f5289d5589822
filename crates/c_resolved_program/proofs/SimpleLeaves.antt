-- The leaves of simple statements and of declarations are among what their tokens are; each declarator has a token of its own.
use Rattle.std.proofs.Common.{ℕ, ◌≤◌, List, [], ◌∷◌, length, Option, Some, None, arith}
use Rattle.std.specs.List.{AllByRecursion}
use Rattle.c_token.specs.declared.punctuator.Punctuator.TheVariants as p
use Rattle.grammar.specs.Rules.{◌>>◌, optional}
use Rattle.c_tree.specs.declared.sign.Sign.TheVariants.{Mark}
use Rattle.c_tree.specs.declared.expression.Name.{Name}
use Rattle.c_tree.specs.declared.expression.Expression.{Expression}
use Rattle.c_tree.specs.declared.statement.SimpleStatement.{SimpleStatement}
use Rattle.c_tree.specs.declared.statement.Returned.{Returned}
use Rattle.c_tree.specs.declared.declaration.Declaration.{Declaration}
use Rattle.c_tree.specs.declared.declaration.Declarator.{Declarator}
use Rattle.c_tree.specs.Tokens.{name_at, assignment_at, direction_of, direction_at}
use Rattle.c_tree.specs.Trees as tree
use Rattle.c_tree.specs.Expressions as g
use Rattle.c_tree.specs.Expressions.{Phrase}
use Rattle.c_tree.specs.Statements as h
use Rattle.c_program.specs.Resolved.{IsName}
use Rattle.c_resolved_program.specs.Leaves.{Leaves, AreValid, IsValidLeaf, of_any, of_each, expression_leaves, place_leaves, declarator_leaves, declaration_leaves, simple_leaves, returned_leaves}
use Rattle.c_resolved_program.proofs.Lists.{all_both}
use Rattle.c_resolved_program.proofs.ValidSentences.{Gives, gives_as, gives_pure, gives_one, gives_then, gives_either, gives_many, gives_optional}
use Rattle.c_resolved_program.proofs.Tokens.{IsValidToken, name_valid}
use Rattle.c_resolved_program.proofs.ExpressionGrammar as t
use Rattle.c_resolved_program.proofs.ExpressionGrammar.{IsExpression}
use Rattle.c_resolved_program.proofs.ExpressionLeaves.{Good, sign_gives, name_gives, any_gives, specifiers_gives, indices_give, place_gives, arguments_gives, null_gives, converted_pointer_gives}
use Rattle.c_resolved_program.proofs.Walks.{IfAny}

pub any_part : {A : Type 0} (leaves : A → Leaves) (o : Option A) → IfAny (λ a. AreValid (leaves a)) o → AreValid (of_any leaves o)
any_part leaves None is = tt
any_part leaves (Some a) is = is

pub each_part : {A : Type 0} (leaves : A → Leaves) (list : List A) → AllByRecursion (λ a. AreValid (leaves a)) list → AreValid (of_each leaves list)
each_part leaves [] all = tt
each_part leaves (a ∷ list) all = all_both IsValidLeaf (leaves a) (of_each leaves list) all.0 (each_part leaves list all.1)

-- a name is one token
pub one_name : Gives IsValidToken (λ n (x : Name). IsName x.bytes × (1 ≤ n)) g.name
one_name = gives_one IsValidToken name_at (λ t x valid e. (name_valid t x valid e, omega arith))

abbrev pub IsSimple : SimpleStatement → Type 0
IsSimple x = AreValid (simple_leaves x)

abbrev pub IsReturned : Returned → Type 0
IsReturned x = AreValid (returned_leaves x)

-- so many declarators at most
abbrev pub AreDeclarators : ℕ → List Declarator → Type 0
AreDeclarators n list = AllByRecursion (λ d. AreValid (declarator_leaves d)) list × (length list ≤ n)

abbrev pub IsDeclaration : ℕ → Declaration → Type 0
IsDeclaration n d = AreValid (declaration_leaves d) × (length d.declarators ≤ n)

module _ (cast expr : Phrase Expression) (of_cast : Good IsExpression cast) (of_expr : Good IsExpression expr) where
  -- ---- simple statements

  assignment_gives : Good IsSimple (h.assignment cast expr)
  assignment_gives =
      gives_then IsValidToken _ _ name_gives
      (λ _ x _. gives_then IsValidToken _ _ (indices_give cast expr of_cast of_expr)
      (λ _ i is. gives_then IsValidToken _ _ (any_gives assignment_at)
      (λ _ op _. gives_then IsValidToken _ _ of_expr
      (λ _ e so. gives_pure IsValidToken _ (all_both IsValidLeaf (place_leaves (tree.place x i)) (expression_leaves e) (t.place_is x i is) so)))))

  step_behind_gives : Good IsSimple (h.step_behind cast expr)
  step_behind_gives =
      gives_then IsValidToken _ _ name_gives
      (λ _ x _. gives_then IsValidToken _ _ (indices_give cast expr of_cast of_expr)
      (λ _ i is. gives_then IsValidToken _ _ (any_gives direction_of) (λ _ way _. gives_pure IsValidToken _ (t.place_is x i is))))

  step_before_gives : Good IsSimple (h.step_before cast expr)
  step_before_gives =
      gives_then IsValidToken _ _ (any_gives direction_at)
      (λ _ way _. gives_then IsValidToken _ _ (place_gives cast expr of_cast of_expr) (λ _ x is. gives_pure IsValidToken _ is))

  called_gives : Good IsSimple (h.called cast expr)
  called_gives =
      gives_then IsValidToken _ _ name_gives
      (λ _ f _. gives_then IsValidToken _ _ (arguments_gives cast expr of_cast of_expr) (λ _ list all. gives_pure IsValidToken _ (t.call_is f list all)))

  pub simple_gives : Good IsSimple (h.simple cast expr)
  simple_gives = gives_either IsValidToken (gives_either IsValidToken assignment_gives step_behind_gives) (gives_either IsValidToken step_before_gives called_gives)

  -- ---- what a return gives back

  pub returned_gives : Good IsReturned (h.returned cast expr)
  returned_gives =
      gives_either IsValidToken (gives_then IsValidToken _ _ (null_gives cast expr of_cast of_expr) (λ _ x is. gives_pure IsValidToken _ is))
      (gives_either IsValidToken (gives_then IsValidToken _ _ (converted_pointer_gives cast expr of_cast of_expr) (λ _ x is. gives_pure IsValidToken _ is))
      (gives_either IsValidToken (gives_then IsValidToken _ _ of_expr (λ _ x is. gives_pure IsValidToken _ is)) (gives_pure IsValidToken _ tt)))

  -- ---- declarations in a block

  value_gives : Good IsExpression (h.value cast expr)
  value_gives = gives_then IsValidToken _ _ (sign_gives (Mark p.Assign)) (λ _ _ _. gives_then IsValidToken _ _ of_expr (λ _ x is. gives_pure IsValidToken _ is))

  optional_value_gives : Good (IfAny IsExpression) (optional (h.value cast expr))
  optional_value_gives = gives_optional IsValidToken (λ _ o. IfAny IsExpression o) tt (λ _ v is. is) value_gives

  declarator_gives : Gives IsValidToken (λ n d. AreValid (declarator_leaves d) × (1 ≤ n)) (h.declarator cast expr)
  declarator_gives =
      gives_then IsValidToken _ _ one_name
      (λ a x one. gives_then IsValidToken _ _ (indices_give cast expr of_cast of_expr)
      (λ b size is. gives_then IsValidToken _ _ optional_value_gives
      (λ c initial so. gives_pure IsValidToken _ (
        all_both IsValidLeaf (of_each expression_leaves size) (of_any expression_leaves initial) (each_part expression_leaves size is) (any_part expression_leaves initial so),
        omega (arith, one.1),
      ))))

  comma_declarator_gives : Gives IsValidToken (λ n d. AreValid (declarator_leaves d) × (1 ≤ n)) (g.sign (Mark p.Comma) >> h.declarator cast expr)
  comma_declarator_gives =
      gives_then IsValidToken _ _ (sign_gives (Mark p.Comma)) (λ m _ _. gives_as IsValidToken (λ n d is. (is.0, omega (arith, is.1))) declarator_gives)

  declarators_give : Gives IsValidToken AreDeclarators (g.listed (h.declarator cast expr))
  declarators_give =
      gives_then IsValidToken _ _ declarator_gives
      (λ m first is. gives_then IsValidToken _ _
      (gives_many IsValidToken AreDeclarators (tt, omega arith) (λ a b d list one more. ((one.0, more.0), omega (arith, one.1, more.1))) comma_declarator_gives)
      (λ n more all. gives_pure IsValidToken _ ((is.0, all.0), omega (arith, is.1, all.1))))

  pub declaration_gives : Gives IsValidToken IsDeclaration (h.declaration cast expr)
  declaration_gives =
      gives_then IsValidToken _ _ specifiers_gives
      (λ a s _. gives_then IsValidToken _ _ declarators_give
      (λ b list all. gives_then IsValidToken _ _ (sign_gives (Mark p.Semicolon))
      (λ c _ _. gives_pure IsValidToken _ (each_part declarator_leaves list all.0, omega (arith, all.1)))))
