-- The leaves of expressions are among what their tokens are.
use Rattle.std.proofs.Common.{◌≡◌, ◌∙◌, refl, ap, subst, ℕ, zero, suc, Bool, true, false, List, [], ◌∷◌, ◌++◌, Option, Some, None, eqb-true}
use Rattle.std.specs.Prelude.{◌==◌, nat_le, fold, if◌then◌else◌, reverse, ⊤}
use Rattle.std.proofs.lemmas.Option.{same_Some, none-some}
use Rattle.std.specs.List.{AllByRecursion}
use Rattle.c_token.specs.declared.keyword.Keyword.TheVariants as k
use Rattle.c_token.specs.declared.punctuator.Punctuator.TheVariants as p
use Rattle.c_token.specs.declared.punctuator.Punctuator.{Punctuator}
use Rattle.c_token.specs.declared.token.Token.{Token}
use Rattle.c_tree.specs.declared.expression.BinaryOperator.{BinaryOperator}
use Rattle.c_expressions.specs.Expressions.{is_short_circuit}
use Rattle.grammar.specs.Rules.{pure, one, ◌<|>◌, ◌>>=◌, ◌>>◌}
use Rattle.c_tree.specs.declared.sign.Sign.{Sign}
use Rattle.c_tree.specs.declared.sign.Sign.TheVariants.{Word, Mark}
use Rattle.c_tree.specs.declared.expression.Name.{Name}
use Rattle.c_tree.specs.declared.expression.Specifiers.{Specifiers}
use Rattle.c_tree.specs.declared.expression.Expression.{Expression}
use Rattle.c_tree.specs.declared.expression.Choice.{Choice}
use Rattle.c_tree.specs.declared.expression.Argument.{Argument}
use Rattle.c_tree.specs.declared.expression.Form.TheVariants as form
use Rattle.c_tree.specs.Tokens.{sign_at, name_at, constant_at, text_at, type_word_at, first_word_at, unary_at, binary_at, binary_of, at_level, binding, of_mark, mark_of, with_place}
use Rattle.c_tree.specs.Trees as tree
use Rattle.c_tree.specs.Expressions as g
use Rattle.c_tree.specs.Expressions.{Phrase}
use Rattle.c_program.specs.Resolved.{IsName}
use Rattle.c_resolved_program.proofs.Lists.{all_both, all_reverse}
use Rattle.c_resolved_program.proofs.ValidSentences.{Gives, gives_none, gives_pure, gives_one, gives_then, gives_either, gives_nested, gives_each}
use Rattle.c_resolved_program.proofs.Tokens.{IsValidToken, name_valid, constant_valid, text_valid}
use Rattle.c_resolved_program.proofs.ExpressionGrammar as t
use Rattle.c_resolved_program.proofs.ExpressionGrammar.{IsExpression, IsChoice, IsPlace, IsArgument, IsPointer}
use Rattle.c_resolved_program.proofs.Walks.{IfAny}

-- what each sentence of a rule spells, whatever the number of its tokens
abbrev pub Good : {A : Type 0} → (A → Type 0) → Phrase A → Type 0
Good Is P = Gives IsValidToken (λ _ v. Is v) P

abbrev pub Any : {A : Type 0} → A → Type 0
Any a = ⊤

pub sign_gives : (q : Sign) → Good Any (g.sign q)
sign_gives q = gives_one IsValidToken (sign_at q) (λ t v valid e. tt)

pub name_gives : Good (λ (x : Name). IsName x.bytes) g.name
name_gives = gives_one IsValidToken name_at name_valid

pub any_gives : {A : Type 0} (f : Token → Option A) → Good Any (one f)
any_gives f = gives_one IsValidToken f (λ t v valid e. tt)

pub specifiers_gives : Good Any g.specifiers
specifiers_gives =
    gives_then IsValidToken _ _ (any_gives first_word_at)
    (λ _ first _. gives_then IsValidToken _ _ (gives_each IsValidToken {Is = Any} (any_gives type_word_at)) (λ _ more _. gives_pure IsValidToken _ tt))

pub listed_gives : {A : Type 0} {Is : A → Type 0} (item : Phrase A) → Good Is item → Good (AllByRecursion Is) (g.listed item)
listed_gives item h =
    gives_then IsValidToken _ _ h
    (λ _ first is. gives_then IsValidToken _ _ (gives_each IsValidToken (gives_then IsValidToken _ _ (sign_gives (Mark p.Comma)) (λ _ _ _. h))) (λ _ more all. gives_pure IsValidToken _ (is, all)))

-- ---- the levels of binary operators

-- the operators of the last two levels are the short circuits
abbrev is_short : ℕ → Bool
is_short level = nat_le 9 level

short_at : (level : ℕ) (x : ℕ × BinaryOperator) (o : BinaryOperator) → is_short_circuit x.1 ≡ is_short x.0 → (if x.0 == level then Some x.1 else None) ≡ Some o →
    is_short_circuit o ≡ is_short level
short_at level x o is at = by (x.0 == level) refl at
  where
    by : (b : Bool) → (x.0 == level) ≡ b → (if b then Some x.1 else None) ≡ Some o → is_short_circuit o ≡ is_short level
    by true same at = subst (λ y. is_short_circuit y ≡ is_short level) (same_Some x.1 o at) (is ∙ ap is_short (eqb-true x.0 level same))
    by false same at = absurd (none-some o at)

binding_short : (mark : Punctuator) → IfAny (λ (x : ℕ × BinaryOperator). is_short_circuit x.1 ≡ is_short x.0) (binding mark)
binding_short p.Star = refl
binding_short p.Slash = refl
binding_short p.Percent = refl
binding_short p.Plus = refl
binding_short p.Minus = refl
binding_short p.ShiftLeft = refl
binding_short p.ShiftRight = refl
binding_short p.Less = refl
binding_short p.Greater = refl
binding_short p.LessEqual = refl
binding_short p.GreaterEqual = refl
binding_short p.EqualEqual = refl
binding_short p.NotEqual = refl
binding_short p.And = refl
binding_short p.Xor = refl
binding_short p.Or = refl
binding_short p.AndAnd = refl
binding_short p.OrOr = refl
binding_short _ = tt

short_by : (level : ℕ) (x : Option (ℕ × BinaryOperator)) (o : BinaryOperator) → IfAny (λ (x : ℕ × BinaryOperator). is_short_circuit x.1 ≡ is_short x.0) x →
    at_level level x ≡ Some o → is_short_circuit o ≡ is_short level
short_by level None o is at = absurd (none-some o at)
short_by level (Some x) o is at = short_at level x o is at

marked : (mark : Option Punctuator) → IfAny (λ (x : ℕ × BinaryOperator). is_short_circuit x.1 ≡ is_short x.0) (of_mark binding mark)
marked None = tt
marked (Some mark) = binding_short mark

placed_by : (at : ℕ) (o : Option BinaryOperator) (op : BinaryOperator × ℕ) → with_place at o ≡ Some op → o ≡ Some op.0
placed_by at None op is = absurd (none-some op is)
placed_by at (Some o) op is = ap (λ (x : BinaryOperator × ℕ). Some x.0) (same_Some (o, at) op is)

operator_gives : (level : ℕ) → Good (λ (op : BinaryOperator × ℕ). is_short_circuit op.0 ≡ is_short level) (one (binary_at level))
operator_gives level =
    gives_one IsValidToken (binary_at level)
    (λ t op valid e. short_by level (of_mark binding (mark_of t.kind)) op.0 (marked (mark_of t.kind)) (placed_by t.offset (binary_of level t) op e))

term_gives : (level : ℕ) (operand : Phrase Expression) → Good IsExpression operand → Good (t.IsTermOf (is_short level)) (g.term level operand)
term_gives level operand h =
    gives_then IsValidToken _ _ (operator_gives level)
    (λ _ op short. gives_then IsValidToken _ _ h (λ _ x is. gives_pure IsValidToken _ (t.term_is (is_short level) op x short is)))

binary_gives : (level : ℕ) (operand : Phrase Expression) → Good IsExpression operand → Good IsExpression (g.binary level operand)
binary_gives zero operand h = h
binary_gives (suc level) operand h =
    let low = binary_gives level operand h in
    gives_then IsValidToken _ _ low
    (λ _ first is. gives_then IsValidToken _ _ (gives_each IsValidToken (term_gives (suc level) (g.binary level operand) low))
    (λ _ more all. gives_pure IsValidToken _ (t.joined_is (is_short (suc level)) first more is all)))

-- no more than a number of parts
pub at_most_gives : {A : Type 0} {Is : A → Type 0} (n : ℕ) (item : Phrase A) → Good Is item → Good (AllByRecursion Is) (g.at_most n item)
at_most_gives zero item h = gives_pure IsValidToken _ tt
at_most_gives (suc n) item h =
    gives_either IsValidToken
    (gives_then IsValidToken _ _ h (λ _ first is. gives_then IsValidToken _ _ (at_most_gives n item h) (λ _ more all. gives_pure IsValidToken _ (is, all))))
    (gives_pure IsValidToken _ tt)

module _ (cast expr : Phrase Expression) (of_cast : Good IsExpression cast) (of_expr : Good IsExpression expr) where
  -- what stands in the brackets of each rule
  abbrev in_parentheses : Phrase Expression
  in_parentheses = do
    at ← g.sign (Mark p.OpenRound)
    x ← expr
    g.sign (Mark p.CloseRound)
    pure (tree.moved at x)

  abbrev in_brackets : Phrase Expression
  in_brackets = do
    g.sign (Mark p.OpenSquare)
    x ← expr
    g.sign (Mark p.CloseSquare)
    pure x

  abbrev to_pointer : Phrase ℕ
  to_pointer = do
    at ← g.sign (Mark p.OpenRound)
    g.sign (Word k.Void)
    g.sign (Mark p.Star)
    g.sign (Mark p.CloseRound)
    pure at

  abbrev in_call : Phrase (List Argument)
  in_call = do
    g.sign (Mark p.OpenRound)
    found ← g.listed (g.argument cast expr) <|> pure []
    g.sign (Mark p.CloseRound)
    pure found

  abbrev to_type : Phrase (Specifiers × ℕ)
  to_type = do
    at ← g.sign (Mark p.OpenRound)
    s ← g.specifiers
    g.sign (Mark p.CloseRound)
    pure (s, at)

  parenthesized_gives : Good IsExpression (g.parenthesized cast expr)
  parenthesized_gives =
      gives_nested IsValidToken in_parentheses (gives_then IsValidToken _ _ (sign_gives (Mark p.OpenRound))
      (λ _ at _. gives_then IsValidToken _ _ of_expr (λ _ x is. gives_then IsValidToken _ _ (sign_gives (Mark p.CloseRound)) (λ _ _ _. gives_pure IsValidToken _ (t.moved_is at x is)))))

  pub index_gives : Good IsExpression (g.index cast expr)
  index_gives =
      gives_nested IsValidToken in_brackets (gives_then IsValidToken _ _ (sign_gives (Mark p.OpenSquare))
      (λ _ at _. gives_then IsValidToken _ _ of_expr (λ _ x is. gives_then IsValidToken _ _ (sign_gives (Mark p.CloseSquare)) (λ _ _ _. gives_pure IsValidToken _ is))))

  pub indices_give : Good (AllByRecursion IsExpression) (g.indices cast expr)
  indices_give = at_most_gives 3 (g.index cast expr) index_gives

  pub place_gives : Good IsPlace (g.place cast expr)
  place_gives =
      gives_then IsValidToken _ _ name_gives (λ _ x _. gives_then IsValidToken _ _ indices_give (λ _ i is. gives_pure IsValidToken _ (t.place_is x i is)))

  -- ---- pointers, arguments, calls

  pub null_gives : Good IsPointer (g.null cast expr)
  null_gives = gives_then IsValidToken _ _ (sign_gives (Word k.Null)) (λ _ at _. gives_pure IsValidToken _ (t.null_is at))

  conversion_to_pointer_gives : Good Any (g.conversion_to_pointer cast expr)
  conversion_to_pointer_gives =
      gives_nested IsValidToken to_pointer (gives_then IsValidToken _ _ (sign_gives (Mark p.OpenRound)) (λ _ _ _. gives_then IsValidToken _ _ (sign_gives (Word k.Void))
      (λ _ _ _. gives_then IsValidToken _ _ (sign_gives (Mark p.Star)) (λ _ _ _. gives_then IsValidToken _ _ (sign_gives (Mark p.CloseRound)) (λ _ _ _. gives_pure IsValidToken _ tt)))))

  pub converted_pointer_gives : Good IsPointer (g.converted_pointer cast expr)
  converted_pointer_gives =
      gives_then IsValidToken _ _ conversion_to_pointer_gives
      (λ _ at _. gives_then IsValidToken _ _ (gives_nested IsValidToken cast of_cast) (λ _ x is. gives_pure IsValidToken _ (t.pointer_is at x is)))

  address_gives : Good IsArgument (g.address cast expr)
  address_gives =
      gives_then IsValidToken _ _ (sign_gives (Mark p.And))
      (λ _ at _. gives_then IsValidToken _ _ (gives_nested IsValidToken (g.place cast expr) place_gives) (λ _ x is. gives_pure IsValidToken _ (t.address_argument_is x at is)))

  text_gives : Good IsArgument (g.text cast expr)
  text_gives = gives_then IsValidToken _ _ (gives_one IsValidToken text_at text_valid) (λ _ x is. gives_pure IsValidToken _ (t.text_argument_is x.0 x.1 is))

  value_argument_gives : Good IsArgument (g.value_argument cast expr)
  value_argument_gives = gives_then IsValidToken _ _ of_expr (λ _ x is. gives_pure IsValidToken _ (t.value_argument_is x is))

  null_argument_gives : Good IsArgument (g.null_argument cast expr)
  null_argument_gives = gives_then IsValidToken _ _ null_gives (λ _ x is. gives_pure IsValidToken _ (t.pointer_argument_is x is))

  pointer_argument_gives : Good IsArgument (g.pointer_argument cast expr)
  pointer_argument_gives = gives_then IsValidToken _ _ converted_pointer_gives (λ _ x is. gives_pure IsValidToken _ (t.pointer_argument_is x is))

  argument_gives : Good IsArgument (g.argument cast expr)
  argument_gives =
      gives_either IsValidToken value_argument_gives
      (gives_either IsValidToken text_gives (gives_either IsValidToken address_gives (gives_either IsValidToken null_argument_gives pointer_argument_gives)))

  pub arguments_gives : Good (AllByRecursion IsArgument) (g.arguments cast expr)
  arguments_gives =
      gives_nested IsValidToken in_call (gives_then IsValidToken _ _ (sign_gives (Mark p.OpenRound))
      (λ _ _ _. gives_then IsValidToken _ _ (gives_either IsValidToken (listed_gives (g.argument cast expr) argument_gives) (gives_pure IsValidToken _ tt))
      (λ _ found all. gives_then IsValidToken _ _ (sign_gives (Mark p.CloseRound)) (λ _ _ _. gives_pure IsValidToken _ all))))

  -- ---- operands

  place_value_gives : Good IsExpression (g.place_value cast expr)
  place_value_gives =
      gives_then IsValidToken _ _ name_gives
      (λ _ x _. gives_then IsValidToken _ _ indices_give
      (λ _ i is. gives_pure IsValidToken _ (t.expression_is x.offset (form.Place (tree.place x i)) (t.place_form (tree.place x i) (t.place_is x i is)))))

  call_value_gives : Good IsExpression (g.call_value cast expr)
  call_value_gives =
      gives_then IsValidToken _ _ name_gives
      (λ _ f _. gives_then IsValidToken _ _ arguments_gives
      (λ _ list all. gives_pure IsValidToken _ (t.expression_is f.offset (form.Call (tree.call f list)) (t.call_form (tree.call f list) (t.call_is f list all)))))

  constant_gives : Good IsExpression (g.constant cast expr)
  constant_gives = gives_then IsValidToken _ _ (gives_one IsValidToken constant_at constant_valid) (λ _ c is. gives_pure IsValidToken _ (t.constant_is c is))

  primary_gives : Good IsExpression (g.primary cast expr)
  primary_gives = gives_either IsValidToken (gives_either IsValidToken place_value_gives call_value_gives) (gives_either IsValidToken constant_gives parenthesized_gives)

  unary_gives : Good IsExpression (g.unary cast expr)
  unary_gives =
      gives_then IsValidToken _ _ (any_gives unary_at) (λ _ op _. gives_then IsValidToken _ _ (gives_nested IsValidToken cast of_cast) (λ _ x is. gives_pure IsValidToken _ (t.unary_is op x is)))

  conversion_gives : Good Any (g.conversion cast expr)
  conversion_gives =
      gives_nested IsValidToken to_type (gives_then IsValidToken _ _ (sign_gives (Mark p.OpenRound))
      (λ _ _ _. gives_then IsValidToken _ _ specifiers_gives (λ _ _ _. gives_then IsValidToken _ _ (sign_gives (Mark p.CloseRound)) (λ _ _ _. gives_pure IsValidToken _ tt))))

  converted_gives : Good IsExpression (g.converted cast expr)
  converted_gives =
      gives_then IsValidToken _ _ conversion_gives
      (λ _ s _. gives_then IsValidToken _ _ (gives_nested IsValidToken cast of_cast) (λ _ x is. gives_pure IsValidToken _ (t.cast_is s.0 s.1 x is)))

  operand_gives : Good IsExpression (g.operand cast expr)
  operand_gives = gives_either IsValidToken converted_gives (gives_either IsValidToken unary_gives primary_gives)

  -- ---- conditionals

  question_gives : Good (λ (q : ℕ × Expression). IsExpression q.1) (g.question cast expr)
  question_gives =
      gives_then IsValidToken _ _ (sign_gives (Mark p.Question)) (λ _ at _. gives_then IsValidToken _ _ (binary_gives 10 cast of_cast) (λ _ x is. gives_pure IsValidToken _ is))

  choice_gives : (c : Expression × ℕ) → IsExpression c.0 → Good IsChoice (g.choice cast expr c)
  choice_gives c first =
      gives_then IsValidToken _ _ (sign_gives (Mark p.Colon))
      (λ _ _ _. gives_then IsValidToken _ _ (gives_nested IsValidToken expr of_expr) (λ _ x is. gives_pure IsValidToken _ (t.choice_is c x first is)))

  abbrev IsCondition : Expression × ℕ → Type 0
  IsCondition c = IsExpression c.0

  choices_gives : (outermost : Expression × ℕ) (cs : List (Expression × ℕ)) (found : List Choice) → IsCondition outermost → AllByRecursion IsCondition cs →
      AllByRecursion IsChoice found → Good (AllByRecursion IsChoice) (g.choices cast expr outermost cs found)
  choices_gives outermost [] found out all so_far =
      gives_then IsValidToken _ _ (choice_gives outermost out) (λ _ x is. gives_pure IsValidToken _ (all_both IsChoice found (x ∷ []) so_far (is, tt)))
  choices_gives outermost (c ∷ cs) found out all so_far =
      gives_then IsValidToken _ _ (choice_gives c all.0)
      (λ _ x is. choices_gives outermost cs (found ++ (x ∷ [])) out all.1 (all_both IsChoice found (x ∷ []) so_far (is, tt)))

  abbrev IsAsked : tree.Asked → Type 0
  IsAsked a = AllByRecursion IsCondition a.0 × IsExpression a.1

  all_asked : (a : tree.Asked) (more : List (ℕ × Expression)) → IsAsked a → AllByRecursion (λ (q : ℕ × Expression). IsExpression q.1) more → IsAsked (fold tree.asked a more)
  all_asked a [] is all = is
  all_asked a (q ∷ more) is all = all_asked (tree.asked a q) more (all_both IsCondition a.0 ((a.1, q.0) ∷ []) is.0 (is.1, tt), all.0) all.1

  chosen_gives : (first : Expression) → IsExpression first → Good IsExpression (g.chosen_by cast expr first)
  chosen_gives first is =
      gives_then IsValidToken _ _ question_gives
      (λ _ q asked. gives_then IsValidToken _ _ (gives_each IsValidToken {Is = λ (q : ℕ × Expression). IsExpression q.1} question_gives)
      (λ _ more all.
      let every = all_asked ([], q.1) more (tt, asked) all in
      gives_then IsValidToken _ _ (choices_gives (first, q.0) (reverse (fold tree.asked ([], q.1) more).0) [] is (all_reverse IsCondition (fold tree.asked ([], q.1) more).0 every.0) tt)
      (λ _ found so. gives_pure IsValidToken _ (t.conditional_is (tree.offset_of first) (fold tree.asked ([], q.1) more).1 found every.1 so))))

  conditional_gives : Good IsExpression (g.conditional cast expr)
  conditional_gives =
      gives_then IsValidToken _ _ (binary_gives 10 cast of_cast) (λ _ first is. gives_either IsValidToken (chosen_gives first is) (gives_pure IsValidToken _ is))

-- ---- by how often the rules are entered within themselves

both_give : (depth : ℕ) → Good IsExpression (g.cast depth) × Good IsExpression (g.expr depth)
both_give zero = (gives_none IsValidToken, gives_none IsValidToken)
both_give (suc depth) =
    let low = both_give depth in
    (operand_gives (g.cast depth) (g.expr depth) low.0 low.1, conditional_gives (g.cast depth) (g.expr depth) low.0 low.1)

pub cast_gives : (depth : ℕ) → Good IsExpression (g.cast depth)
cast_gives depth = (both_give depth).0

pub expr_gives : (depth : ℕ) → Good IsExpression (g.expr depth)
expr_gives depth = (both_give depth).1
