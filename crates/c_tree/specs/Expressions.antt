-- The grammar of expressions.
--
--     expr    = binary ["?" expr ":" expr]
--     binary  = the ten levels of C99 from || down to * / %, left to right
--     cast    = "(" spec ")" cast | ("-"|"+"|"~"|"!") cast | primary
--     primary = name | name dims | call | constant | "(" expr ")"
--     call    = name "(" [ arg {"," arg} ] ")"
--     arg     = expr | string | "&" place | pointer
--     pointer = "NULL" | "(" "void" "*" ")" cast
--     place   = name [dims]
--     dims    = "[" expr "]" ["[" expr "]" ["[" expr "]"]]
--     spec    = word { word }
--
-- Nesting: brackets with what they enclose; the operand of a unary operator, of `&` and of a cast; the third operand
-- of `?:`.
use Rattle.std.specs.Prelude.{ℕ, zero, suc, List, [], ◌∷◌, ◌++◌, fold, reverse}
use Rattle.c_token.specs.declared.keyword.Keyword.TheVariants as k
use Rattle.c_token.specs.declared.punctuator.Punctuator.TheVariants as p
use Rattle.c_token.specs.declared.token.Token.{Token}
use Rattle.grammar.specs.Rules.{Rule, pure, one, ◌>>=◌, ◌>>◌, ◌<|>◌, none, nested, many}
use Rattle.c_tree.specs.declared.sign.Sign.{Sign}
use Rattle.c_tree.specs.declared.sign.Sign.TheVariants.{Word, Mark}
use Rattle.c_tree.specs.declared.expression.Name.{Name}
use Rattle.c_tree.specs.declared.expression.Specifiers.{Specifiers}
use Rattle.c_tree.specs.declared.expression.Expression.{Expression}
use Rattle.c_tree.specs.declared.expression.Form.TheVariants as form
use Rattle.c_tree.specs.declared.expression.Term.{Term}
use Rattle.c_tree.specs.declared.expression.Choice.{Choice}
use Rattle.c_tree.specs.declared.expression.Place.{Place}
use Rattle.c_tree.specs.declared.expression.Call.{Call}
use Rattle.c_tree.specs.declared.expression.Argument.{Argument}
use Rattle.c_tree.specs.declared.expression.Argument.TheVariants as argument_of
use Rattle.c_tree.specs.declared.expression.Pointer.{Pointer}
use Rattle.c_tree.specs.Tokens.{sign_at, name_at, constant_at, text_at, type_word_at, first_word_at, unary_at, binary_at}
use Rattle.c_tree.specs.Trees as tree

abbrev pub Phrase : Type 0 → Type 1
Phrase A = Rule Token A

-- a token with one spelling, by its place
abbrev pub sign : Sign → Phrase ℕ
sign q = one (sign_at q)

abbrev pub name : Phrase Name
name = one name_at

abbrev pub specifiers : Phrase Specifiers
specifiers = do
  first ← one first_word_at
  more ← many (one type_word_at)
  pure (record { words = first.0 ∷ more; offset = first.1 })

-- one or more, with commas between them
abbrev pub listed : {A : Type 0} → Phrase A → Phrase (List A)
listed item = do
  first ← item
  more ← many (sign (Mark p.Comma) >> item)
  pure (first ∷ more)

-- none or more, but no more than the number
abbrev pub at_most : {A : Type 0} → ℕ → Phrase A → Phrase (List A)
at_most zero item = pure []
at_most (suc n) item = (do
  first ← item
  more ← at_most n item
  pure (first ∷ more)) <|> pure []

-- ---- the levels of binary operators

abbrev pub term : ℕ → Phrase Expression → Phrase Term
term level operand = do
  op ← one (binary_at level)
  right ← operand
  pure (tree.term op right)

-- the operators up to a level, from left to right
abbrev pub binary : ℕ → Phrase Expression → Phrase Expression
binary zero operand = operand
binary (suc level) operand = do
  first ← binary level operand
  more ← many (term (suc level) (binary level operand))
  pure (tree.joined first more)

module _ (cast expr : Phrase Expression) where
  abbrev pub parenthesized : Phrase Expression
  parenthesized = nested (do
    at ← sign (Mark p.OpenRound)
    x ← expr
    sign (Mark p.CloseRound)
    pure (tree.moved at x))

  abbrev pub index : Phrase Expression
  index = nested (do
    sign (Mark p.OpenSquare)
    x ← expr
    sign (Mark p.CloseSquare)
    pure x)

  -- the indices of an element (C99 6.5.2.1), or the lengths of an array (C99 6.7.5.2)
  abbrev pub indices : Phrase (List Expression)
  indices = at_most 3 index

  abbrev pub place : Phrase Place
  place = do
    x ← name
    found ← indices
    pure (tree.place x found)

  -- ---- pointers, arguments, calls

  abbrev pub conversion_to_pointer : Phrase ℕ
  conversion_to_pointer = nested (do
    at ← sign (Mark p.OpenRound)
    sign (Word k.Void)
    sign (Mark p.Star)
    sign (Mark p.CloseRound)
    pure at)

  abbrev pub null : Phrase Pointer
  null = do
    at ← sign (Word k.Null)
    pure (tree.null at)

  abbrev pub converted_pointer : Phrase Pointer
  converted_pointer = do
    at ← conversion_to_pointer
    x ← nested cast
    pure (tree.pointer at x)

  abbrev pub address : Phrase Argument
  address = do
    at ← sign (Mark p.And)
    x ← nested place
    pure (argument_of.Address x at)

  abbrev pub text : Phrase Argument
  text = do
    x ← one text_at
    pure (argument_of.Text x.0 x.1)

  abbrev pub value_argument : Phrase Argument
  value_argument = do
    x ← expr
    pure (argument_of.Value x)

  abbrev pub null_argument : Phrase Argument
  null_argument = do
    x ← null
    pure (argument_of.Pointer x)

  abbrev pub pointer_argument : Phrase Argument
  pointer_argument = do
    x ← converted_pointer
    pure (argument_of.Pointer x)

  abbrev pub argument : Phrase Argument
  argument = value_argument <|> (text <|> (address <|> (null_argument <|> pointer_argument)))

  abbrev pub arguments : Phrase (List Argument)
  arguments = nested (do
    sign (Mark p.OpenRound)
    found ← listed argument <|> pure []
    sign (Mark p.CloseRound)
    pure found)

  -- ---- operands

  abbrev pub place_value : Phrase Expression
  place_value = do
    x ← name
    found ← indices
    pure (tree.expression x.offset (form.Place (tree.place x found)))

  abbrev pub call_value : Phrase Expression
  call_value = do
    f ← name
    found ← arguments
    pure (tree.expression f.offset (form.Call (tree.call f found)))

  abbrev pub constant : Phrase Expression
  constant = do
    c ← one constant_at
    pure (tree.constant c)

  abbrev pub primary : Phrase Expression
  primary = (place_value <|> call_value) <|> (constant <|> parenthesized)

  abbrev pub unary : Phrase Expression
  unary = do
    op ← one unary_at
    x ← nested cast
    pure (tree.unary op x)

  -- a type in parentheses, and the place of the first of them
  abbrev pub conversion : Phrase (Specifiers × ℕ)
  conversion = nested (do
    at ← sign (Mark p.OpenRound)
    s ← specifiers
    sign (Mark p.CloseRound)
    pure (s, at))

  abbrev pub converted : Phrase Expression
  converted = do
    s ← conversion
    x ← nested cast
    pure (tree.cast s.0 s.1 x)

  abbrev pub operand : Phrase Expression
  operand = converted <|> (unary <|> primary)

  -- ---- conditionals

  -- `?` and what stands behind it
  abbrev pub question : Phrase (ℕ × Expression)
  question = do
    at ← sign (Mark p.Question)
    x ← binary 10 cast
    pure (at, x)

  -- `:` and what stands behind it, for a condition
  abbrev pub choice : Expression × ℕ → Phrase Choice
  choice c = do
    sign (Mark p.Colon)
    x ← nested expr
    pure (tree.choice c x)

  -- the same for each of several conditions, the outermost one last; they join those found
  abbrev pub choices : Expression × ℕ → List (Expression × ℕ) → List Choice → Phrase (List Choice)
  choices outermost [] found = do
    x ← choice outermost
    pure (found ++ (x ∷ []))
  choices outermost (c ∷ cs) found = do
    x ← choice c
    choices outermost cs (found ++ (x ∷ []))

  -- What stands behind the first condition of binary ["?" expr ":" expr]. The expression behind a `?` goes on to its own
  -- `?` before the first `:`; so all that stands before that `:` comes first, and then as many `:` as there are `?`.
  abbrev pub chosen_by : Expression → Phrase Expression
  chosen_by first = do
    q ← question
    more ← many question
    found ← choices (first, q.0) (reverse (fold tree.asked ([], q.1) more).0) []
    pure (tree.conditional (tree.offset_of first) (fold tree.asked ([], q.1) more).1 found)

  abbrev pub conditional : Phrase Expression
  conditional = do
    first ← binary 10 cast
    chosen_by first <|> pure first

-- ---- by how often the rules are entered within themselves

abbrev mutual
  pub cast : ℕ → Phrase Expression
  cast zero = none
  cast (suc depth) = operand (cast depth) (expr depth)

  pub expr : ℕ → Phrase Expression
  expr zero = none
  expr (suc depth) = conditional (cast depth) (expr depth)
