-- How expressions are read. The number `room` is how many levels of nesting are left inside of the phrase.
use Rattle.std.specs.Prelude.{ℕ, zero, suc, ◌-◌, Bool, List, [], ◌∷◌, length, reverse}
use Rattle.c_token.specs.declared.keyword.Keyword.TheVariants as k
use Rattle.c_token.specs.declared.punctuator.Punctuator.TheVariants as p
use Rattle.c_token.specs.declared.token.Token.{Token}
use Rattle.grammar.specs.Readers.{reads_pure, reads_while, reads_many, reads_when, reads_either, sees, sees_all, too_deep}
use Rattle.grammar.specs.Readers.{too_deep_or, reads_within, appended, ◌>>=◌, ◌>>◌}
use Rattle.c_tree.specs.declared.sign.Sign.TheVariants.{Word, Mark}
use Rattle.c_tree.specs.declared.expression.Name.{Name}
use Rattle.c_tree.specs.declared.expression.Specifiers.{Specifiers}
use Rattle.c_tree.specs.declared.expression.Expression.{Expression}
use Rattle.c_tree.specs.declared.expression.Form.TheVariants as form
use Rattle.c_tree.specs.declared.expression.Term.{Term}
use Rattle.c_tree.specs.declared.expression.Choice.{Choice}
use Rattle.c_tree.specs.declared.expression.Place.{Place}
use Rattle.c_tree.specs.declared.expression.Argument.{Argument}
use Rattle.c_tree.specs.declared.expression.Argument.TheVariants as argument_of
use Rattle.c_tree.specs.declared.expression.Pointer.{Pointer}
use Rattle.c_tree.specs.Tokens.{is, is_name, is_constant, is_text, is_type_word, is_unary, binds_at}
use Rattle.c_tree.specs.Trees as tree
use Rattle.c_reading.specs.Tokens.{Reads, expect, read_name, read_text, read_constant, read_unary_operator, read_operator, read_specifiers, read_any, read_at_most, begins_cast, begins_argument}

-- ---- the levels of binary operators

unfoldable pub read_term : ℕ → Reads Expression → Reads Term
read_term level operand = do
  op ← read_operator level
  right ← operand
  reads_pure (tree.term op right)

unfoldable pub read_binary : ℕ → Reads Expression → Reads Expression
read_binary zero operand = operand
read_binary (suc level) operand = do
  first ← read_binary level operand
  terms ← reads_many (binds_at (suc level)) (read_term (suc level) (read_binary level operand))
  reads_pure (tree.joined first terms)

-- ---- what is in brackets

module _ (expr : Reads Expression) (room : ℕ) where
  unfoldable pub read_parenthesized : Reads Expression
  read_parenthesized = reads_within (is (Mark p.OpenRound)) room (do
    at ← expect (Mark p.OpenRound)
    x ← expr
    expect (Mark p.CloseRound)
    reads_pure (tree.moved at x))

  unfoldable pub read_index : Reads Expression
  read_index = reads_within (is (Mark p.OpenSquare)) room (do
    expect (Mark p.OpenSquare)
    x ← expr
    expect (Mark p.CloseSquare)
    reads_pure x)

  unfoldable pub read_indices : Reads (List Expression)
  read_indices = read_at_most 3 (is (Mark p.OpenSquare)) read_index

  unfoldable pub read_place : Reads Place
  read_place = do
    x ← read_name
    found ← read_indices
    reads_pure (tree.place x found)

unfoldable pub read_arguments : Reads Argument → ℕ → Reads (List Argument)
read_arguments argument room = reads_within (is (Mark p.OpenRound)) room (do
  expect (Mark p.OpenRound)
  found ← read_any begins_argument argument
  expect (Mark p.CloseRound)
  reads_pure found)

-- ---- conversions

unfoldable pub read_conversion : ℕ → Reads (Specifiers × ℕ)
read_conversion room = reads_within (is (Mark p.OpenRound)) room (do
  at ← expect (Mark p.OpenRound)
  s ← read_specifiers
  expect (Mark p.CloseRound)
  reads_pure (s, at))

unfoldable pub read_conversion_to_pointer : ℕ → Reads ℕ
read_conversion_to_pointer room = reads_within (is (Mark p.OpenRound)) room (do
  at ← expect (Mark p.OpenRound)
  expect (Word k.Void)
  expect (Mark p.Star)
  expect (Mark p.CloseRound)
  reads_pure at)

-- ---- pointers and arguments

unfoldable pub read_null : Reads Pointer
read_null = do
  at ← expect (Word k.Null)
  reads_pure (tree.null at)

module _ (cast : Reads Expression) (room : ℕ) where
  unfoldable pub read_converted_pointer : Reads Pointer
  read_converted_pointer = do
    at ← read_conversion_to_pointer room
    x ← cast
    reads_pure (tree.pointer at x)

  unfoldable pub read_pointer_argument : Reads Argument
  read_pointer_argument = do
    x ← read_converted_pointer
    reads_pure (argument_of.Pointer x)

unfoldable pub read_null_argument : Reads Argument
read_null_argument = do
  x ← read_null
  reads_pure (argument_of.Pointer x)

unfoldable pub read_text_argument : Reads Argument
read_text_argument = do
  x ← read_text
  reads_pure (argument_of.Text x.0 x.1)

unfoldable pub read_address : Reads Place → Reads Argument
read_address target = do
  at ← expect (Mark p.And)
  x ← target
  reads_pure (argument_of.Address x at)

unfoldable pub read_value_argument : Reads Expression → Reads Argument
read_value_argument expr = do
  x ← expr
  reads_pure (argument_of.Value x)

-- `(void *`
abbrev pub conversion_to_pointer_ahead : List (Token → Bool)
conversion_to_pointer_ahead = is (Mark p.OpenRound) ∷ is (Word k.Void) ∷ is (Mark p.Star) ∷ []

-- of an expression at its own level, and the operand of a cast and the place behind `&` one level deeper
unfoldable pub read_any_argument : Reads Expression → Reads Expression → Reads Place → ℕ → Reads Argument
read_any_argument expr cast target room =
    reads_either is_text read_text_argument
    (reads_either (is (Mark p.And)) (read_address target)
    (reads_either (is (Word k.Null)) read_null_argument
    (reads_when (sees_all conversion_to_pointer_ahead) (read_pointer_argument cast room) (read_value_argument expr))))

-- ---- operands and whole expressions

module _ (cast expr : Reads Expression) (argument : Reads Argument) (room : ℕ) where
  unfoldable pub read_call_of : Name → Reads Expression
  read_call_of f = do
    found ← read_arguments argument room
    reads_pure (tree.expression f.offset (form.Call (tree.call f found)))

  unfoldable pub read_place_of : Name → Reads Expression
  read_place_of x = do
    found ← read_indices expr room
    reads_pure (tree.expression x.offset (form.Place (tree.place x found)))

  unfoldable pub read_named : Reads Expression
  read_named = do
    x ← read_name
    reads_either (is (Mark p.OpenRound)) (read_call_of x) (read_place_of x)

  unfoldable pub read_primary : Reads Expression
  read_primary = reads_either is_name read_named (reads_either is_constant read_constant (read_parenthesized expr room))

  unfoldable pub read_unary : Reads Expression
  read_unary = do
    op ← read_unary_operator
    x ← cast
    reads_pure (tree.unary op x)

  unfoldable pub read_converted : Reads Expression
  read_converted = do
    s ← read_conversion room
    x ← cast
    reads_pure (tree.cast s.0 s.1 x)

  unfoldable pub read_operand : Reads Expression
  read_operand =
      reads_when (sees_all (is (Mark p.OpenRound) ∷ is_type_word ∷ [])) read_converted
      (reads_either is_unary read_unary read_primary)

  unfoldable pub read_question : Reads (ℕ × Expression)
  read_question = do
    at ← expect (Mark p.Question)
    x ← read_binary 10 read_operand
    reads_pure (at, x)

  -- behind the first `?`, of what stands behind it
  unfoldable pub read_questions : Expression → Reads tree.Asked
  read_questions value ts = reads_while (sees (is (Mark p.Question))) tree.asked read_question (length ts) ([], value) ts

  unfoldable pub read_choice : Expression × ℕ → Reads Choice
  read_choice c = do
    expect (Mark p.Colon)
    x ← expr
    reads_pure (tree.choice c x)

  unfoldable pub read_choices : Expression × ℕ → List (Expression × ℕ) → List Choice → Reads (List Choice)
  read_choices outermost [] found = do
    x ← read_choice outermost
    reads_pure (appended found x)
  read_choices outermost (c ∷ cs) found = do
    x ← read_choice c
    read_choices outermost cs (appended found x)

  unfoldable pub read_chosen_by : Expression → Reads Expression
  read_chosen_by first = do
    q ← read_question
    all ← read_questions q.1
    found ← read_choices (first, q.0) (reverse all.0) []
    reads_pure (tree.conditional (tree.offset_of first) all.1 found)

  unfoldable pub read_whole : Reads Expression
  read_whole = do
    first ← read_binary 10 read_operand
    reads_either (is (Mark p.Question)) (read_chosen_by first) (reads_pure first)

-- ---- by how many levels are left, the one at which the phrase stands among them

unfoldable mutual
  pub read_cast : ℕ → Reads Expression
  read_cast zero = too_deep_or (is (Mark p.OpenRound)) begins_cast
  read_cast (suc room) = read_operand (read_cast room) (read_expr room) (read_argument room) room

  pub read_expr : ℕ → Reads Expression
  read_expr zero = too_deep_or (is (Mark p.OpenRound)) begins_cast
  read_expr (suc room) = read_whole (read_cast room) (read_expr room) (read_argument room) room

  -- a place one level deeper
  pub read_target : ℕ → Reads Place
  read_target zero = too_deep is_name
  read_target (suc room) = read_place (read_expr room) room

  pub read_argument : ℕ → Reads Argument
  read_argument zero = too_deep begins_argument
  read_argument (suc room) = read_any_argument (read_whole (read_cast room) (read_expr room) (read_argument room) room) (read_cast room) (read_target room) room

-- an operand with so many levels left inside of it
abbrev pub operand_within : ℕ → Reads Expression
operand_within room = read_operand (read_cast room) (read_expr room) (read_argument room) room

-- the same of a whole expression
abbrev pub whole_within : ℕ → Reads Expression
whole_within room = read_whole (read_cast room) (read_expr room) (read_argument room) room

-- by its level, which is above 0
unfoldable pub read_terms : ℕ → ℕ → Reads (List Term)
read_terms level room = reads_many (binds_at level) (read_term level (read_binary (level - 1) (operand_within room)))
