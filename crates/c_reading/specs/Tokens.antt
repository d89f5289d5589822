-- What the parser reads of single tokens, and which tokens begin a phrase.
use Rattle.std.specs.Prelude.{ℕ, Bool, ◌||◌, List, [], ◌∷◌, length}
use Rattle.c_token.specs.declared.keyword.Keyword.TheVariants as k
use Rattle.c_token.specs.declared.punctuator.Punctuator.TheVariants as p
use Rattle.c_token.specs.declared.token.Token.{Token}
use Rattle.grammar.specs.Readers.{Reader, reads_pure, reads_one, reads_while, reads_either, sees, appended, ◌>>=◌, ◌>>◌}
use Rattle.c_tree.specs.declared.sign.Sign.{Sign}
use Rattle.c_tree.specs.declared.sign.Sign.TheVariants.{Word, Mark}
use Rattle.c_tree.specs.declared.expression.Name.{Name}
use Rattle.c_tree.specs.declared.expression.TypeWord.{TypeWord}
use Rattle.c_tree.specs.declared.expression.Specifiers.{Specifiers}
use Rattle.c_tree.specs.declared.expression.UnaryOperator.{UnaryOperator}
use Rattle.c_tree.specs.declared.expression.BinaryOperator.{BinaryOperator}
use Rattle.c_tree.specs.declared.expression.Expression.{Expression}
use Rattle.c_tree.specs.declared.statement.AssignmentOperator.{AssignmentOperator}
use Rattle.c_tree.specs.declared.statement.Direction.{Direction}
use Rattle.c_tree.specs.Tokens.{is, sign_at, name_at, is_name, constant_at, is_constant, text_at, is_text, type_word_at, first_word_at, is_type_word, unary_at}
use Rattle.c_tree.specs.Tokens.{is_unary, binary_at, assignment_at, direction_of, direction_at, is_direction}
use Rattle.c_tree.specs.Trees as tree

abbrev pub Reads : Type 0 → Type 0
Reads A = Reader Token A

-- ---- one token

unfoldable pub expect : Sign → Reads ℕ
expect q = reads_one (sign_at q)

unfoldable pub read_name : Reads Name
read_name = reads_one name_at

unfoldable pub read_text : Reads (List ℕ × ℕ)
read_text = reads_one text_at

unfoldable pub read_constant : Reads Expression
read_constant = do
  c ← reads_one constant_at
  reads_pure (tree.constant c)

unfoldable pub read_first_word : Reads (TypeWord × ℕ)
read_first_word = reads_one first_word_at

unfoldable pub read_type_word : Reads TypeWord
read_type_word = reads_one type_word_at

unfoldable pub read_unary_operator : Reads (UnaryOperator × ℕ)
read_unary_operator = reads_one unary_at

unfoldable pub read_operator : ℕ → Reads (BinaryOperator × ℕ)
read_operator level = reads_one (binary_at level)

unfoldable pub read_assignment_operator : Reads AssignmentOperator
read_assignment_operator = reads_one assignment_at

unfoldable pub read_direction : Reads (Direction × ℕ)
read_direction = reads_one direction_at

-- the same without its place
unfoldable pub read_way : Reads Direction
read_way = reads_one direction_of

-- ---- words of a type

unfoldable pub read_words : TypeWord → Reads (List TypeWord)
read_words first ts = reads_while (sees is_type_word) appended read_type_word (length ts) (first ∷ []) ts

unfoldable pub read_specifiers : Reads Specifiers
read_specifiers = do
  first ← read_first_word
  words ← read_words first.0
  reads_pure (record { words = words; offset = first.1 })

-- ---- lists

-- a comma and one more
unfoldable pub read_next : {A : Type 0} → Reads A → Reads A
read_next item = do
  expect (Mark p.Comma)
  item

-- one or more with commas between them, behind the first
unfoldable pub read_more : {A : Type 0} → Reads A → A → Reads (List A)
read_more item first ts = reads_while (sees (is (Mark p.Comma))) appended (read_next item) (length ts) (first ∷ []) ts

unfoldable pub read_listed : {A : Type 0} → Reads A → Reads (List A)
read_listed item = do
  first ← item
  read_more item first

-- none, or one or more
unfoldable pub read_any : {A : Type 0} → (Token → Bool) → Reads A → Reads (List A)
read_any begins item = reads_either begins (read_listed item) (reads_pure [])

-- as long as the next token is of the set, and no more than the number
unfoldable pub read_at_most : {A : Type 0} → ℕ → (Token → Bool) → Reads A → Reads (List A)
read_at_most most begins item ts = reads_while (sees begins) appended item most [] ts

-- ---- which tokens begin a phrase

abbrev pub begins_primary : Token → Bool
begins_primary x = is_name x || (is_constant x || is (Mark p.OpenRound) x)

abbrev pub begins_cast : Token → Bool
begins_cast x = is_unary x || begins_primary x

-- a value among those of an array, or several in braces
abbrev pub begins_initial : Token → Bool
begins_initial x = is (Mark p.OpenCurly) x || begins_cast x

-- the first of those that stand one level deeper
abbrev pub opens_initial : Token → Bool
opens_initial x = is (Mark p.OpenCurly) x || is (Mark p.OpenRound) x

abbrev pub begins_argument : Token → Bool
begins_argument x = begins_cast x || (is_text x || (is (Mark p.And) x || is (Word k.Null) x))

abbrev pub begins_simple : Token → Bool
begins_simple x = is_name x || is_direction x

abbrev pub begins_compound : Token → Bool
begins_compound x = is (Mark p.OpenCurly) x || (is (Word k.If) x || (is (Word k.While) x || (is (Word k.Do) x || (is (Word k.For) x || is (Word k.Switch) x))))

abbrev pub begins_jump : Token → Bool
begins_jump x = is (Word k.Break) x || (is (Word k.Continue) x || is (Word k.Return) x)

abbrev pub begins_plain : Token → Bool
begins_plain x = is (Mark p.Semicolon) x || (begins_jump x || begins_simple x)

abbrev pub begins_statement : Token → Bool
begins_statement x = begins_compound x || begins_plain x

abbrev pub begins_item : Token → Bool
begins_item x = is_type_word x || begins_statement x

abbrev pub begins_label : Token → Bool
begins_label x = is (Word k.Case) x || is (Word k.Default) x
