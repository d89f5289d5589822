-- What single tokens give to the grammar.
use Rattle.std.specs.Prelude.{ℕ, Bool, true, false, if◌then◌else◌, ◌==◌, Option, Some, None, List, option_map}
use denote.Enum.Bare.{sameb}
use Rattle.c_token.specs.declared.keyword.Keyword.{Keyword}
use Rattle.c_token.specs.declared.keyword.Keyword.TheVariants as k
use Rattle.c_token.specs.contracts.keyword.Keyword as keyword
use Rattle.c_token.specs.declared.punctuator.Punctuator.{Punctuator}
use Rattle.c_token.specs.declared.punctuator.Punctuator.TheVariants as p
use Rattle.c_token.specs.contracts.punctuator.Punctuator as punctuator
use Rattle.c_token.specs.declared.constant.Constant.{Constant}
use Rattle.c_token.specs.declared.token.Kind.{Kind}
use Rattle.c_token.specs.declared.token.Kind.TheVariants as kind
use Rattle.c_token.specs.declared.token.Token.{Token}
use Rattle.c_tree.specs.declared.sign.Sign.{Sign}
use Rattle.c_tree.specs.declared.sign.Sign.TheVariants.{Word, Mark, End}
use Rattle.c_tree.specs.declared.expression.Name.{Name}
use Rattle.c_tree.specs.declared.expression.TypeWord.{TypeWord}
use Rattle.c_tree.specs.declared.expression.TypeWord.TheVariants as t
use Rattle.c_tree.specs.declared.expression.UnaryOperator.{UnaryOperator}
use Rattle.c_tree.specs.declared.expression.UnaryOperator.TheVariants as u
use Rattle.c_tree.specs.declared.expression.BinaryOperator.{BinaryOperator}
use Rattle.c_tree.specs.declared.expression.BinaryOperator.TheVariants as b
use Rattle.c_tree.specs.declared.statement.AssignmentOperator.{AssignmentOperator}
use Rattle.c_tree.specs.declared.statement.AssignmentOperator.TheVariants.{Set, Compound}
use Rattle.c_tree.specs.declared.statement.Direction.{Direction}
use Rattle.c_tree.specs.declared.statement.Direction.TheVariants.{Up, Down}

-- ---- tokens with one spelling

unfoldable pub same_keyword : Keyword → Keyword → Bool
same_keyword = sameb keyword.the_type

unfoldable pub same_punctuator : Punctuator → Punctuator → Bool
same_punctuator = sameb punctuator.the_type

-- whether a token is of the sign, by its kind
abbrev pub is_kind : Sign → Kind → Bool
is_kind (Word w) (kind.Keyword v) = same_keyword w v
is_kind (Mark m) (kind.Punctuator q) = same_punctuator m q
is_kind End kind.End = true
is_kind _ _ = false

abbrev pub is : Sign → Token → Bool
is q x = is_kind q x.kind

-- the place of a token, if it is so
abbrev pub place_if : Bool → Token → Option ℕ
place_if true x = Some x.offset
place_if false x = None

-- the place of the token, if it is of the sign
abbrev pub sign_at : Sign → Token → Option ℕ
sign_at q x = place_if (is q x) x

-- a value with its place
abbrev pub with_place : {A : Type 0} → ℕ → Option A → Option (A × ℕ)
with_place at None = None
with_place at (Some v) = Some (v, at)

abbrev pub is_some : {A : Type 0} → Option A → Bool
is_some None = false
is_some (Some v) = true

-- ---- names, constants, string literals

abbrev pub name_of : Kind → ℕ → Option Name
name_of (kind.Name bytes) at = Some (record { bytes = bytes; offset = at })
name_of _ at = None

abbrev pub name_at : Token → Option Name
name_at x = name_of x.kind x.offset

abbrev pub is_name : Token → Bool
is_name x = is_some (name_at x)

abbrev pub constant_of : Kind → Option Constant
constant_of (kind.Constant c) = Some c
constant_of _ = None

-- a constant and its place
abbrev pub constant_at : Token → Option (Constant × ℕ)
constant_at x = with_place x.offset (constant_of x.kind)

abbrev pub is_constant : Token → Bool
is_constant x = is_some (constant_of x.kind)

abbrev pub text_of : Kind → Option (List ℕ)
text_of (kind.StringLiteral bytes) = Some bytes
text_of _ = None

-- a string literal's bytes between the quotes, and its place
abbrev pub text_at : Token → Option (List ℕ × ℕ)
text_at x = with_place x.offset (text_of x.kind)

abbrev pub is_text : Token → Bool
is_text x = is_some (text_of x.kind)

-- ---- words of types

abbrev pub word_type : Keyword → Option TypeWord
word_type k.Static = Some t.Static
word_type k.Const = Some t.Const
word_type k.Void = Some t.Void
word_type k.Char = Some t.Char
word_type k.Short = Some t.Short
word_type k.Int = Some t.Int
word_type k.Long = Some t.Long
word_type k.Signed = Some t.Signed
word_type k.Unsigned = Some t.Unsigned
word_type k.ThreadId = Some t.ThreadId
word_type k.Mutex = Some t.Mutex
word_type k.Barrier = Some t.Barrier
word_type _ = None

abbrev pub type_word_of : Kind → Option TypeWord
type_word_of (kind.Keyword w) = word_type w
type_word_of _ = None

abbrev pub type_word_at : Token → Option TypeWord
type_word_at x = type_word_of x.kind

-- the same with its place
abbrev pub first_word_at : Token → Option (TypeWord × ℕ)
first_word_at x = with_place x.offset (type_word_at x)

abbrev pub is_type_word : Token → Bool
is_type_word x = is_some (type_word_at x)

-- ---- operators

abbrev pub mark_of : Kind → Option Punctuator
mark_of (kind.Punctuator m) = Some m
mark_of _ = None

abbrev pub of_mark : {A : Type 0} → (Punctuator → Option A) → Option Punctuator → Option A
of_mark f None = None
of_mark f (Some m) = f m

abbrev pub mark_unary : Punctuator → Option UnaryOperator
mark_unary p.Plus = Some u.Plus
mark_unary p.Minus = Some u.Minus
mark_unary p.Tilde = Some u.Complement
mark_unary p.Exclamation = Some u.Not
mark_unary _ = None

abbrev pub unary_of : Token → Option UnaryOperator
unary_of x = of_mark mark_unary (mark_of x.kind)

-- a unary operator and its place
abbrev pub unary_at : Token → Option (UnaryOperator × ℕ)
unary_at x = with_place x.offset (unary_of x)

abbrev pub is_unary : Token → Bool
is_unary x = is_some (unary_of x)

-- How tightly a binary operator binds, the tightest first, and which one it is (C99 6.5.5 to 6.5.14).
abbrev pub binding : Punctuator → Option (ℕ × BinaryOperator)
binding p.Star = Some (1, b.Multiply)
binding p.Slash = Some (1, b.Divide)
binding p.Percent = Some (1, b.Remainder)
binding p.Plus = Some (2, b.Add)
binding p.Minus = Some (2, b.Subtract)
binding p.ShiftLeft = Some (3, b.ShiftLeft)
binding p.ShiftRight = Some (3, b.ShiftRight)
binding p.Less = Some (4, b.Less)
binding p.Greater = Some (4, b.Greater)
binding p.LessEqual = Some (4, b.LessEqual)
binding p.GreaterEqual = Some (4, b.GreaterEqual)
binding p.EqualEqual = Some (5, b.Equal)
binding p.NotEqual = Some (5, b.NotEqual)
binding p.And = Some (6, b.BitAnd)
binding p.Xor = Some (7, b.BitXor)
binding p.Or = Some (8, b.BitOr)
binding p.AndAnd = Some (9, b.LogicalAnd)
binding p.OrOr = Some (10, b.LogicalOr)
binding _ = None

abbrev pub at_level : ℕ → Option (ℕ × BinaryOperator) → Option BinaryOperator
at_level level None = None
at_level level (Some x) = if x.0 == level then Some x.1 else None

abbrev pub binary_of : ℕ → Token → Option BinaryOperator
binary_of level x = at_level level (of_mark binding (mark_of x.kind))

-- a binary operator of the level and its place
abbrev pub binary_at : ℕ → Token → Option (BinaryOperator × ℕ)
binary_at level x = with_place x.offset (binary_of level x)

abbrev pub binds_at : ℕ → Token → Bool
binds_at level x = is_some (binary_of level x)

abbrev pub mark_assignment : Punctuator → Option AssignmentOperator
mark_assignment p.Assign = Some Set
mark_assignment p.StarAssign = Some (Compound b.Multiply)
mark_assignment p.SlashAssign = Some (Compound b.Divide)
mark_assignment p.PercentAssign = Some (Compound b.Remainder)
mark_assignment p.PlusAssign = Some (Compound b.Add)
mark_assignment p.MinusAssign = Some (Compound b.Subtract)
mark_assignment p.ShiftLeftAssign = Some (Compound b.ShiftLeft)
mark_assignment p.ShiftRightAssign = Some (Compound b.ShiftRight)
mark_assignment p.AndAssign = Some (Compound b.BitAnd)
mark_assignment p.XorAssign = Some (Compound b.BitXor)
mark_assignment p.OrAssign = Some (Compound b.BitOr)
mark_assignment _ = None

abbrev pub assignment_at : Token → Option AssignmentOperator
assignment_at x = of_mark mark_assignment (mark_of x.kind)

abbrev pub mark_direction : Punctuator → Option Direction
mark_direction p.PlusPlus = Some Up
mark_direction p.MinusMinus = Some Down
mark_direction _ = None

abbrev pub direction_of : Token → Option Direction
direction_of x = of_mark mark_direction (mark_of x.kind)

-- `++` or `--`, and its place
abbrev pub direction_at : Token → Option (Direction × ℕ)
direction_at x = with_place x.offset (direction_of x)

abbrev pub is_direction : Token → Bool
is_direction x = is_some (direction_of x)
