-- The tokens of a text, the longest first (IEEE 1364-2005, section 3).
use Rattle.std.specs.Prelude.{◌≡◌, ℕ, ◌^◌, Bool, true, false, not, ◌==◌, ◌&&◌, ◌||◌, nat_lt, if◌then◌else◌, List, [], ◌∷◌, ◌++◌, Option, Some, None, option_map, codes, decimal}
use Rattle.std.specs.Str.{bytes_eq}
use Rattle.std.specs.Str.Parse.{digits_value}
use Rattle.std.specs.Char.{is_ascii_digit}
use Rattle.verilog_tree.specs.declared.token.Word.{Word}
use Rattle.verilog_tree.specs.declared.token.Mark.{Mark}
use Rattle.verilog_tree.specs.declared.token.Mark.TheVariants as m
use Rattle.verilog_tree.specs.declared.token.Token.{Token}
use Rattle.verilog_tree.specs.declared.token.Token.TheVariants as t
use Rattle.verilog_tree.specs.Spelling.{Text, word_spelling, all_words, word_among, is_letter, is_name_byte, is_name, is_plain, is_quoted}

abbrev pub mark_spelling : Mark → Text
mark_spelling m.OpenRound = codes "("
mark_spelling m.CloseRound = codes ")"
mark_spelling m.OpenSquare = codes "["
mark_spelling m.CloseSquare = codes "]"
mark_spelling m.OpenCurly = codes "{"
mark_spelling m.CloseCurly = codes "}"
mark_spelling m.Semicolon = codes ";"
mark_spelling m.Colon = codes ":"
mark_spelling m.Comma = codes ","
mark_spelling m.Dot = codes "."
mark_spelling m.At = codes "@"
mark_spelling m.Equal = codes "="
mark_spelling m.LessEqual = codes "<="
mark_spelling m.Question = codes "?"
mark_spelling m.Plus = codes "+"
mark_spelling m.Minus = codes "-"
mark_spelling m.Star = codes "*"
mark_spelling m.Slash = codes "/"
mark_spelling m.Percent = codes "%"
mark_spelling m.And = codes "&"
mark_spelling m.Or = codes "|"
mark_spelling m.Xor = codes "^"
mark_spelling m.Tilde = codes "~"
mark_spelling m.EqualEqual = codes "=="
mark_spelling m.Less = codes "<"
mark_spelling m.ShiftLeft = codes "<<"
mark_spelling m.ShiftRight = codes ">>"
mark_spelling m.ArithmeticShiftRight = codes ">>>"
mark_spelling m.Decimal = codes "'d"
mark_spelling m.SignedDecimal = codes "'sd"
mark_spelling m.Signed = codes "$signed"
mark_spelling m.Write = codes "$write"

abbrev pub spelling : Token → Text
spelling (t.Word w) = word_spelling w
spelling (t.Mark m) = mark_spelling m
spelling (t.Name name) = name
spelling (t.Number n) = decimal n
spelling (t.Quoted text) = 34 ∷ (text ++ (34 ∷ []))

-- ---- the longest token at the front of a text

-- a mark stands behind those that begin with it
abbrev pub all_marks : List Mark
all_marks =
    m.OpenRound ∷ m.CloseRound ∷ m.OpenSquare ∷ m.CloseSquare ∷ m.OpenCurly ∷ m.CloseCurly ∷ m.Semicolon ∷ m.Colon ∷ m.Comma ∷ m.Dot ∷ m.At
    ∷ m.EqualEqual ∷ m.Equal ∷ m.LessEqual ∷ m.ShiftLeft ∷ m.Less ∷ m.ArithmeticShiftRight ∷ m.ShiftRight ∷ m.Question ∷ m.Plus ∷ m.Minus ∷ m.Star ∷ m.Slash
    ∷ m.Percent ∷ m.And ∷ m.Or ∷ m.Xor ∷ m.Tilde ∷ m.SignedDecimal ∷ m.Decimal ∷ m.Signed ∷ m.Write ∷ []

-- the bytes at the front that pass the test, and those behind them
abbrev pub run_of : (ℕ → Bool) → Text → Text
run_of p [] = []
run_of p (b ∷ z) = if p b then b ∷ run_of p z else []

abbrev pub after_run : (ℕ → Bool) → Text → Text
after_run p [] = []
after_run p (b ∷ z) = if p b then after_run p z else b ∷ z

-- a word of the grammar, or a name
abbrev pub word_by : Option Word → Text → Token
word_by (Some w) z = t.Word w
word_by None z = t.Name z

abbrev pub word_or_name : Text → Token
word_or_name z = word_by (word_among all_words z) z

-- a number below 2 to the 64, without leading zeros
abbrev pub number_of : Text → Option ℕ
number_of z = let n = digits_value 10 z in if nat_lt n (2 ^ 64) && bytes_eq (decimal n) z then Some n else None

abbrev pub strip : Text → Text → Option Text
strip [] z = Some z
strip (p ∷ ps) [] = None
strip (p ∷ ps) (b ∷ z) = if b == p then strip ps z else None

abbrev pub mark_by : Option Text → Mark → Option (Token × Text) → Option (Token × Text)
mark_by (Some rest) m others = Some (t.Mark m, rest)
mark_by None m others = others

abbrev pub mark_among : List Mark → Text → Option (Token × Text)
mark_among [] z = None
mark_among (m ∷ ms) z = mark_by (strip (mark_spelling m) z) m (mark_among ms z)

abbrev pub with_byte : ℕ → Option (Text × Text) → Option (Text × Text)
with_byte b None = None
with_byte b (Some p) = Some (b ∷ p.0, p.1)

-- the text up to the closing quote, and what stands behind it
abbrev pub quoted : Bool → Text → Option (Text × Text)
quoted escaped [] = None
quoted true (b ∷ z) = if is_plain b then with_byte b (quoted false z) else None
quoted false (b ∷ z) = if b == 34 then Some ([], z) else (if is_plain b then with_byte b (quoted (b == 92) z) else None)

-- by the class of the first byte: a letter, a digit, a quote or another
abbrev pub front_of : Bool → Bool → Bool → ℕ → Text → Option (Token × Text)
front_of true digit quote b z = Some (word_or_name (b ∷ run_of is_name_byte z), after_run is_name_byte z)
front_of false true quote b z = option_map (λ n. (t.Number n, after_run is_ascii_digit z)) (number_of (b ∷ run_of is_ascii_digit z))
front_of false false true b z = option_map (λ p. (t.Quoted p.0, p.1)) (quoted false z)
front_of false false false b z = mark_among all_marks (b ∷ z)

-- the token, and the text behind it
unfoldable pub front : Text → Option (Token × Text)
front [] = None
front (b ∷ z) = front_of (is_letter b) (is_ascii_digit b) (b == 34) b z

-- ---- blanks and comments

abbrev pub is_blank : ℕ → Bool
is_blank b = b == 32 || (b == 9 || (b == 10 || b == 13))

abbrev pub begins_slash : Text → Bool
begins_slash [] = false
begins_slash (b ∷ z) = b == 47

-- what stands behind the blanks and comments at the front; true inside a comment, which goes up to a line feed
unfoldable pub skip : Bool → Text → Text
skip comment [] = []
skip true (b ∷ z) = skip (not (b == 10)) z
skip false (b ∷ z) = elim (is_blank b) as (λ v. Text) [ true ↦ skip false z | false ↦ elim (b == 47 && begins_slash z) as (λ v. Text) [ true ↦ skip true z | false ↦ b ∷ z ] ]

-- ---- whole texts

-- the text is these tokens, with blanks and comments between them
unfoldable pub Splits : Text → List Token → Type 0
Splits text [] = skip false text ≡ []
Splits text (t ∷ ts) = (rest : Text) × (front (skip false text) ≡ Some (t, rest)) × Splits rest ts

-- ---- tokens that a text can have

abbrev pub is_token : Token → Bool
is_token (t.Word w) = true
is_token (t.Mark m) = true
is_token (t.Name n) = is_name n
is_token (t.Number n) = nat_lt n (2 ^ 64)
is_token (t.Quoted text) = is_quoted false text
