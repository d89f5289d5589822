-- Lexemes: what a C text is split into (C99 6.4): tokens, blanks, comments and the parts of a directive.
use Rattle.std.specs.Prelude.{◌≡◌, ℕ, ◌<◌, Bool, true, false, not, ◌==◌, ◌&&◌, ◌||◌, nat_eq, nat_le, if◌then◌else◌, [], ◌∷◌, ◌++◌, length, Option, Some, None, option_map, is_some, codes}
use Rattle.std.specs.List.{starts_with}
use Rattle.std.specs.Char.{is_ascii_digit, is_ascii_alphabetic}
use Rattle.c_token.specs.Spelling.{Bytes, punctuator_spelling, punctuator_at}
use Rattle.c_token.specs.Constants.{character_of}
use Rattle.c_lexer.specs.declared.lexeme.Class.{Class}
use Rattle.c_lexer.specs.declared.lexeme.Class.TheVariants as c
use Rattle.c_lexer.specs.declared.lexeme.Run.{Run}
use Rattle.c_lexer.specs.declared.lexeme.Run.TheVariants as r

-- ---- bytes

-- a space, tab or carriage return
abbrev pub is_blank : ℕ → Bool
is_blank b = b == 32 || (b == 9 || b == 13)

abbrev pub is_letter : ℕ → Bool
is_letter b = is_ascii_alphabetic b || b == 95

abbrev pub is_name_byte : ℕ → Bool
is_name_byte b = is_letter b || is_ascii_digit b

abbrev pub is_number_byte : ℕ → Bool
is_number_byte b = is_name_byte b || b == 46

abbrev pub is_printable : ℕ → Bool
is_printable b = nat_le 32 b && nat_le b 126

-- a backslash before the end of a line begins here
abbrev pub is_splice : Bytes → Bool
is_splice z = starts_with nat_eq z (92 ∷ 10 ∷ []) || starts_with nat_eq z (92 ∷ 13 ∷ 10 ∷ [])

abbrev pub is_comment_end : Bytes → Bool
is_comment_end z = starts_with nat_eq z (codes "*/")

-- ---- the longest runs

-- the run goes on with the first byte of the text
unfoldable pub goes_on : Run → Bytes → Bool
goes_on run [] = false
goes_on r.Word (b ∷ z) = is_name_byte b
goes_on r.Number (b ∷ z) = is_number_byte b
goes_on r.Line (b ∷ z) = not (b == 10) && not (is_splice (b ∷ z))
goes_on r.Block (b ∷ z) = not (is_comment_end (b ∷ z)) && not (is_splice (b ∷ z))
goes_on (r.Header close) (b ∷ z) = not (b == close) && (b == 9 || is_printable b)

-- the run goes on over all of the body, which the rest follows
abbrev pub GoesOver : Run → Bytes → Bytes → Type 0
GoesOver run [] rest = Unit {0}
GoesOver run (b ∷ body) rest = (goes_on run (b ∷ (body ++ rest)) ≡ true) × GoesOver run body rest

-- and no further
abbrev pub IsRun : Run → Bytes → Bytes → Type 0
IsRun run body rest = GoesOver run body rest × (goes_on run rest ≡ false)

-- ---- classes

abbrev pub comment_or_mark : Bytes → Option Class
comment_or_mark z =
    if starts_with nat_eq z (codes "//") then Some c.LineComment
    else (if starts_with nat_eq z (codes "/*") then Some c.BlockComment
    else option_map c.Mark (punctuator_at z))

abbrev pub header_or_text : Bool → Class
header_or_text true = c.Header 34
header_or_text false = c.Text

abbrev pub header_or_mark : Bool → Bytes → Option Class
header_or_mark true z = Some (c.Header 62)
header_or_mark false z = option_map c.Mark (punctuator_at z)

-- What the text begins with, where an include directive awaits what it names, or doesn't.
unfoldable pub class_at : Bool → Bytes → Option Class
class_at header [] = None
class_at header (b ∷ z) =
    if is_blank b then Some c.Blank
    else (if b == 10 then Some c.LineFeed
    else (if is_letter b then Some c.Word
    else (if is_ascii_digit b then Some c.Number
    else (if b == 39 then Some c.Character
    else (if b == 34 then Some (header_or_text header)
    else (if b == 60 then header_or_mark header (b ∷ z)
    else (if b == 35 then Some c.Hash
    else comment_or_mark (b ∷ z))))))))

-- ---- lexemes

-- inside quotes: bytes 0x20 to 0x7E, where a backslash takes the next one with it
unfoldable pub is_text_body : Bool → Bytes → Bool
is_text_body escaped [] = not escaped
is_text_body true (b ∷ z) = is_printable b && is_text_body false z
is_text_body false (b ∷ z) = not (b == 34) && (is_printable b && is_text_body (b == 92) z)

-- All of the bytes are one lexeme of the class, where the rest follows.
abbrev pub IsOf : Class → Bytes → Bytes → Type 0
IsOf c.Blank bytes rest = length bytes ≡ 1
IsOf c.LineFeed bytes rest = length bytes ≡ 1
IsOf c.Hash bytes rest = length bytes ≡ 1
IsOf c.Word bytes rest = IsRun r.Word bytes rest
IsOf c.Number bytes rest = IsRun r.Number bytes rest
IsOf c.LineComment bytes rest = IsRun r.Line bytes rest × (is_splice rest ≡ false)
IsOf c.BlockComment bytes rest =
    (inside : Bytes) × (bytes ≡ codes "/*" ++ (inside ++ codes "*/")) × IsRun r.Block inside (codes "*/" ++ rest)
IsOf c.Character bytes rest = is_some (character_of bytes) ≡ true
IsOf c.Text bytes rest = (inside : Bytes) × (bytes ≡ 34 ∷ (inside ++ (34 ∷ []))) × (is_text_body false inside ≡ true)
IsOf (c.Header close) bytes rest =
    (first : ℕ) × (inside : Bytes) × (bytes ≡ first ∷ (inside ++ (close ∷ []))) × (0 < length inside) × IsRun (r.Header close) inside (close ∷ rest)
IsOf (c.Mark p) bytes rest = bytes ≡ punctuator_spelling p

abbrev pub IsLexeme : Bool → Class → Bytes → Bytes → Type 0
IsLexeme header class bytes rest = (class_at header (bytes ++ rest) ≡ Some class) × IsOf class bytes rest
