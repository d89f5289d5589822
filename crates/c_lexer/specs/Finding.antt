-- How the lexer finds the lexeme at the front of a text, and its length.
use Rattle.std.specs.Prelude.{ℕ, ◌+◌, Bool, true, false, ◌==◌, ◌&&◌, nat_lt, if◌then◌else◌, [], ◌∷◌, length, take, drop, slice_index, Option, Some, None, option_map, is_some}
use Rattle.c_token.specs.Spelling.{Bytes, punctuator_spelling}
use Rattle.c_token.specs.Constants.{character_of}
use Rattle.c_lexer.specs.declared.lexeme.Class.{Class}
use Rattle.c_lexer.specs.declared.lexeme.Class.TheVariants as c
use Rattle.c_lexer.specs.declared.lexeme.Run.{Run}
use Rattle.c_lexer.specs.declared.lexeme.Run.TheVariants as r
use Rattle.c_lexer.specs.Lexemes.{goes_on, class_at, is_splice, is_comment_end, is_printable}

unfoldable pub run_len : Run → Bytes → ℕ
run_len run [] = 0
run_len run (b ∷ z) = if goes_on run (b ∷ z) then 1 + run_len run z else 0

abbrev pub line_comment_len : Bytes → Option ℕ
line_comment_len z = if is_splice (drop (run_len r.Line z) z) then None else Some (run_len r.Line z)

-- what stands behind `/*`, with its `*/`
abbrev pub block_len : Bytes → Option ℕ
block_len z = if is_comment_end (drop (run_len r.Block z) z) then Some (run_len r.Block z + 2) else None

abbrev pub character_span : Bytes → ℕ
character_span z = if slice_index z 1 == 92 then 4 else 3

abbrev pub character_len : Bytes → Option ℕ
character_len z = if is_some (character_of (take (character_span z) z)) then Some (character_span z) else None

-- n bytes more than what stands behind the quote, with the quote that closes it
unfoldable pub text_len : ℕ → Bool → Bytes → Option ℕ
text_len n escaped [] = None
text_len n true (b ∷ z) = if is_printable b then text_len (n + 1) false z else None
text_len n false (b ∷ z) = if b == 34 then Some (n + 1) else (if is_printable b then text_len (n + 1) (b == 92) z else None)

abbrev pub begins_with : ℕ → Bytes → Bool
begins_with b [] = false
begins_with b (a ∷ z) = a == b

-- what stands behind the byte that opens a header, with the byte that closes it
abbrev pub header_len : ℕ → Bytes → Option ℕ
header_len close z =
    if nat_lt 0 (run_len (r.Header close) z) && begins_with close (drop (run_len (r.Header close) z) z)
    then Some (run_len (r.Header close) z + 1) else None

abbrev pub len_of : Class → Bytes → Option ℕ
len_of c.Blank z = Some 1
len_of c.LineFeed z = Some 1
len_of c.Hash z = Some 1
len_of c.Word z = Some (run_len r.Word z)
len_of c.Number z = Some (run_len r.Number z)
len_of c.LineComment z = line_comment_len z
len_of c.BlockComment z = option_map (λ n. n + 2) (block_len (drop 2 z))
len_of c.Character z = character_len z
len_of c.Text z = text_len 1 false (drop 1 z)
len_of (c.Header close) z = option_map (λ n. n + 1) (header_len close (drop 1 z))
len_of (c.Mark p) z = Some (length (punctuator_spelling p))

abbrev pub Found : Type 0
Found = Class × ℕ

abbrev pub found_of : Bytes → Option Class → Option Found
found_of z None = None
found_of z (Some class) = option_map (λ n. (class, n)) (len_of class z)

-- the class of the lexeme at the front, and its length
unfoldable pub lexeme_at : Bool → Bytes → Option Found
lexeme_at header z = found_of z (class_at header z)
