-- The spelling of words, names and quoted texts (IEEE 1364-2005, section 3).
use Rattle.std.specs.Prelude.{ℕ, Bool, true, false, not, ◌==◌, ◌&&◌, ◌||◌, nat_le, if◌then◌else◌, List, [], ◌∷◌, Option, Some, None, codes}
use Rattle.std.specs.Str.{bytes_eq}
use Rattle.std.specs.Char.{is_ascii_digit, is_ascii_alphabetic}
use Rattle.verilog_tree.specs.declared.token.Word.{Word}
use Rattle.verilog_tree.specs.declared.token.Word.TheVariants as w

abbrev pub Text : Type 0
Text = List ℕ

-- ---- words of the grammar

abbrev pub word_spelling : Word → Text
word_spelling w.Module = codes "module"
word_spelling w.EndModule = codes "endmodule"
word_spelling w.Input = codes "input"
word_spelling w.Output = codes "output"
word_spelling w.Wire = codes "wire"
word_spelling w.Reg = codes "reg"
word_spelling w.Assign = codes "assign"
word_spelling w.Initial = codes "initial"
word_spelling w.Always = codes "always"
word_spelling w.PosEdge = codes "posedge"
word_spelling w.Begin = codes "begin"
word_spelling w.End = codes "end"
word_spelling w.If = codes "if"

abbrev pub all_words : List Word
all_words = w.Module ∷ w.EndModule ∷ w.Input ∷ w.Output ∷ w.Wire ∷ w.Reg ∷ w.Assign ∷ w.Initial ∷ w.Always ∷ w.PosEdge ∷ w.Begin ∷ w.End ∷ w.If ∷ []

-- the word that is spelled so
abbrev pub word_among : List Word → Text → Option Word
word_among [] z = None
word_among (w ∷ ws) z = if bytes_eq z (word_spelling w) then Some w else word_among ws z

-- ---- names

abbrev pub is_letter : ℕ → Bool
is_letter b = is_ascii_alphabetic b || b == 95

abbrev pub is_name_byte : ℕ → Bool
is_name_byte b = is_letter b || is_ascii_digit b

abbrev pub all_pass : (ℕ → Bool) → Text → Bool
all_pass p [] = true
all_pass p (b ∷ z) = p b && all_pass p z

abbrev pub is_no_word : Option Word → Bool
is_no_word None = true
is_no_word (Some w) = false

-- a letter or _, then letters, digits and _, and no word of the grammar
abbrev pub is_name : Text → Bool
is_name [] = false
is_name (b ∷ z) = is_letter b && (all_pass is_name_byte z && is_no_word (word_among all_words (b ∷ z)))

-- ---- quoted texts

abbrev pub is_plain : ℕ → Bool
is_plain b = nat_le 32 b && nat_le b 126

-- bytes 0x20 to 0x7E, where a backslash takes the next one with it
abbrev pub is_quoted : Bool → Text → Bool
is_quoted escaped [] = not escaped
is_quoted true (b ∷ z) = is_plain b && is_quoted false z
is_quoted false (b ∷ z) = not (b == 34) && (is_plain b && is_quoted (b == 92) z)
