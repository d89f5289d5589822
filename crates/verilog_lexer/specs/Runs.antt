-- The token at the front of a text by its length.
use Rattle.std.specs.Prelude.{◌≡◌, ℕ, suc, ◌+◌, ◌-◌, ◌*◌, ◌<◌, ◌≤◌, Bool, true, false, ◌==◌, if◌then◌else◌, List, [], ◌∷◌, length, drop, Option, Some, None}
use Rattle.std.specs.Char.{is_ascii_digit}
use Rattle.verilog_tree.specs.declared.token.Mark.{Mark}
use Rattle.verilog_tree.specs.declared.token.Token.{Token}
use Rattle.verilog_tree.specs.declared.token.Token.TheVariants as t
use Rattle.verilog_tree.specs.Spelling.{Text, all_pass, is_letter, is_name_byte, is_plain}
use Rattle.verilog_tree.specs.Tokens as tokens
use Rattle.verilog_lexer.specs.declared.runs.Run.{Run}
use Rattle.verilog_lexer.specs.declared.runs.Run.TheVariants as run

abbrev pub goes_on : Run → ℕ → Bool
goes_on run.Name = is_name_byte
goes_on run.Digits = is_ascii_digit

-- how many bytes of the run stand at the front
unfoldable pub run_len : Run → Text → ℕ
run_len r [] = 0
run_len r (b ∷ z) = if goes_on r b then suc (run_len r z) else 0

-- how many bytes stand before the closing quote, with n more
unfoldable pub quoted_len : ℕ → Bool → Text → Option ℕ
quoted_len n escaped [] = None
quoted_len n true (b ∷ z) = if is_plain b then quoted_len (n + 1) false z else None
quoted_len n false (b ∷ z) = if b == 34 then Some n else (if is_plain b then quoted_len (n + 1) (b == 92) z else None)

-- the number whose digits these are, behind a number; other bytes count as digits too
abbrev pub read_on : ℕ → Text → ℕ
read_on n [] = n
read_on n (b ∷ z) = read_on (10 * n + (b - 48)) z

-- a letter or _, then letters, digits and _
abbrev pub IsNamed : Text → Type 0
IsNamed [] = ⊥
IsNamed (b ∷ z) = (is_letter b ≡ true) × (all_pass is_name_byte z ≡ true)

-- the first of these marks at the front, with its length
abbrev pub IsMarkAmong : List Mark → Text → Option (Mark × ℕ) → Type 0
IsMarkAmong marks z (Some p) = (0 < p.1) × (p.1 ≤ length z) × (tokens.mark_among marks z ≡ Some (t.Mark p.0, drop p.1 z))
IsMarkAmong marks z None = tokens.mark_among marks z ≡ None

-- ---- the class of the first byte

abbrev pub BeginsName : Text → Type 0
BeginsName [] = ⊥
BeginsName (b ∷ z) = is_letter b ≡ true

abbrev pub BeginsDigit : Text → Type 0
BeginsDigit [] = ⊥
BeginsDigit (b ∷ z) = (is_letter b ≡ false) × (is_ascii_digit b ≡ true)

abbrev pub BeginsQuote : Text → Type 0
BeginsQuote [] = ⊥
BeginsQuote (b ∷ z) = (is_letter b ≡ false) × (is_ascii_digit b ≡ false) × ((b == 34) ≡ true)

abbrev pub BeginsMark : Text → Type 0
BeginsMark [] = ⊥
BeginsMark (b ∷ z) = (is_letter b ≡ false) × (is_ascii_digit b ≡ false) × ((b == 34) ≡ false)

-- the token at the front has so many bytes, at least one
pub record IsToken (z : Text) (token : Token) (len : ℕ) : Type 0 where
  pub some : 0 < len
  pub within : len ≤ length z
  pub front : tokens.front z ≡ Some (token, drop len z)

abbrev pub IsFront : Text → Option (Token × ℕ) → Type 0
IsFront z (Some p) = IsToken z p.0 p.1
IsFront z None = tokens.front z ≡ None
