-- The tokens of a text with their offsets.
use Rattle.std.specs.Prelude.{◌≡◌, ℕ, ◌+◌, Bool, true, false, List, [], ◌∷◌, length, Some, None}
use Rattle.verilog_tree.specs.declared.token.Token.{Token}
use Rattle.verilog_tree.specs.Spelling.{Text}
use Rattle.verilog_tree.specs.Tokens.{front, skip}
use Rattle.verilog_lexer.specs.declared.tokens.Lexed.{Lexed}

-- these tokens stand from here on, the rest behind them, blanks and comments left out; each begins at its offset in a text of so many bytes
abbrev pub Lexes : ℕ → Text → List Token → List ℕ → Text → Type 0
Lexes size here [] [] rest = here ≡ rest
Lexes size here (t ∷ ts) (start ∷ starts) rest = (behind : Text) × (front here ≡ Some (t, behind)) × (start + length here ≡ size) × Lexes size (skip false behind) ts starts rest
Lexes size here _ _ rest = ⊥

-- the text ends, or no token stands there
abbrev pub EndsWith : Bool → Text → Type 0
EndsWith true rest = rest ≡ []
EndsWith false rest = (rest ≡ [] → ⊥) × (front rest ≡ None)

pub record IsLexed (text : Text) (l : Lexed) : Type 0 where
  pub rest : Text
  pub lexes : Lexes (length text) (skip false text) l.tokens l.starts rest
  pub place : l.end + length rest ≡ length text
  pub ends : EndsWith l.is_whole rest
