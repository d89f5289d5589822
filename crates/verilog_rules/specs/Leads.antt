-- How a text is made of tokens from its front on, and where it departs from the grammar.
use Rattle.std.specs.Prelude.{◌≡◌, ℕ, ◌+◌, false, List, [], ◌∷◌, ◌++◌, length, Some}
use Rattle.verilog_tree.specs.declared.token.Token.{Token}
use Rattle.verilog_tree.specs.declared.tree.Net.{Net}
use Rattle.verilog_tree.specs.Spelling.{Text}
use Rattle.verilog_tree.specs.Tokens.{front, skip}
use Rattle.verilog_tree.specs.Grammar as g
use Rattle.verilog_tree.specs.Reads.{IsFull, Reads}

-- these tokens stand at the front, and this is the text from what stands behind them on, blanks and comments left out
abbrev pub Leads : Text → List Token → Text → Type 0
Leads text [] rest = skip false text ≡ rest
Leads text (t ∷ ts) rest = (behind : Text) × (front (skip false text) ≡ Some (t, behind)) × Leads behind ts rest

-- the same, by the offset of what stands behind them
pub record LeadsTo (text : Text) (ts : List Token) (offset : ℕ) : Type 0 where
  pub rest : Text
  pub leads : Leads text ts rest
  pub place : offset + length rest ≡ length text

-- a sentence starts with these tokens
pub record Starts (ts : List Token) : Type 0 where
  pub net : Net
  pub more : List Token
  pub is : g.net net ≡ ts ++ more
  pub full : IsFull net

-- a sentence starts with the tokens before the offset, and none with them and what stands there: another token, no token, or the text's end
pub record IsSyntaxFault (text : Text) (offset : ℕ) : Type 0 where
  pub before : List Token
  pub rest : Text
  pub leads : Leads text before rest
  pub place : offset + length rest ≡ length text
  pub begun : Starts before
  pub stuck : (t : Token) (behind : Text) → front rest ≡ Some (t, behind) → Starts (before ++ t ∷ []) → ⊥
  pub cut : rest ≡ [] → (n : Net) → Reads text n → ⊥
