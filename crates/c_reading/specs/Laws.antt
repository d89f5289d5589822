-- The law of the reader of whole texts, which leaves 64 levels of nesting.
use Rattle.std.specs.Prelude.{◌≡◌, ℕ, ◌+◌, ◌-◌, List, [], length, Ok, Err}
use Rattle.c_token.specs.declared.token.Token.{Token}
use Rattle.grammar.specs.Readers.{Syntax, Deep}
use Rattle.grammar.specs.Sentences.{SentenceWithin, FaultAt, TooDeepAt}
use Rattle.c_tree.specs.declared.declaration.TranslationUnit.{TranslationUnit}
use Rattle.c_tree.specs.Declarations.{unit}
use Rattle.c_reading.specs.Declarations.{read_unit}

-- it reads a sentence to its end, stops at the token where no sentence goes on, or at the first that is nested too deep, and finds
-- the tree of every sentence
pub record ReadsExactly (ts : List Token) : Type 0 where
  pub tree : (v : TranslationUnit) → read_unit 65 64 ts ≡ Ok (v, []) → SentenceWithin unit 64 ts v
  pub more : (v : TranslationUnit) (left : List Token) → read_unit 65 64 ts ≡ Ok (v, left) → (length left ≡ 0 → ⊥) → FaultAt unit 64 ts (length ts - length left)
  pub fault : (left : List Token) → read_unit 65 64 ts ≡ Err (Syntax left) → FaultAt unit 64 ts (length ts - length left)
  pub deep : (above : ℕ) (left : List Token) → read_unit 65 64 ts ≡ Err (Deep above left) → TooDeepAt unit 64 ts (length ts - length left) (64 + above)
  pub only : (u v : TranslationUnit) (left : List Token) → read_unit 65 64 ts ≡ Ok (u, left) → SentenceWithin unit 64 ts v → (u ≡ v) × (left ≡ [])

-- THE READER IS THE GRAMMAR
abbrev pub ReaderIsGrammar : Type 0
ReaderIsGrammar = (ts : List Token) → ReadsExactly ts
