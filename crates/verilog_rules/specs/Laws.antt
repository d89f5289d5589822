-- The law of the reader of whole texts, by how many levels of nesting it leaves.
use Rattle.std.specs.Prelude.{◌≡◌, ℕ, suc, ◌+◌, ◌-◌, ◌<◌, ◌≤◌, List, [], length, take, Ok, Err}
use Rattle.verilog_tree.specs.declared.token.Token.{Token}
use Rattle.verilog_tree.specs.declared.tree.Net.{Net}
use Rattle.verilog_tree.specs.Grammar as g
use Rattle.verilog_tree.specs.Reads.{IsFull}
use Rattle.grammar.specs.Readers.{Reading, Syntax, Deep}
use Rattle.grammar.specs.Sentences.{SentenceWithin, FaultAt, TooDeepAt}
use Rattle.verilog_rules.specs.Phrases.{net}
use Rattle.verilog_rules.specs.Reading.{read_net}
use Rattle.verilog_rules.specs.Leads.{Starts}

-- it reads a sentence to its end, stops at the token where no sentence goes on, or at the first that is nested too deep, and finds
-- the net of every sentence
pub record ReadsExactly (limit : ℕ) (ts : List Token) : Type 0 where
  pub found : (v : Net) → read_net (suc limit) ts ≡ Ok (v, []) → SentenceWithin net limit ts v
  pub more : (v : Net) (left : List Token) → read_net (suc limit) ts ≡ Ok (v, left) → (length left ≡ 0 → ⊥) → FaultAt net limit ts (length ts - length left)
  pub fault : (left : List Token) → read_net (suc limit) ts ≡ Err (Syntax left) → FaultAt net limit ts (length ts - length left)
  pub deep : (above : ℕ) (left : List Token) → read_net (suc limit) ts ≡ Err (Deep above left) → TooDeepAt net limit ts (length ts - length left) (limit + above)
  pub only : (u v : Net) (left : List Token) → read_net (suc limit) ts ≡ Ok (u, left) → SentenceWithin net limit ts v → (u ≡ v) × (left ≡ [])

-- THE READER IS THE GRAMMAR
abbrev pub ReaderIsGrammar : Type 0
ReaderIsGrammar = (limit : ℕ) (ts : List Token) → ReadsExactly limit ts

-- ---- in the terms of the tree

-- the reader stops with these tokens left: at a token with which no sentence goes on, or behind a whole sentence
abbrev pub StopsWith : Reading Token Net → List Token → Type 0
StopsWith (Ok p) left = (p.1 ≡ left) × (left ≡ [] → ⊥)
StopsWith (Err (Syntax at)) left = at ≡ left
StopsWith (Err (Deep above at)) left = ⊥

-- the first k tokens start a sentence, and no sentence starts with one more of them or is all of them
pub record DepartsAt (ts : List Token) (k : ℕ) : Type 0 where
  pub inside : k ≤ length ts
  pub begun : Starts (take k ts)
  pub stuck : k < length ts → Starts (take (k + 1) ts) → ⊥
  pub cut : k ≡ length ts → (n : Net) → ts ≡ g.net n → IsFull n → ⊥

-- it finds the net whose tokens these are, and stops where they depart from the tokens of every net
pub record ReadsNets (limit : ℕ) (ts : List Token) : Type 0 where
  pub found : (n : Net) → read_net (suc limit) ts ≡ Ok (n, []) → (ts ≡ g.net n) × IsFull n
  pub departs : (left : List Token) → StopsWith (read_net (suc limit) ts) left → DepartsAt ts (length ts - length left)

abbrev pub ReaderReadsNets : Type 0
ReaderReadsNets = (limit : ℕ) (ts : List Token) → ReadsNets limit ts
