-- Whole texts.
use Rattle.std.proofs.Common.{◌≡◌, ℕ, suc, ◌+◌, ◌-◌, ◌≤◌, List, [], length}
use Rattle.std.specs.Prelude.{Ok, Err, false}
use Rattle.c_token.specs.declared.token.Token.{Token}
use Rattle.grammar.specs.Sentences.{SentenceWithin, FaultAt, TooDeepAt}
use Rattle.grammar.specs.Readers.{Stop, Syntax, Deep, Reading}
use Rattle.grammar.proofs.Good.{Reads}
use Rattle.grammar.proofs.Parts.{nowhere}
use Rattle.grammar.proofs.Whole as w
use Rattle.grammar.proofs.Exact as x
use Rattle.c_tree.specs.declared.declaration.TranslationUnit.{TranslationUnit}
use Rattle.c_tree.specs.Tokens.{is_type_word}
use Rattle.c_tree.specs.Declarations.{unit}
use Rattle.c_reading.specs.Declarations.{read_unit}
use Rattle.c_reading.proofs.ExprShapes.{All}
use Rattle.c_reading.proofs.DeclarationProofs as p

module _ (ts : List Token) where
  good : Reads All (suc (length ts)) unit (λ room. read_unit (suc room) room) is_type_word (λ v. nowhere) false
  good = p.unit (suc (length ts))

  abbrev pub reading : Reading Token TranslationUnit
  reading = read_unit 65 64 ts

  pub within_ok : (v : TranslationUnit) (new : List Token) → reading ≡ Ok (v, new) → length new ≤ length ts
  within_ok = w.within_ok 64 ts good

  pub within_syntax : (rest : List Token) → reading ≡ Err (Syntax rest) → length rest ≤ length ts
  within_syntax = w.within_syntax 64 ts good

  pub within_deep : (above : ℕ) (rest : List Token) → reading ≡ Err (Deep above rest) → length rest ≤ length ts
  within_deep = w.within_deep 64 ts good

  pub all_read : (v : TranslationUnit) (new : List Token) → reading ≡ Ok (v, new) → length new ≡ 0 → SentenceWithin unit 64 ts v
  all_read = w.all_read 64 ts good

  pub some_left : (v : TranslationUnit) (new : List Token) → reading ≡ Ok (v, new) → (length new ≡ 0 → ⊥) → FaultAt unit 64 ts (length ts - length new)
  some_left = w.some_left 64 ts good

  pub err_fault : (rest : List Token) → reading ≡ Err (Syntax rest) → FaultAt unit 64 ts (length ts - length rest)
  err_fault = w.err_fault 64 ts good

  pub err_deep : (above : ℕ) (rest : List Token) → reading ≡ Err (Deep above rest) → TooDeepAt unit 64 ts (length ts - length rest) (64 + above)
  err_deep = w.err_deep 64 ts good

  pub only_one : (u v : TranslationUnit) (new : List Token) → reading ≡ Ok (u, new) → SentenceWithin unit 64 ts v → (u ≡ v) × (new ≡ [])
  only_one = w.only_one 64 ts good

  pub no_sentence : (stop : Stop Token) (v : TranslationUnit) → reading ≡ Err stop → SentenceWithin unit 64 ts v → ⊥
  no_sentence = w.no_sentence 64 ts good

  pub fault_once : (j k : ℕ) → FaultAt unit 64 ts j → FaultAt unit 64 ts k → j ≡ k
  fault_once = x.fault_once {p = λ n room. read_unit (suc room) room} p.unit 64 ts

  pub deep_once : (j k m n : ℕ) → TooDeepAt unit 64 ts j m → TooDeepAt unit 64 ts k n → (j ≡ k) × (m ≡ n)
  deep_once = x.deep_once {p = λ n room. read_unit (suc room) room} p.unit 64 ts

  pub fault_or_deep : (j k n : ℕ) → FaultAt unit 64 ts j → TooDeepAt unit 64 ts k n → ⊥
  fault_or_deep = x.fault_or_deep {p = λ n room. read_unit (suc room) room} p.unit 64 ts

  pub sentence_or_fault : (v : TranslationUnit) (k : ℕ) → SentenceWithin unit 64 ts v → FaultAt unit 64 ts k → ⊥
  sentence_or_fault v k h f = x.sentence_or_fault {p = λ n room. read_unit (suc room) room} p.unit 64 ts v k (h.0, h.1, h.2) f

  pub sentence_or_deep : (v : TranslationUnit) (k n : ℕ) → SentenceWithin unit 64 ts v → TooDeepAt unit 64 ts k n → ⊥
  sentence_or_deep = x.sentence_or_deep {p = λ n room. read_unit (suc room) room} p.unit 64 ts
