-- The grammar's sentences are the tokens of nets.
use Rattle.std.proofs.Common.{◌≡◌, ℕ, suc, ◌+◌, ◌-◌, List, [], ◌∷◌, ◌++◌, length, take, Ok, Err, refl, sym, ap, ◌∙◌, subst}
use Rattle.std.proofs.lemmas.List.{nil_from_length}
use Rattle.verilog_tree.specs.declared.token.Token.{Token}
use Rattle.verilog_tree.specs.declared.tree.Net.{Net}
use Rattle.verilog_tree.specs.Grammar as v
use Rattle.verilog_tree.specs.Reads.{IsFull}
use Rattle.grammar.specs.Rules.{Placed}
use Rattle.grammar.specs.Readers.{Reading, Syntax, Deep}
use Rattle.grammar.specs.Sentences.{plain, FaultAt, StartsWithin, StartsSentence, Sentence}
use Rattle.grammar.proofs.Lists.{plain-append}
use Rattle.grammar.proofs.Whole as whole
use Rattle.verilog_rules.specs.Phrases as g
use Rattle.verilog_rules.specs.Reading.{read_net}
use Rattle.verilog_rules.specs.Leads.{Starts}
use Rattle.verilog_rules.specs.Laws.{StopsWith, DepartsAt}
use Rattle.verilog_rules.proofs.Modules as reads
use Rattle.verilog_rules.proofs.SpelledModules.{spelled_to, spelled_from}

plain_split : (a b : List Token) (ts : List (Placed Token)) → plain ts ≡ a ++ b → (front : List (Placed Token)) × (rest : List (Placed Token)) × (ts ≡ front ++ rest) ×
    (plain front ≡ a)
plain_split [] b ts e = ([], ts, refl, refl)
plain_split (x ∷ a) b [] e = cc
plain_split (x ∷ a) b (p ∷ ts) e =
    let tail : plain ts ≡ a ++ b = cc in
    let head : p.0 ≡ x = cc in
    let more = plain_split a b ts tail in
    (p ∷ more.0, more.1, ap (λ l. p ∷ l) more.2, ap (λ l. p.0 ∷ l) more.3 ∙ ap (λ y. y ∷ a) head)

starts_to : (limit : ℕ) (ts : List Token) → StartsWithin g.net limit ts → Starts ts
starts_to limit ts h =
    let spelled = spelled_to (h.0 ++ h.2.0) h.2.1 h.2.2 in
    record { net = h.2.1; more = plain h.2.0; is = sym spelled.0 ∙ plain-append h.0 h.2.0 ∙ ap (λ l. l ++ plain h.2.0) h.1; full = spelled.1 }

starts_from : (ts : List Token) → Starts ts → StartsSentence g.net ts
starts_from ts h =
    let placed = spelled_from h.net h.full in
    let split = plain_split ts h.more placed.0 (placed.1 ∙ h.is) in
    (split.0, split.3, (split.1, h.net, (placed.2.0, subst (λ l. g.net placed.2.0 0 l h.net) split.2 placed.2.1)))

sentence_from : (ts : List Token) (n : Net) → ts ≡ v.net n → IsFull n → Sentence g.net ts n
sentence_from ts n e full = let placed = spelled_from n full in (placed.0, placed.1 ∙ sym e, placed.2)

departs_from : (limit : ℕ) (ts : List Token) (k : ℕ) → FaultAt g.net limit ts k → DepartsAt ts k
departs_from limit ts k h = record {
  inside = h.inside;
  begun = starts_to limit (take k ts) h.begun;
  stuck = λ lt s. h.stuck lt (starts_from (take (k + 1) ts) s);
  cut = λ e n is full. h.cut e n (sentence_from ts n is full);
}

pub found_net : (limit : ℕ) (ts : List Token) (n : Net) → read_net (suc limit) ts ≡ Ok (n, []) → (ts ≡ v.net n) × IsFull n
found_net limit ts n e =
    let s = whole.all_read limit ts (reads.net (suc (length ts))) n [] e refl in
    let spelled = spelled_to s.0 n s.2 in
    (sym s.1 ∙ spelled.0, spelled.1)

pub departs_where : (limit : ℕ) (ts left : List Token) → StopsWith (read_net (suc limit) ts) left → DepartsAt ts (length ts - length left)
departs_where limit ts left h = by (read_net (suc limit) ts) refl h where
  by : (r : Reading Token Net) → read_net (suc limit) ts ≡ r → StopsWith r left → DepartsAt ts (length ts - length left)
  by (Ok p) e h =
      let is : read_net (suc limit) ts ≡ Ok (p.0, left) = e ∙ ap (λ l. Ok (p.0, l)) h.0 in
      departs_from limit ts _ (whole.some_left limit ts (reads.net (suc (length ts))) p.0 left is (λ z. h.1 (nil_from_length left z)))
  by (Err (Syntax at)) e h =
      let is : read_net (suc limit) ts ≡ Err (Syntax left) = e ∙ ap (λ l. Err (Syntax l)) h in
      departs_from limit ts _ (whole.err_fault limit ts (reads.net (suc (length ts))) left is)
  by (Err (Deep above at)) e h = absurd h
