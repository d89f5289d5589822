-- A text reads as at most one net: the reader finds each net whose tokens these are.
use Rattle.std.proofs.Common.{◌≡◌, ℕ, suc, ◌+◌, ◌≤◌, List, [], ◌∷◌, length, Ok, refl, sym, ap, ◌∙◌, arith}
use Rattle.verilog_tree.specs.declared.token.Token.{Token}
use Rattle.verilog_tree.specs.declared.tree.Net.{Net}
use Rattle.verilog_tree.specs.Grammar as v
use Rattle.verilog_tree.specs.Reads.{Reads, IsFull}
use Rattle.verilog_tree.specs.Spelling.{Text}
use Rattle.verilog_tree.proofs.OneSplit.{splits_same}
use Rattle.grammar.specs.Rules.{Placed}
use Rattle.grammar.specs.Sentences.{Within, SentenceWithin}
use Rattle.grammar.specs.Readers.{Reading}
use Rattle.grammar.proofs.Whole as whole
use Rattle.verilog_rules.specs.Phrases as g
use Rattle.verilog_rules.specs.Reading.{read_net}
use Rattle.verilog_rules.proofs.Modules as reads
use Rattle.verilog_rules.proofs.SpelledModules.{spelled_from}

-- a limit that no nesting is above
abbrev sum_of : List (Placed Token) → ℕ
sum_of [] = 0
sum_of (x ∷ xs) = x.1 + sum_of xs

within : (placed : List (Placed Token)) (limit : ℕ) → sum_of placed ≤ limit → Within limit placed
within [] limit h = tt
within (x ∷ xs) limit h =
    let both : sum_of (x ∷ xs) ≡ x.1 + sum_of xs = refl in
    (omega (arith, h, both), within xs limit (omega (arith, h, both)))

found : (ts : List Token) (limit : ℕ) (n : Net) → SentenceWithin g.net limit ts n → read_net (suc limit) ts ≡ Ok (n, [])
found ts limit n h = whole.complete limit ts (reads.net (suc (length ts))) n h

same_found : (a b : Net) (r : Reading Token Net) → r ≡ Ok (a, []) → r ≡ Ok (b, []) → a ≡ b
same_found a b r e f =
    let before : Net × List Token = (a, []) in
    let behind : Net × List Token = (b, []) in
    let pair : before ≡ behind = cc in
    ap (λ p. p.0) pair

net_one : (a b : Net) → IsFull a → IsFull b → v.net a ≡ v.net b → a ≡ b
net_one a b left right e =
    let p = spelled_from a left in
    let q = spelled_from b right in
    let limit = sum_of p.0 + sum_of q.0 in
    let first : read_net (suc limit) (v.net a) ≡ Ok (a, []) = found (v.net a) limit a (p.0, p.1, p.2, within p.0 limit (omega arith)) in
    let second : read_net (suc limit) (v.net a) ≡ Ok (b, []) = found (v.net a) limit b (q.0, q.1 ∙ sym e, q.2, within q.0 limit (omega arith)) in
    same_found a b _ first second

-- A text reads as at most one net.
pub reads_one : (text : Text) (a b : Net) → Reads text a → Reads text b → a ≡ b
reads_one text a b h k = net_one a b h.full k.full (splits_same text (v.net a) (v.net b) h.tokens k.tokens)
