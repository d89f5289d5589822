-- The clauses of `read`.
use Rattle.std.specs.Prelude.{◌≡◌, ℕ, suc, ◌-◌, ◌==◌, ◌&&◌, Bool, true, false, List, [], ◌∷◌, length, Result, Ok, Err, IfOk, IfErr}
use Rattle.std.proofs.Common.{refl, sym, ap, ◌∙◌, subst, ⊎_elim, arith}
use Rattle.std.proofs.lemmas.Bool.{eq-eqb, eqb-true, and_parts}
use Rattle.verilog_tree.specs.declared.token.Token.{Token}
use Rattle.verilog_tree.specs.declared.tree.Net.{Net}
use Rattle.verilog_tree.specs.Spelling.{Text}
use Rattle.verilog_tree.specs.Grammar as g
use Rattle.verilog_tree.specs.Reads.{IsFilled, IsFull, Reads}
use Rattle.verilog_rules.proofs.OneNet.{reads_one}
use Rattle.grammar.specs.Readers.{Syntax}
use Rattle.net_check.specs.declared.fault.ModulePart.TheVariants as part
use Rattle.verilog_rules.specs.Reading.{read_net}
use Rattle.verilog_rules.proofs.Nets.{found_net, departs_where}
use Rattle.verilog_rules.specs.Laws.{StopsWith}
use Rattle.verilog_rules.specs.Leads.{IsSyntaxFault}
use Rattle.verilog_lexer.specs.declared.tokens.Lexed.{Lexed}
use Rattle.verilog_lexer.specs.Lexed.{IsLexed}
use Rattle.verilog_reader.specs.declared.read.ReadError.{ReadError}
use Rattle.verilog_reader.specs.declared.read.ReadError.TheVariants as error
use Rattle.verilog_reader.specs.declared.read.Place.{Place}
use Rattle.verilog_reader.specs.declared.read.Place.TheVariants as place
use Rattle.verilog_reader.specs.Faults as f
use Rattle.verilog_reader.specs.Faults.{IsSimulated, IsRead, IsFault}
use Rattle.verilog_reader.specs.Answers.{offset_at, IsFaultAt, IsOffset, TellsPlace, TellsNotNet, Finds}
use Rattle.verilog_reader.proofs.NoNets.{no_fault}
use Rattle.verilog_reader.proofs.TokenPlaces.{reads_of, fault_at, bad_token, fault_no_net}
use Rattle.verilog_reader.proofs.PartPlaces.{stands, wrong_part, head_part}

-- the clauses of `read`
pub record Answered (text : Text) (r : Result Net ReadError) : Type 0 where
  pub ok : IfOk r (IsRead text)
  pub not_net : IfErr r (TellsNotNet text)
  pub every : (n : Net) → IsRead text n → Finds n r

module _ (text : Text) where
  syntax : (offset : ℕ) → IsSyntaxFault text offset → Answered text (Err (error.NotNet offset))
  syntax offset s = record { ok = tt; not_net = f.Syntax s; every = λ n r. fault_no_net text offset n s r.reads }

  found : (n : Net) → IsRead text n → Answered text (Ok n)
  found n r = record { ok = r; not_net = tt; every = λ m s. reads_one text n m r.reads s.reads }

  module _ (l : Lexed) (lexed : IsLexed text l) where
    fault_of : (n : Net) → l.tokens ≡ g.net n → Reads text n → (offset : ℕ) (p : Place) → IsFaultAt n p → IsOffset l (length text) n p offset → IsFault text offset
    fault_of n same reads offset place.End h at = f.Topless n reads h.0 h.1 at
    fault_of n same reads offset (place.Part k p) h at =
        ⊎_elim (λ first.
        let x = wrong_part n k p first.wrong in
        f.Rule n reads k p first (stands text l lexed n same k p x.0 x.1 x.2 offset (at x.0 x.1)))
        (λ h.
        let lacks = h.1 in
        let listed = lacks.is_top.listed in
        let here = subst (λ q. IsOffset l (length text) n (place.Part k q) offset) h.2 at in
        f.Lacks n reads h.0 k lacks (stands text l lexed n same k part.Head lacks.top listed (head_part lacks.top) offset (here lacks.top listed))) h

    fault : (n : Net) → l.tokens ≡ g.net n → Reads text n → (e : ReadError) → TellsPlace l (length text) n e → Answered text (Err e)
    fault n same reads error.Memory h = record { ok = tt; not_net = tt; every = λ n r. tt }
    fault n same reads (error.NotNet offset) h = record {
      ok = tt;
      not_net = fault_of n same reads offset h.0 h.1 h.2;
      every = λ m r. no_fault n h.0 (subst IsSimulated (reads_one text m n r.reads reads) r.simulated) h.1;
    }

    whole_net : (limit : ℕ) (n : Net) (left : List Token) → read_net (suc limit) l.tokens ≡ Ok (n, left) → length left ≡ 0 → (l.tokens ≡ g.net n) × IsFull n
    whole_net limit n [] e none = found_net limit l.tokens n e
    whole_net limit n (x ∷ left) e none = absurd (omega (arith, none))

    pub filled : (limit : ℕ) (n : Net) (left : List Token) → read_net (suc limit) l.tokens ≡ Ok (n, left) → length left ≡ 0 → IsFilled n.modules
    filled limit n left e none = (whole_net limit n left e none).1.0

    -- the answer of `judged`
    pub judged : (limit : ℕ) (n : Net) (left : List Token) → read_net (suc limit) l.tokens ≡ Ok (n, left) → length left ≡ 0 → l.is_whole ≡ true → (r : Result Net ReadError)
        → IfOk r (λ m. (m ≡ n) × IsSimulated n) → IfErr r (TellsPlace l (length text) n) → Answered text r
    judged limit n left e none whole (Ok m) ok err =
        let tokens = whole_net limit n left e none in
        let reads = reads_of text l lexed n tokens.0 tokens.1 whole in
        subst (λ x. Answered text (Ok x)) (sym ok.0) (found n (record { reads = reads; simulated = ok.1 }))
    judged limit n left e none whole (Err x) ok err =
        let tokens = whole_net limit n left e none in
        fault n tokens.0 (reads_of text l lexed n tokens.0 tokens.1 whole) x err

    -- ---- the reader stops with some tokens left

    module _ (limit : ℕ) (left : List Token) (count : ℕ) (counted : count ≡ length left) (e : ReadError) (is : e ≡ error.NotNet (offset_at l (length l.tokens - count))) where
      at_fault : IsSyntaxFault text (offset_at l (length l.tokens - length left)) → Answered text (Err e)
      at_fault s = subst (λ x. Answered text (Err x)) (sym (is ∙ ap (λ n. error.NotNet (offset_at l (length l.tokens - n))) counted)) (syntax _ s)

      pub departs : read_net (suc limit) l.tokens ≡ Err (Syntax left) → Answered text (Err e)
      departs h = at_fault (fault_at text l lexed _ (departs_where limit l.tokens left (subst (λ r. StopsWith r left) (sym h) refl)))

      -- behind a whole net
      pub behind : (n : Net) → read_net (suc limit) l.tokens ≡ Ok (n, left) → (count ≡ 0 → l.is_whole ≡ false) → Answered text (Err e)
      behind n h bad = by left refl where
        by : (z : List Token) → left ≡ z → Answered text (Err e)
        by (x ∷ z) same =
            let some : left ≡ [] → ⊥ = λ none. let clash : x ∷ z ≡ [] = sym same ∙ none in cc (clash) in
            at_fault (fault_at text l lexed _ (departs_where limit l.tokens left (subst (λ r. StopsWith r left) (sym h) (refl, some))))
        by [] same =
            let none : length left ≡ 0 = ap length same in
            let tokens = found_net limit l.tokens n (h ∙ ap (λ x. Ok (n, x)) same) in
            let all : length l.tokens ≡ length l.tokens - length left = omega (arith, none) in
            at_fault (subst (λ k. IsSyntaxFault text (offset_at l k)) all (bad_token text l lexed n tokens.0 tokens.1 (bad (counted ∙ none))))

-- the tokens are not all read, or not all of the text
pub left_over : (count : ℕ) (whole : Bool) → (count == 0 && whole) ≡ false → count ≡ 0 → whole ≡ false
left_over count true h none = let clash : true ≡ false = sym (ap (λ v. v && true) (eq-eqb count 0 none)) ∙ h in cc (clash)
left_over count false h none = refl

pub all_read : (count : ℕ) (whole : Bool) → (count == 0 && whole) ≡ true → (count ≡ 0) × (whole ≡ true)
all_read count whole h = let both = and_parts (count == 0) whole h in (eqb-true count 0 both.0, both.1)
