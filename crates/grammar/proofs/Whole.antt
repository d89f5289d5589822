-- Whole texts: what the answer of a reader says of them.
use Rattle.std.proofs.Common.{◌≡◌, ℕ, suc, ◌+◌, ◌-◌, ◌<◌, ◌≤◌, List, [], ◌∷◌, ◌++◌, length, take, refl, sym, ap, ◌∙◌, subst, append_assoc, length-append, arith}
use Rattle.std.proofs.Math.Seq.{take-append_seam, take-append-add}
use Rattle.std.specs.Prelude.{Ok, Err, Bool}
use Rattle.std.proofs.lemmas.List.{append-nil}
use Rattle.grammar.specs.Rules.{Placed, Family}
use Rattle.grammar.specs.Sentences.{plain, Within, Spelled, Starts, Sentence, SentenceWithin, StartsWithin, FaultAt, TooDeepAt}
use Rattle.grammar.specs.Readers.{Stop, Syntax, Deep, Reading, Reader}
use Rattle.grammar.proofs.Lists.{plain-append, length-plain}
use Rattle.grammar.proofs.Good.{Reads, Answers, Dead, Calm, calm_complete}

module _ {T : Type 0} where
  module _ {A : Type 0} {P : Family T A} {p : ℕ → Reader T A} {first : T → Bool} {last : A → T → Bool} {null : Bool} (limit : ℕ) (ts : List T)
      (good : Reads (λ depth. Unit {0}) (suc (length ts)) P p first last null) where
    abbrev reading : Reading T A
    reading = p limit ts

    answers : Answers P 0 limit ts reading
    answers = let e : 0 + limit ≡ limit = omega arith in subst (λ l. Answers P 0 l ts reading) e (good.sound 0 limit ts (omega arith))

    -- a sentence that keeps the limit is read whole
    pub complete : (v : A) → SentenceWithin P limit ts v → reading ≡ Ok (v, [])
    complete v h =
        let cut : ts ≡ plain h.0 ++ [] = sym h.1 ∙ sym (append-nil (plain h.0)) in
        let e : limit ≡ 0 + limit = omega arith in
        good.complete h.2.0 0 limit ts h.0 [] v (omega arith) cut h.2.1 (subst (λ l. Within l h.0) e h.3) tt

    -- a sentence is read whole, unless the reader stops at its nesting
    calm_whole : (v : A) → Sentence P ts v → Calm reading → reading ≡ Ok (v, [])
    calm_whole v h calm =
        let cut : ts ≡ plain h.0 ++ [] = sym h.1 ∙ sym (append-nil (plain h.0)) in
        calm_complete good h.2.0 0 limit ts h.0 [] v (omega arith) cut h.2.1 tt calm

    found_from : (v : A) (r : Reading T A) → Answers P 0 limit ts r → r ≡ Ok (v, []) → SentenceWithin P limit ts v
    found_from v (Ok x) k e =
        let is : A × List T = (v, []) in
        let same : x ≡ is = cc in
        let whole : plain k.0 ≡ ts = sym (k.1 ∙ ap (λ y. plain k.0 ++ y.1) same ∙ append-nil (plain k.0)) in
        (k.0, whole, subst (λ y. Spelled P 0 k.0 y.0) same k.2, k.3)
    found_from v (Err stop) k e = cc

    -- what is read whole is a sentence
    pub found : (v : A) → reading ≡ Ok (v, []) → SentenceWithin P limit ts v
    found v e = found_from v reading answers e

    -- the tokens before the rest start a sentence, and none goes on with the next one
    fault_from : (before : List (Placed T)) (rest : List T) → ts ≡ plain before ++ rest → Starts P 0 before → Within limit before → Dead P 0
        (plain before) rest → (rest ≡ [] → (v : A) → Sentence P ts v → ⊥) → FaultAt P limit ts (length ts - length rest)
    fault_from before [] e begun low dead cut =
        let all : length ts - 0 ≡ length (plain before) = omega (arith, ap length e, length-append (plain before) []) in
        let whole : take (length (plain before)) ts ≡ plain before = ap (take (length (plain before))) e ∙ take-append_seam (plain before) [] in
        record {
          inside = omega arith;
          begun = subst (λ k. StartsWithin P limit (take k ts)) (sym all) (before, sym whole, begun, low);
          stuck = λ lt. absurd (omega arith);
          cut = λ same. cut refl;
        }
    fault_from before (t ∷ rest) e begun low dead cut =
        let at : length ts - length (t ∷ rest) ≡ length (plain before) = omega (arith, ap length e, length-append (plain before) (t ∷ rest)) in
        let whole : take (length (plain before)) ts ≡ plain before = ap (take (length (plain before))) e ∙ take-append_seam (plain before) (t ∷ rest) in
        let more : take (length (plain before) + 1) ts ≡ plain before ++ (t ∷ []) = ap (take (length (plain before) + 1)) e ∙ take-append-add (plain before) (t ∷ rest) 1 in
        record {
          inside = omega arith;
          begun = subst (λ k. StartsWithin P limit (take k ts)) (sym at) (before, sym whole, begun, low);
          stuck = λ lt h.
              let front : List (Placed T) = h.0 in
              let same : plain front ≡ plain before ++ (t ∷ []) = h.1 ∙ ap (λ k. take (k + 1) ts) at ∙ more in
              let go = h.2 in
              let all : plain (front ++ go.0) ≡ plain before ++ (t ∷ plain go.0) = plain-append front go.0 ∙ ap (λ l. l ++ plain go.0) same ∙ append_assoc (plain before) (t ∷ []) (plain go.0) in
              dead go.2.0 (front ++ go.0) (plain go.0) go.1 all go.2.1;
          cut = λ same. absurd (omega (arith, same, ap length e, length-append (plain before) (t ∷ rest)));
        }

    ok_fault_from : (v : A) (t : T) (rest : List T) (r : Reading T A) → Answers P 0 limit ts r → r ≡ Ok (v, t ∷ rest) → FaultAt P limit ts (length ts - length (t ∷ rest))
    ok_fault_from v t rest (Ok x) k e =
        let is : A × List T = (v, t ∷ rest) in
        let same : x ≡ is = cc in
        fault_from k.0 (t ∷ rest) (k.1 ∙ ap (λ y. plain k.0 ++ y.1) same) ([], x.0, (k.2.0, subst (λ l. P k.2.0 0 l x.0) (sym (append-nil k.0)) k.2.1)) k.3
        (subst (λ y. Dead P 0 (plain k.0) y.1) same k.4) (λ none. cc)
    ok_fault_from v t rest (Err stop) k e = cc

    -- the sentence ended before the last token
    pub ok_fault : (v : A) (t : T) (rest : List T) → reading ≡ Ok (v, t ∷ rest) → FaultAt P limit ts (length ts - length (t ∷ rest))
    ok_fault v t rest e = ok_fault_from v t rest reading answers e

    err_fault_from : (rest : List T) (r : Reading T A) → reading ≡ r → Answers P 0 limit ts r → r ≡ Err (Syntax rest) → FaultAt P limit ts (length ts - length rest)
    err_fault_from rest (Ok x) read k e = cc
    err_fault_from rest (Err (Syntax rest')) read k e =
        let same : rest' ≡ rest = cc in
        let calm : Calm reading = subst Calm (sym read) tt in
        fault_from k.0 rest (k.1 ∙ ap (λ l. plain k.0 ++ l) same) k.2 k.3 (subst (Dead P 0 (plain k.0)) same k.4) (λ none v h. let got = calm_whole v h calm in let clash : ⊥ = cc (got, read) in clash)
    err_fault_from rest (Err (Deep above' rest')) read k e = cc

    pub err_fault : (rest : List T) → reading ≡ Err (Syntax rest) → FaultAt P limit ts (length ts - length rest)
    err_fault rest e = err_fault_from rest reading refl answers e

    deep_from : (above : ℕ) (rest : List T) (r : Reading T A) → Answers P 0 limit ts r → r ≡ Err (Deep above rest) → TooDeepAt P limit ts (length ts - length rest) (limit + above)
    deep_from above rest (Ok x) k e = cc
    deep_from above rest (Err (Syntax rest')) k e = cc
    deep_from above rest (Err (Deep above' rest')) k e =
        let same : rest' ≡ rest = cc in
        let levels : above' ≡ above = cc in
        let count : k.2 ≡ limit + above = k.8.0 ∙ ap (λ a. limit + a) levels in
        let cut : ts ≡ plain k.0 ++ (k.1 ∷ k.3) = k.5 ∙ ap (λ l. plain k.0 ++ l) k.4 in
        let size : length rest ≡ suc (length k.3) = ap length (sym same ∙ k.4) in
        let at : length ts - length rest ≡ length (plain k.0) = omega (arith, ap length cut, length-append (plain k.0) (k.1 ∷ k.3), size) in
        let more : take (length (plain k.0) + 1) ts ≡ plain k.0 ++ (k.1 ∷ []) = ap (take (length (plain k.0) + 1)) cut ∙ take-append-add (plain k.0) (k.1 ∷ k.3) 1 in
        record {
          front = k.0;
          token = k.1;
          begun = subst (λ n. Starts P 0 (k.0 ++ ((k.1, n) ∷ []))) count k.6;
          place = sym (at ∙ length-plain k.0);
          is = sym (ap (λ j. take (j + 1) ts) at ∙ more);
          before = k.7;
          deep = subst (λ n. limit < n) count k.8.1;
        }

    pub err_deep : (above : ℕ) (rest : List T) → reading ≡ Err (Deep above rest) → TooDeepAt P limit ts (length ts - length rest) (limit + above)
    err_deep above rest e = deep_from above rest reading answers e

    -- ---- for the caller, by what is left

    within_from : (r : Reading T A) (v : A) (new : List T) → Answers P 0 limit ts r → r ≡ Ok (v, new) → length new ≤ length ts
    within_from (Ok x) v new k e =
        let is : A × List T = (v, new) in
        let same : x ≡ is = cc in
        let cut : ts ≡ plain k.0 ++ new = k.1 ∙ ap (λ y. plain k.0 ++ y.1) same in
        omega (arith, ap length cut, length-append (plain k.0) new)
    within_from (Err stop) v new k e = cc

    pub within_ok : (v : A) (new : List T) → reading ≡ Ok (v, new) → length new ≤ length ts
    within_ok v new e = within_from reading v new answers e

    within_syntax_from : (r : Reading T A) (rest : List T) → Answers P 0 limit ts r → r ≡ Err (Syntax rest) → length rest ≤ length ts
    within_syntax_from (Ok x) rest k e = cc
    within_syntax_from (Err (Syntax rest')) rest k e =
        let same : rest' ≡ rest = cc in
        let cut : ts ≡ plain k.0 ++ rest = k.1 ∙ ap (λ l. plain k.0 ++ l) same in
        omega (arith, ap length cut, length-append (plain k.0) rest)
    within_syntax_from (Err (Deep above' rest')) rest k e = cc

    pub within_syntax : (rest : List T) → reading ≡ Err (Syntax rest) → length rest ≤ length ts
    within_syntax rest e = within_syntax_from reading rest answers e

    within_deep_from : (r : Reading T A) (above : ℕ) (rest : List T) → Answers P 0 limit ts r → r ≡ Err (Deep above rest) → length rest ≤ length ts
    within_deep_from (Ok x) above rest k e = cc
    within_deep_from (Err (Syntax rest')) above rest k e = cc
    within_deep_from (Err (Deep above' rest')) above rest k e =
        let same : rest' ≡ rest = cc in
        let cut : ts ≡ plain k.0 ++ rest = k.5 ∙ ap (λ l. plain k.0 ++ l) same in
        omega (arith, ap length cut, length-append (plain k.0) rest)

    pub within_deep : (above : ℕ) (rest : List T) → reading ≡ Err (Deep above rest) → length rest ≤ length ts
    within_deep above rest e = within_deep_from reading above rest answers e

    pub all_read : (v : A) (new : List T) → reading ≡ Ok (v, new) → length new ≡ 0 → SentenceWithin P limit ts v
    all_read v [] e none = found v e
    all_read v (t ∷ new) e none = absurd (omega (arith, none))

    pub some_left : (v : A) (new : List T) → reading ≡ Ok (v, new) → (length new ≡ 0 → ⊥) → FaultAt P limit ts (length ts - length new)
    some_left v [] e some = absurd (some refl)
    some_left v (t ∷ new) e some = ok_fault v t new e

    pub only_one : (u v : A) (new : List T) → reading ≡ Ok (u, new) → SentenceWithin P limit ts v → (u ≡ v) × (new ≡ [])
    only_one u v new e h =
        let got = complete v h in
        let was : A × List T = (u, new) in
        let is : A × List T = (v, []) in
        let pair : was ≡ is = cc (got, e) in
        (ap (λ y. y.0) pair, ap (λ y. y.1) pair)

    pub no_sentence : (stop : Stop T) (v : A) → reading ≡ Err stop → SentenceWithin P limit ts v → ⊥
    no_sentence stop v e h = let got = complete v h in let clash : ⊥ = cc (got, e) in clash
