-- A text is one thing: its tokens, or its first fault.
use Rattle.std.proofs.Common.{◌≡◌, ℕ, ◌+◌, List, [], ◌∷◌, ◌++◌, length, drop, Option, Some, None, true, false, ◌⊎◌, inl, inr, refl, sym, ap, ◌∙◌, subst, length-append, arith}
use Rattle.std.specs.Prelude.{Result, Ok, Err}
use Rattle.std.proofs.Math.Seq.{drop-append_seam}
use Rattle.c_token.specs.declared.token.Token.{Token}
use Rattle.c_token.specs.Spelling.{Bytes}
use Rattle.c_lexer.specs.declared.fault.TextLimit.{TextLimit}
use Rattle.c_lexer.specs.declared.fault.LexFault.{LexFault}
use Rattle.c_lexer.specs.declared.fault.LexFault.TheVariants.{Bad, Limit, Memory}
use Rattle.c_lexer.specs.Meaning.{State, start, after}
use Rattle.c_lexer.specs.Texts.{Piece, IsPiece, Splits, with_token, tokens, with_end, may_end, Passed, limit_of, IsWithin, Reaches, EndsAs, AreTokens, LexesAs, Lexed, Finds, FindsTokens}
use Rattle.c_lexer.specs.Stepping.{next_piece}
use Rattle.c_lexer.proofs.Steps.{piece_found}
use Rattle.c_lexer.proofs.Whole.{count_more, no_first}

-- one piece stands at a place
pub record SamePiece (p q : Piece) (more more' : Bytes) : Type 0 where
  pub piece : p ≡ q
  pub rest : more ≡ more'

same_piece : (at : ℕ) (s : State) (p q : Piece) (more more' : Bytes) → p.bytes ++ more ≡ q.bytes ++ more' → IsPiece at s p more → IsPiece at s q more' → SamePiece p q more more'
same_piece at s p q more more' e h k =
    let a = piece_found at s p more h in
    let b = piece_found at s q more' k in
    let c : next_piece at s (p.bytes ++ more) ≡ next_piece at s (q.bytes ++ more') = ap (next_piece at s) e in
    let same : p ≡ q = cc (a, b, c) in
    let len : length p.bytes ≡ length q.bytes = ap (λ x. length x.bytes) same in
    record {
      piece = same;
      rest = sym (drop-append_seam p.bytes more) ∙ ap (drop (length p.bytes)) e ∙ ap (λ n. drop n (q.bytes ++ more')) len ∙ drop-append_seam q.bytes more';
    }

-- a piece of qs stands behind the pieces; where qs is within the limits, so is the piece
pub record Follows (at n : ℕ) (text : Bytes) (ps qs : List Piece) (t : State) (rest : Bytes) : Type 0 where
  pub offset : ℕ
  pub place : offset + length rest ≡ at + length text
  pub piece : Piece
  pub more : Bytes
  pub whole : rest ≡ piece.bytes ++ more
  pub is : IsPiece offset t piece more
  pub within : IsWithin n qs → limit_of (length (tokens at ps) + n) piece ≡ None

pub record SamePlace (ps qs : List Piece) (t u : State) (rest rest' : Bytes) : Type 0 where
  pub pieces : ps ≡ qs
  pub state : t ≡ u
  pub rest_is : rest ≡ rest'

abbrev pub Compared : ℕ → ℕ → Bytes → List Piece → List Piece → State → State → Bytes → Bytes → Type 0
Compared at n text ps qs t u rest rest' = SamePlace ps qs t u rest rest' ⊎ (Follows at n text ps qs t rest ⊎ Follows at n text qs ps u rest')

first_follows : (at n : ℕ) (s : State) (text : Bytes) (t : State) (rest : Bytes) (q : Piece) (qs : List Piece) (u : State) (rest' : Bytes)
    → Splits at s text [] t rest → Splits at s text (q ∷ qs) u rest' → Follows at n text [] (q ∷ qs) t rest
first_follows at n s text t rest q qs u rest' h k =
    let none : n ≡ 0 + n = omega arith in
    record {
      offset = at;
      place = omega (arith, ap length h.1);
      piece = q;
      more = k.0;
      whole = sym h.1 ∙ k.1;
      is = subst (λ x. IsPiece at x q k.0) h.0 k.2;
      within = λ w. subst (λ m. limit_of m q ≡ None) none w.0;
    }

follows_on : (at n : ℕ) (text : Bytes) (p : Piece) (ps qs : List Piece) (t : State) (rest more : Bytes) → text ≡ p.bytes ++ more
    → Follows (at + length p.bytes) (length (with_token 0 p.effect.action []) + n) more ps qs t rest → Follows at n text (p ∷ ps) (p ∷ qs) t rest
follows_on at n text p ps qs t rest more e h =
    let count : length (tokens (at + length p.bytes) ps) + (length (with_token 0 p.effect.action []) + n) ≡ length (tokens at (p ∷ ps)) + n =
    omega (arith, count_more at p.effect.action (tokens (at + length p.bytes) ps)) in
    record {
      offset = h.offset;
      place = omega (arith, h.place, ap length e, length-append p.bytes more);
      piece = h.piece;
      more = h.more;
      whole = h.whole;
      is = h.is;
      within = λ w. subst (λ m. limit_of m h.piece ≡ None) count (h.within w.1);
    }

same_on : (p q : Piece) (ps qs : List Piece) (t u : State) (rest rest' : Bytes) → p ≡ q → SamePlace ps qs t u rest rest' → SamePlace (p ∷ ps) (q ∷ qs) t u rest rest'
same_on p q ps qs t u rest rest' e h = record { pieces = (λ i. e i ∷ h.pieces i); state = h.state; rest_is = h.rest_is }

-- the rest of two splits, whose first piece is the same
compare_on : (at n : ℕ) (text : Bytes) (p q : Piece) (ps qs : List Piece) (t u : State) (rest rest' more more' : Bytes)
    → text ≡ p.bytes ++ more → text ≡ q.bytes ++ more' → SamePiece p q more more'
    → Compared (at + length p.bytes) (length (with_token 0 p.effect.action []) + n) more ps qs t u rest rest'
    → Compared at n text (p ∷ ps) (q ∷ qs) t u rest rest'
compare_on at n text p q ps qs t u rest rest' more more' e f same (inl h) = inl (same_on p q ps qs t u rest rest' same.piece h)
compare_on at n text p q ps qs t u rest rest' more more' e f same (inr (inl h)) =
    inr (inl (subst (λ x. Follows at n text (p ∷ ps) (x ∷ qs) t rest) same.piece (follows_on at n text p ps qs t rest more e h)))
compare_on at n text p q ps qs t u rest rest' more more' e f same (inr (inr h)) =
    inr (inr (subst (λ x. Follows at n text (x ∷ qs) (p ∷ ps) u rest') same.piece (follows_on at n text p qs ps u rest' more e h)))

compare : (at n : ℕ) (s : State) (text : Bytes) (ps qs : List Piece) (t u : State) (rest rest' : Bytes)
    → Splits at s text ps t rest → Splits at s text qs u rest' → Compared at n text ps qs t u rest rest'
compare at n s text [] [] t u rest rest' h k = inl (record { pieces = refl; state = sym h.0 ∙ k.0; rest_is = sym h.1 ∙ k.1 })
compare at n s text [] (q ∷ qs) t u rest rest' h k = inr (inl (first_follows at n s text t rest q qs u rest' h k))
compare at n s text (p ∷ ps) [] t u rest rest' h k = inr (inr (first_follows at n s text u rest' p ps t rest k h))
compare at n s text (p ∷ ps) (q ∷ qs) t u rest rest' h k =
    let same = same_piece at s p q h.0 k.0 (sym h.1 ∙ k.1) h.2 k.2 in
    let other : Splits (at + length p.bytes) (after p.effect p.bytes s) h.0 qs u rest' =
    subst (λ y. Splits (at + length p.bytes) (after p.effect p.bytes s) y qs u rest') (sym same.rest)
    (subst (λ x. Splits (at + length x.bytes) (after x.effect x.bytes s) k.0 qs u rest') (sym same.piece) k.3) in
    compare_on at n text p q ps qs t u rest rest' h.0 k.0 h.1 k.1 same
    (compare (at + length p.bytes) (length (with_token 0 p.effect.action []) + n) (after p.effect p.bytes s) h.0 ps qs t u rest rest' h.3 other)

-- ---- ends

abbrev some_passed : TextLimit → ℕ → Option Passed
some_passed which count = Some (which, count)

limits : (m n : TextLimit) (a b k : ℕ) → some_passed m a ≡ some_passed n b → (m ≡ n) × (a ≡ b)
limits m n a b k e =
    let x : Passed = (m, a) in
    let y : Passed = (n, b) in
    let pair : x ≡ y = cc in
    (ap (λ p. p.0) pair, ap (λ p. p.1) pair)

abbrev Answer : Type 0
Answer = Result (List Token) LexFault

-- what ends at a place is one thing
ends_once : (text : Bytes) (ps : List Piece) (at : ℕ) (s : State) (rest : Bytes) (a b : Answer) → EndsAs text ps at s rest a → EndsAs text ps at s rest b → a ≡ b
ends_once text ps at s rest (Ok ts) (Ok us) h k = ap Ok (h.2 ∙ sym k.2)
ends_once text ps at s rest (Ok ts) (Err (Bad k')) h k = let may = k.0.unfinished h.0 in let clash : false ≡ true = sym may ∙ h.1 in cc
ends_once text ps at s rest (Ok ts) (Err (Limit which count k')) h k = no_first at s k.0 rest k.1 (ap length h.0) k.2 k.3
ends_once text ps at s rest (Err (Bad k')) (Ok us) h k = let may = h.0.unfinished k.0 in let clash : false ≡ true = sym may ∙ k.1 in cc
ends_once text ps at s rest (Err (Bad k')) (Err (Bad k'')) h k = ap (λ n. Err (Bad n)) (h.1 ∙ sym k.1)
ends_once text ps at s rest (Err (Bad k')) (Err (Limit which count k'')) h k = absurd (h.0.none k.0 k.1 k.2 k.3)
ends_once text ps at s rest (Err (Limit which count k')) (Ok us) h k = no_first at s h.0 rest h.1 (ap length k.0) h.2 h.3
ends_once text ps at s rest (Err (Limit which count k')) (Err (Bad k'')) h k = absurd (k.0.none h.0 h.1 h.2 h.3)
ends_once text ps at s rest (Err (Limit which count k')) (Err (Limit which' count' k'')) h k =
    let same = same_piece at s h.0 k.0 h.1 k.1 (sym h.2 ∙ k.2) h.3 k.3 in
    let passed : some_passed which count ≡ some_passed which' count' = sym h.4 ∙ ap (limit_of (length (tokens 0 ps))) same.piece ∙ k.4 in
    let both = limits which which' count count' 0 passed in
    (λ i. Err (Limit (both.0 i) (both.1 i) ((h.5 ∙ sym k.5) i)))
ends_once text ps at s rest (Err Memory) b h k = absurd h
ends_once text ps at s rest (Ok ts) (Err Memory) h k = absurd k
ends_once text ps at s rest (Err (Bad k')) (Err Memory) h k = absurd k
ends_once text ps at s rest (Err (Limit which count k')) (Err Memory) h k = absurd k

-- where something ends no piece within the limits follows
none_follows : (text : Bytes) (ps : List Piece) (at : ℕ) (s : State) (rest : Bytes) (a : Answer) (p : Piece) (more : Bytes)
    → EndsAs text ps at s rest a → rest ≡ p.bytes ++ more → IsPiece at s p more → limit_of (length (tokens 0 ps)) p ≡ None → ⊥
none_follows text ps at s rest (Ok ts) p more h e is w = no_first at s p rest more (ap length h.0) e is
none_follows text ps at s rest (Err (Bad k)) p more h e is w = h.0.none p more e is
none_follows text ps at s rest (Err (Limit which count k)) p more h e is w =
    let same = same_piece at s h.0 p h.1 more (sym h.2 ∙ e) h.3 is in
    let clash : None ≡ some_passed which count = sym w ∙ ap (limit_of (length (tokens 0 ps))) (sym same.piece) ∙ h.4 in cc
none_follows text ps at s rest (Err Memory) p more h e is w = h

none_behind : (text : Bytes) (ps qs : List Piece) (at : ℕ) (s : State) (rest : Bytes) (a : Answer)
    → at + length rest ≡ length text → EndsAs text ps at s rest a → IsWithin 0 qs → Follows 0 0 text ps qs s rest → ⊥
none_behind text ps qs at s rest a place h w f =
    let here : f.offset ≡ at = omega (arith, f.place, place) in
    let count : length (tokens 0 ps) + 0 ≡ length (tokens 0 ps) = omega arith in
    none_follows text ps at s rest a f.piece f.more h f.whole (subst (λ n. IsPiece n s f.piece f.more) here f.is) (subst (λ n. limit_of n f.piece ≡ None) count (f.within w))

end_moved : (text : Bytes) (ps qs : List Piece) (at at' : ℕ) (s t : State) (rest rest' : Bytes) (a : Answer) → ps ≡ qs
    → at ≡ at' → s ≡ t → rest ≡ rest' → EndsAs text ps at s rest a → EndsAs text qs at' t rest' a
end_moved text ps qs at at' s t rest rest' a e f g j h =
    subst (λ x. EndsAs text qs at' t x a) j (subst (λ x. EndsAs text qs at' x rest a) g (subst (λ x. EndsAs text qs x s rest a) f (subst (λ x. EndsAs text x at s rest a) e h)))

compared : (text : Bytes) (ps qs : List Piece) (at at' : ℕ) (s t : State) (rest rest' : Bytes) (a b : Answer)
    → Reaches text ps at s rest → Reaches text qs at' t rest' → EndsAs text ps at s rest a → EndsAs text qs at' t rest' b
    → Compared 0 0 text ps qs s t rest rest' → a ≡ b
compared text ps qs at at' s t rest rest' a b e f h k (inl same) =
    ends_once text qs at' t rest' a b (end_moved text ps qs at at' s t rest rest' a same.pieces (omega (arith, e.place, f.place, ap length same.rest_is)) same.state same.rest_is h) k
compared text ps qs at at' s t rest rest' a b e f h k (inr (inl more)) = absurd (none_behind text ps qs at s rest a e.place h f.within more)
compared text ps qs at at' s t rest rest' a b e f h k (inr (inr more)) = absurd (none_behind text qs ps at' t rest' b f.place k e.within more)

pub one_answer : (text : Bytes) (a b : Answer) → LexesAs text a → LexesAs text b → a ≡ b
one_answer text a b h k =
    compared text h.pieces k.pieces h.at k.at h.state k.state h.rest k.rest a b h.reaches k.reaches h.ends k.ends
    (compare 0 0 start text h.pieces k.pieces h.state k.state h.rest k.rest h.reaches.split k.reaches.split)

-- what holds of a text is found
pub finds : (text : Bytes) (answer : Answer) → Lexed text answer → (r : Answer) → LexesAs text r → Finds r answer
finds text (Ok ts) h r k = one_answer text (Ok ts) r h k
finds text (Err (Bad n)) h r k = one_answer text (Err (Bad n)) r h k
finds text (Err (Limit which count n)) h r k = one_answer text (Err (Limit which count n)) r h k
finds text (Err Memory) h r k = tt

-- ---- tokens without a look at the limits

-- where a text splits to its end, no fault but a limit stands
tokens_by : (text : Bytes) (ps qs : List Piece) (at : ℕ) (s t : State) (rest : Bytes) (ts : List Token) (a : Answer)
    → Reaches text ps at s rest → EndsAs text ps at s rest a → may_end t.mode ≡ true → ts ≡ with_end text (tokens 0 qs)
    → Compared 0 0 text ps qs s t rest [] → FindsTokens ts a
tokens_by text ps qs at s t rest ts (Ok us) e h may k (inl same) = h.2 ∙ ap (λ x. with_end text (tokens 0 x)) same.pieces ∙ sym k
tokens_by text ps qs at s t rest ts (Err (Bad n)) e h may k (inl same) =
    let clash : false ≡ true = sym (h.0.unfinished same.rest_is) ∙ ap (λ x. may_end x.mode) same.state ∙ may in cc
tokens_by text ps qs at s t rest ts (Ok us) e h may k (inr (inl f)) = no_first f.offset s f.piece rest f.more (ap length h.0) f.whole f.is
tokens_by text ps qs at s t rest ts (Err (Bad n)) e h may k (inr (inl f)) =
    let here : f.offset ≡ at = omega (arith, f.place, e.place) in
    h.0.none f.piece f.more f.whole (subst (λ n. IsPiece n s f.piece f.more) here f.is)
tokens_by text ps qs at s t rest ts (Ok us) e h may k (inr (inr f)) = no_first f.offset t f.piece [] f.more refl f.whole f.is
tokens_by text ps qs at s t rest ts (Err (Bad n)) e h may k (inr (inr f)) = no_first f.offset t f.piece [] f.more refl f.whole f.is
tokens_by text ps qs at s t rest ts (Err (Limit which count n)) e h may k c = tt
tokens_by text ps qs at s t rest ts (Err Memory) e h may k c = tt

tokens_of : (text : Bytes) (a : Answer) (ts : List Token) → LexesAs text a → AreTokens text ts → FindsTokens ts a
tokens_of text a ts h k =
    tokens_by text h.pieces k.pieces h.at h.state k.state h.rest ts a h.reaches h.ends k.ended k.are
    (compare 0 0 start text h.pieces k.pieces h.state k.state h.rest [] h.reaches.split k.split)

pub finds_tokens : (text : Bytes) (answer : Answer) → Lexed text answer → (ts : List Token) → AreTokens text ts → FindsTokens ts answer
finds_tokens text (Ok us) h ts k = tokens_of text (Ok us) ts h k
finds_tokens text (Err (Bad n)) h ts k = tokens_of text (Err (Bad n)) ts h k
finds_tokens text (Err (Limit which count n)) h ts k = tt
finds_tokens text (Err Memory) h ts k = tt
