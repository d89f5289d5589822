-- The piece that is found is the one that the definition speaks of.
use Rattle.std.proofs.Common.{◌≡◌, ℕ, ◌≤◌, List, ◌++◌, length, take, drop, Option, Some, None, refl, sym, ap, ◌∙◌, subst, length-take-le, arith}
use Rattle.std.specs.Prelude.{option_map}
use Rattle.std.proofs.Math.Seq.{take-append_seam}
use Rattle.std.proofs.lemmas.List.{take-append-drop}
use Rattle.c_token.specs.declared.token.Token.{Token}
use Rattle.c_token.specs.Spelling.{Bytes}
use Rattle.c_lexer.specs.declared.lexeme.Class.{Class}
use Rattle.c_lexer.specs.declared.meaning.Effect.{Effect}
use Rattle.c_lexer.specs.declared.fault.LexFault.{LexFault}
use Rattle.c_lexer.specs.declared.fault.LexFault.TheVariants.{Bad, Limit, Memory}
use Rattle.c_lexer.specs.Lexemes.{IsLexeme}
use Rattle.c_lexer.specs.Meaning.{State, awaits_header, effect_of}
use Rattle.c_lexer.specs.Texts.{Piece, IsPiece}
use Rattle.c_lexer.specs.Finding.{Found, lexeme_at}
use Rattle.c_lexer.specs.Stepping.{piece_of, piece_by, next_piece, TakeFails, StepFails}
use Rattle.c_lexer.proofs.Found.{lexeme_found, lexeme_cut}

-- a piece that fails to be taken fails the step
pub fails : (at : ℕ) (z : Bytes) (s : State) (ts : List Token) (p : Piece) (fault : LexFault) → next_piece at s z ≡ Some p → TakeFails at p ts fault → StepFails at z s ts fault
fails at z s ts p (Bad k) found h = absurd h
fails at z s ts p (Limit which count k) found h = (p, found, h.0, h.1)
fails at z s ts p Memory found h = tt

-- a piece is found
pub piece_found : (at : ℕ) (s : State) (p : Piece) (more : Bytes) → IsPiece at s p more → next_piece at s (p.bytes ++ more) ≡ Some p
unfolding next_piece
piece_found at s p more h =
    ap (piece_by at s (p.bytes ++ more)) (lexeme_found (awaits_header s) p.class p.bytes more h.0)
    ∙ ap (λ w. option_map (piece_of p.class w) (effect_of at s p.class w)) (take-append_seam p.bytes more)
    ∙ ap (option_map (piece_of p.class p.bytes)) h.1

-- the text is the piece and then a rest
pub record IsFirst (at : ℕ) (s : State) (p : Piece) (z : Bytes) : Type 0 where
  pub whole : z ≡ p.bytes ++ drop (length p.bytes) z
  pub is : IsPiece at s p (drop (length p.bytes) z)
  pub some : 1 ≤ length p.bytes
  pub within : length p.bytes ≤ length z

effect_at : (at : ℕ) (s : State) (z : Bytes) (p : Piece) (k : Class) (n : ℕ) (o : Option Effect) → lexeme_at (awaits_header s) z ≡ Some (k, n)
    → effect_of at s k (take n z) ≡ o → option_map (piece_of k (take n z)) o ≡ Some p → IsFirst at s p z
effect_at at s z p k n None found e h = cc
effect_at at s z p k n (Some effect) found e h =
    let cut = lexeme_cut (awaits_header s) z k n found in
    let same : piece_of k (take n z) effect ≡ p = cc in
    let long : n ≡ length (take n z) = sym (length-take-le n z cut.within) in
    let there : IsFirst at s (piece_of k (take n z) effect) z = record {
      whole = sym (take-append-drop n z) ∙ ap (λ m. take n z ++ drop m z) long;
      is = (subst (λ m. IsLexeme (awaits_header s) k (take n z) (drop m z)) long cut.is, e);
      some = omega (arith, cut.some, long);
      within = omega (arith, cut.within, long);
    } in
    subst (λ x. IsFirst at s x z) same there

found_at : (at : ℕ) (s : State) (z : Bytes) (p : Piece) (o : Option Found) → lexeme_at (awaits_header s) z ≡ o → piece_by at s z o ≡ Some p → IsFirst at s p z
found_at at s z p None e h = cc
found_at at s z p (Some f) e h = effect_at at s z p f.0 f.1 (effect_of at s f.0 (take f.1 z)) e refl h

pub piece_cut : (at : ℕ) (s : State) (z : Bytes) (p : Piece) → next_piece at s z ≡ Some p → IsFirst at s p z
unfolding next_piece
piece_cut at s z p h = found_at at s z p (lexeme_at (awaits_header s) z) refl h

pub no_piece : (at : ℕ) (s : State) (z : Bytes) (p : Piece) (more : Bytes) → next_piece at s z ≡ None → z ≡ p.bytes ++ more → IsPiece at s p more → ⊥
no_piece at s z p more none e h = let there = piece_found at s p more h in let same = ap (next_piece at s) e in let clash : ⊥ = cc (there, same, none) in clash
