-- How a fragment of a text splits into lexemes, computed.
use Rattle.std.proofs.Common.{◌≡◌, ℕ, zero, suc, ◌+◌, List, [], ◌∷◌, ◌++◌, length, drop, Option, Some, None, refl, subst}
use Rattle.c_token.specs.Spelling.{Bytes}
use Rattle.c_lexer.specs.Meaning.{State, start, after}
use Rattle.c_lexer.specs.Stepping.{next_piece}
use Rattle.c_lexer.specs.Texts.{Piece, Splits}
use Rattle.c_lexer.proofs.Steps.{piece_cut}

-- pieces from the front of a text, with the state and the text behind them
abbrev pub Run : Type 0
Run = List Piece × State × Bytes

abbrev pub with_piece : Piece → Run → Run
with_piece p r = (p ∷ r.0, r.1, r.2)

-- so many pieces, or as many as there are
abbrev pub run : ℕ → ℕ → State → Bytes → Run
run zero at s z = ([], s, z)
run (suc n) at s z =
    elim (next_piece at s z) as (λ o. Run) [
      | None ↦ ([], s, z)
      | Some p ↦ with_piece p (run n (at + length p.bytes) (after p.effect p.bytes s) (drop (length p.bytes) z))
    ]

abbrev Holds : ℕ → State → Bytes → Run → Type 0
Holds at s z r = Splits at s z r.0 r.1 r.2

run_next : (n at : ℕ) (s : State) (z : Bytes) (p : Piece) → next_piece at s z ≡ Some p →
    Holds (at + length p.bytes) (after p.effect p.bytes s) (drop (length p.bytes) z)
    (run n (at + length p.bytes) (after p.effect p.bytes s) (drop (length p.bytes) z))
    → Holds at s z (with_piece p (run n (at + length p.bytes) (after p.effect p.bytes s) (drop (length p.bytes) z)))
run_next n at s z p found more =
    let first = piece_cut at s z p found in
    (drop (length p.bytes) z, first.whole, first.is, more)

abbrev by_next : ℕ → ℕ → State → Bytes → Option Piece → Run
by_next n at s z o =
    elim o as (λ o. Run) [
      | None ↦ ([], s, z)
      | Some p ↦ with_piece p (run n (at + length p.bytes) (after p.effect p.bytes s) (drop (length p.bytes) z))
    ]

next_holds : (n at : ℕ) (s : State) (z : Bytes) (o : Option Piece) → next_piece at s z ≡ o →
    ((p : Piece) → Holds (at + length p.bytes) (after p.effect p.bytes s) (drop (length p.bytes) z)
    (run n (at + length p.bytes) (after p.effect p.bytes s) (drop (length p.bytes) z))) → Holds at s z (by_next n at s z o)
next_holds n at s z None found more = (refl, refl)
next_holds n at s z (Some p) found more = run_next n at s z p found (more p)

run_holds : (n at : ℕ) (s : State) (z : Bytes) → Holds at s z (run n at s z)
run_holds zero at s z = (refl, refl)
run_holds (suc n) at s z =
    next_holds n at s z (next_piece at s z) refl (λ p. run_holds n (at + length p.bytes) (after p.effect p.bytes s) (drop (length p.bytes) z))

-- a fragment is these pieces, whatever follows
pub record Lexes (s : State) (z : Bytes) (ps : List Piece) (t : State) : Type 0 where
  pub splits : (at : ℕ) (rest : Bytes) → Splits at s (z ++ rest) ps t rest

-- the front of a text is these pieces, whatever follows
pub record Begins (z : Bytes) (ps : List Piece) (t : State) : Type 0 where
  pub splits : (rest : Bytes) → Splits 0 start (z ++ rest) ps t rest

pub run_lexes : {s : State} {z : Bytes} {ps : List Piece} {t : State} (n : ℕ) →
    ((at : ℕ) (rest : Bytes) → run n at s (z ++ rest) ≡ (ps, t, rest)) → Lexes s z ps t
run_lexes {s = s} {z = z} n e = record { splits = λ at rest. subst (λ r. Holds at s (z ++ rest) r) (e at rest) (run_holds n at s (z ++ rest)) }

pub run_begins : {z : Bytes} {ps : List Piece} {t : State} (n : ℕ) → ((rest : Bytes) → run n 0 start (z ++ rest) ≡ (ps, t, rest)) → Begins z ps t
run_begins {z = z} n e = record { splits = λ rest. subst (λ r. Holds 0 start (z ++ rest) r) (e rest) (run_holds n 0 start (z ++ rest)) }
