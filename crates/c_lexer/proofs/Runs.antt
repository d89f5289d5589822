-- The longest run is found, and what is found is the longest run.
use Rattle.std.proofs.Common.{◌≡◌, ℕ, suc, ◌+◌, ◌≤◌, [], ◌∷◌, ◌++◌, length, take, drop, Bool, true, false, refl, sym, ap, ◌∙◌, subst, arith}
use Rattle.std.specs.Prelude.{cond}
use Rattle.std.proofs.lemmas.List.{take-append-drop}
use Rattle.c_token.specs.Spelling.{Bytes}
use Rattle.c_lexer.specs.declared.lexeme.Run.{Run}
use Rattle.c_lexer.specs.declared.lexeme.Run.TheVariants as r
use Rattle.c_lexer.specs.Lexemes.{goes_on, GoesOver, IsRun}
use Rattle.c_lexer.specs.Finding.{run_len}

nothing_goes_on : (run : Run) → goes_on run [] ≡ false
unfolding goes_on
nothing_goes_on r.Word = refl
nothing_goes_on r.Number = refl
nothing_goes_on r.Line = refl
nothing_goes_on r.Block = refl
nothing_goes_on (r.Header close) = refl

pub run_found : (run : Run) (body rest : Bytes) → IsRun run body rest → run_len run (body ++ rest) ≡ length body
unfolding run_len
run_found run [] [] h = refl
run_found run [] (b ∷ rest) h = ap (λ x. cond x (1 + run_len run rest) 0) h.1
run_found run (b ∷ body) rest h =
    ap (λ x. cond x (1 + run_len run (body ++ rest)) 0) h.0.0 ∙ ap (λ n. 1 + n) (run_found run body rest (h.0.1, h.1))
    ∙ (let e : 1 + length body ≡ suc (length body) = omega arith in e)

front_at : (run : Run) (b : ℕ) (z : Bytes) → GoesOver run (take (run_len run z) z) (drop (run_len run z) z) → (x : Bool) → goes_on run (b ∷ z) ≡ x
    → GoesOver run (take (cond x (1 + run_len run z) 0) (b ∷ z)) (drop (cond x (1 + run_len run z) 0) (b ∷ z))
front_at run b z more true e =
    let one : 1 + run_len run z ≡ suc (run_len run z) = omega arith in
    let whole : goes_on run (b ∷ (take (run_len run z) z ++ drop (run_len run z) z)) ≡ true = subst (λ y. goes_on run (b ∷ y) ≡ true) (sym (take-append-drop (run_len run z) z)) e in
    subst (λ n. GoesOver run (take n (b ∷ z)) (drop n (b ∷ z))) (sym one) (whole, more)
front_at run b z more false e = tt

run_front : (run : Run) (z : Bytes) → GoesOver run (take (run_len run z) z) (drop (run_len run z) z)
unfolding run_len
run_front run [] = tt
run_front run (b ∷ z) = front_at run b z (run_front run z) (goes_on run (b ∷ z)) refl

back_at : (run : Run) (b : ℕ) (z : Bytes) → goes_on run (drop (run_len run z) z) ≡ false → (x : Bool)
    → goes_on run (b ∷ z) ≡ x → goes_on run (drop (cond x (1 + run_len run z) 0) (b ∷ z)) ≡ false
back_at run b z more true e = let one : 1 + run_len run z ≡ suc (run_len run z) = omega arith in subst (λ n. goes_on run (drop n (b ∷ z)) ≡ false) (sym one) more
back_at run b z more false e = e

run_back : (run : Run) (z : Bytes) → goes_on run (drop (run_len run z) z) ≡ false
unfolding run_len
run_back run [] = nothing_goes_on run
run_back run (b ∷ z) = back_at run b z (run_back run z) (goes_on run (b ∷ z)) refl

pub run_cut : (run : Run) (z : Bytes) → IsRun run (take (run_len run z) z) (drop (run_len run z) z)
run_cut run z = (run_front run z, run_back run z)

within_at : (run : Run) (b : ℕ) (z : Bytes) → run_len run z ≤ length z → (x : Bool) → cond x (1 + run_len run z) 0 ≤ length (b ∷ z)
within_at run b z more true = omega arith
within_at run b z more false = omega arith

pub run_within : (run : Run) (z : Bytes) → run_len run z ≤ length z
unfolding run_len
run_within run [] = omega arith
run_within run (b ∷ z) = within_at run b z (run_within run z) (goes_on run (b ∷ z))

some_at : (run : Run) (z : Bytes) (x : Bool) → x ≡ true → 1 ≤ cond x (1 + run_len run z) 0
some_at run z true e = omega arith
some_at run z false e = cc

-- a run that goes on has a byte
pub run_some : (run : Run) (z : Bytes) → goes_on run z ≡ true → 1 ≤ run_len run z
unfolding run_len
run_some run [] e = let clash : false ≡ true = sym (nothing_goes_on run) ∙ e in cc
run_some run (b ∷ z) e = some_at run z (goes_on run (b ∷ z)) e
