-- One more token behind others.
use Rattle.std.specs.Prelude.{◌≡◌, ℕ, ◌+◌, ◌<◌, ◌≤◌, Bool, true, false, not, ◌==◌, ◌&&◌, List, [], ◌∷◌, ◌++◌, length, drop, Some}
use Rattle.std.proofs.Common.{refl, sym, ap, ◌∙◌, subst, arith}
use Rattle.std.proofs.Common.{length-drop}
use Rattle.verilog_tree.specs.declared.token.Token.{Token}
use Rattle.verilog_tree.specs.Spelling.{Text}
use Rattle.verilog_tree.specs.Tokens.{front, skip, is_blank, begins_slash}
use Rattle.verilog_lexer.specs.Lexed.{Lexes}

pub lexes_more : (size : ℕ) (here : Text) (ts : List Token) (starts : List ℕ) (rest : Text) (t : Token) (behind : Text) (start : ℕ)
    → Lexes size here ts starts rest → front rest ≡ Some (t, behind) → start + length rest ≡ size → Lexes size here (ts ++ t ∷ []) (starts ++ start ∷ []) (skip false behind)
lexes_more size here [] [] rest t behind start h f e = (behind, ap front h ∙ f, subst (λ z. start + length z ≡ size) (sym h) e, refl)
lexes_more size here [] (s ∷ starts) rest t behind start h f e = absurd h
lexes_more size here (x ∷ ts) [] rest t behind start h f e = absurd h
lexes_more size here (x ∷ ts) (s ∷ starts) rest t behind start h f e = (h.0, h.1, h.2, lexes_more size (skip false h.0) ts starts rest t behind start h.3 f e)

by_slash : (b : ℕ) (z : Text) (v : Bool) → length (skip true z) ≤ length z → length (elim v as (λ v. Text) [ true ↦ skip true z | false ↦ b ∷ z ]) ≤ length (b ∷ z)
by_slash b z true r = omega (arith, r)
by_slash b z false r = omega arith

by_blank : (b : ℕ) (z : Text) (v : Bool) → length (skip false z) ≤ length z → length (skip true z) ≤ length z
    → length (elim v as (λ v. Text) [ true ↦ skip false z | false ↦ elim (b == 47 && begins_slash z) as (λ v. Text) [ true ↦ skip true z | false ↦ b ∷ z ] ]) ≤ length (b ∷ z)
by_blank b z true q r = omega (arith, q)
by_blank b z false q r = by_slash b z (b == 47 && begins_slash z) r

pub skip_short : (comment : Bool) (z : Text) → length (skip comment z) ≤ length z
unfolding skip
skip_short comment [] = omega arith
skip_short true (b ∷ z) = let r = skip_short (not (b == 10)) z in omega (arith, r)
skip_short false (b ∷ z) = by_blank b z (is_blank b) (skip_short false z) (skip_short true z)

-- what stands behind a token is shorter
pub behind_short : (n : ℕ) (z rest : Text) → 0 < n → n ≤ length z → rest ≡ skip false (drop n z) → length rest < length z
behind_short n z rest some within e =
    let a = skip_short false (drop n z) in
    let b = length-drop n z in
    let same = ap length e in
    omega (arith, a, b, same)
