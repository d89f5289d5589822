-- What the class of a text's front tells of its first bytes.
use Rattle.std.proofs.Common.{◌≡◌, ℕ, [], ◌∷◌, Option, Some, None, Bool, true, false, length, ◌≤◌, refl, subst, arith}
use Rattle.std.specs.Prelude.{cond, ◌==◌, nat_eq, option_map, codes}
use Rattle.std.specs.List.{starts_with}
use Rattle.std.specs.Char.{is_ascii_digit}
use Rattle.std.proofs.lemmas.Bool.{or_left, or_right}
use Rattle.c_token.specs.declared.punctuator.Punctuator.{Punctuator}
use Rattle.c_token.specs.Spelling.{Bytes, punctuator_at}
use Rattle.c_lexer.specs.declared.lexeme.Class.{Class}
use Rattle.c_lexer.specs.declared.lexeme.Class.TheVariants as c
use Rattle.c_lexer.specs.declared.lexeme.Run.TheVariants as r
use Rattle.c_lexer.specs.Lexemes.{is_blank, is_letter, goes_on, class_at, comment_or_mark, header_or_mark, header_or_text}
use Rattle.c_lexer.specs.Finding.{begins_with}

abbrev pub Tells : Class → Bytes → Type 0
Tells c.Blank z = Unit {0}
Tells c.LineFeed z = Unit {0}
Tells c.Hash z = Unit {0}
Tells c.Character z = Unit {0}
Tells (c.Header close) z = Unit {0}
Tells c.Word z = goes_on r.Word z ≡ true
Tells c.Number z = goes_on r.Number z ≡ true
Tells c.LineComment z = starts_with nat_eq z (codes "//") ≡ true
Tells c.BlockComment z = starts_with nat_eq z (codes "/*") ≡ true
Tells c.Text z = begins_with 34 z ≡ true
Tells (c.Mark p) z = punctuator_at z ≡ Some p

-- a test chooses this class, or the rest does
step : (z : Bytes) (k a : Class) (rest : Option Class) (x : Bool) → (x ≡ true → Tells a z) → (rest ≡ Some k → Tells k z) → cond x (Some a) rest ≡ Some k → Tells k z
step z k a rest true here more h = let same : a ≡ k = cc in subst (λ y. Tells y z) same (here refl)
step z k a rest false here more h = more h

-- a test chooses between the two
step_between : (z : Bytes) (k : Class) (some rest : Option Class) (x : Bool) → (some ≡ Some k → Tells k z) → (rest ≡ Some k → Tells k z) → cond x some rest ≡ Some k → Tells k z
step_between z k some rest true here more h = here h
step_between z k some rest false here more h = more h

mark_at : (z : Bytes) (k : Class) (o : Option Punctuator) → punctuator_at z ≡ o → option_map c.Mark o ≡ Some k → Tells k z
mark_at z k None e h = cc
mark_at z k (Some p) e h = let same : c.Mark p ≡ k = cc in subst (λ y. Tells y z) same e

mark_tells : (z : Bytes) (k : Class) → option_map c.Mark (punctuator_at z) ≡ Some k → Tells k z
mark_tells z k h = mark_at z k (punctuator_at z) refl h

comment_tells : (z : Bytes) (k : Class) → comment_or_mark z ≡ Some k → Tells k z
comment_tells z k h =
    step z k c.LineComment _ (starts_with nat_eq z (codes "//")) (λ e. e)
    (step z k c.BlockComment _ (starts_with nat_eq z (codes "/*")) (λ e. e) (mark_tells z k)) h

less_tells : (header : Bool) (z : Bytes) (k : Class) → header_or_mark header z ≡ Some k → Tells k z
less_tells true z k h = let same : c.Header 62 ≡ k = cc in subst (λ y. Tells y z) same tt
less_tells false z k h = mark_tells z k h

quote_tells : (header : Bool) (b : ℕ) (z : Bytes) → (b == 34) ≡ true → Tells (header_or_text header) (b ∷ z)
quote_tells true b z e = tt
quote_tells false b z e = e

letter_tells : (b : ℕ) (z : Bytes) → is_letter b ≡ true → Tells c.Word (b ∷ z)
unfolding goes_on
letter_tells b z e = or_left (is_letter b) (is_ascii_digit b) e

digit_tells : (b : ℕ) (z : Bytes) → is_ascii_digit b ≡ true → Tells c.Number (b ∷ z)
unfolding goes_on
digit_tells b z e = or_left _ (b == 46) (or_right (is_letter b) (is_ascii_digit b) e)

pub class_tells : (header : Bool) (z : Bytes) (k : Class) → class_at header z ≡ Some k → Tells k z
unfolding class_at
class_tells header [] k h = cc
class_tells header (b ∷ z) k h =
    step (b ∷ z) k c.Blank _ (is_blank b) (λ e. tt)
    (step (b ∷ z) k c.LineFeed _ (b == 10) (λ e. tt)
    (step (b ∷ z) k c.Word _ (is_letter b) (letter_tells b z)
    (step (b ∷ z) k c.Number _ (is_ascii_digit b) (digit_tells b z)
    (step (b ∷ z) k c.Character _ (b == 39) (λ e. tt)
    (step (b ∷ z) k (header_or_text header) _ (b == 34) (quote_tells header b z)
    (step_between (b ∷ z) k _ _ (b == 60) (less_tells header (b ∷ z) k)
    (step (b ∷ z) k c.Hash _ (b == 35) (λ e. tt)
    (comment_tells (b ∷ z) k)))))))) h

pub some_byte : (header : Bool) (z : Bytes) (k : Class) → class_at header z ≡ Some k → 1 ≤ length z
unfolding class_at
some_byte header [] k h = cc
some_byte header (b ∷ z) k h = omega arith
