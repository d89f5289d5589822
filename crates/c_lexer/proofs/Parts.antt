-- What stands at the front of a text: string literals, character constants, punctuators, and what a class tells of it.
use Rattle.std.proofs.Common.{◌≡◌, ℕ, ◌+◌, ◌≤◌, List, [], ◌∷◌, ◌++◌, length, drop, get_or, Option, Some, None, Bool, true, false, refl, sym, ap, ◌∙◌, subst, arith, lit≤}
use Rattle.std.specs.Prelude.{cond, ◌==◌, ◌&&◌, not, nat_eq, is_some}
use Rattle.std.specs.List.{find, starts_with}
use Rattle.std.proofs.lemmas.Bool.{eqb-true, and_parts, not-true, and_from}
use Rattle.std.proofs.lemmas.Bool.Decides.{Decides-eqb}
use Rattle.std.proofs.lemmas.Slice.Eq.{starts_is}
use Rattle.c_token.specs.declared.punctuator.Punctuator.{Punctuator}
use Rattle.c_token.specs.declared.punctuator.Punctuator.TheVariants as p
use Rattle.c_token.specs.Spelling.{Bytes, punctuator_spelling, punctuators, punctuator_at}
use Rattle.c_token.specs.Constants.{character_of, is_plain_character, is_escaped_character, is_between_quotes, is_character_byte}
use Rattle.c_token.specs.declared.constant.Constant.{Constant}
use Rattle.c_lexer.specs.Lexemes.{is_printable, is_text_body}
use Rattle.c_lexer.specs.Finding.{text_len, begins_with, character_span}

-- ---- prefixes

pub prefix : (z front : Bytes) → starts_with nat_eq z front ≡ true → z ≡ front ++ drop (length front) z
prefix z front h = (starts_is Decides-eqb z front (starts_with nat_eq z front) refl).0 h

pub first_byte : (b : ℕ) (z : Bytes) → begins_with b z ≡ true → z ≡ b ∷ drop 1 z
first_byte b [] h = cc
first_byte b (a ∷ z) h = ap (λ x. x ∷ z) (eqb-true a b h)

-- ---- string literals

text_step : (n : ℕ) (m : Option ℕ) (x : Bool) → x ≡ true → m ≡ Some n → cond x m None ≡ Some n
text_step n m true e h = h
text_step n m false e h = cc

pub text_found : (n : ℕ) (escaped : Bool) (inside rest : Bytes) → is_text_body escaped inside ≡ true → text_len n escaped (inside ++ (34 ∷ rest)) ≡ Some (n + length inside + 1)
unfolding is_text_body text_len
text_found n true [] rest h = cc
text_found n false [] rest h = ap Some (omega arith)
text_found n true (b ∷ inside) rest h =
    let parts = and_parts (is_printable b) (is_text_body false inside) h in
    text_step _ _ (is_printable b) parts.0 (text_found (n + 1) false inside rest parts.1 ∙ ap Some (omega arith))
text_found n false (b ∷ inside) rest h =
    let parts = and_parts (not (b == 34)) (is_printable b && is_text_body (b == 92) inside) h in
    let more = and_parts (is_printable b) (is_text_body (b == 92) inside) parts.1 in
    ap (λ x. cond x (Some (n + 1)) (cond (is_printable b) (text_len (n + 1) (b == 92) (inside ++ (34 ∷ rest))) None)) (not-true (b == 34) parts.0)
    ∙ text_step _ _ (is_printable b) more.0 (text_found (n + 1) (b == 92) inside rest more.1 ∙ ap Some (omega arith))

-- a string literal that begins behind its first quote
abbrev pub IsText : Bool → Bytes → ℕ → ℕ → Type 0
IsText escaped z m n = (inside : Bytes) × (rest : Bytes) × (z ≡ inside ++ (34 ∷ rest)) × (is_text_body escaped inside ≡ true) × (n ≡ m + length inside + 1)

one_more : (escaped next : Bool) (b : ℕ) (z : Bytes) (m n : ℕ) → ((inside : Bytes) → is_text_body next inside ≡ true → is_text_body escaped (b ∷ inside) ≡ true)
    → IsText next z (m + 1) n → IsText escaped (b ∷ z) m n
one_more escaped next b z m n goes more = (b ∷ more.0, more.1, ap (λ y. b ∷ y) more.2, goes more.0 more.3, omega (arith, more.4))

escaped_byte : (b : ℕ) → is_printable b ≡ true → (inside : Bytes) → is_text_body false inside ≡ true → is_text_body true (b ∷ inside) ≡ true
unfolding is_text_body
escaped_byte b e inside h = and_from (is_printable b) (is_text_body false inside) e h

plain_byte : (b : ℕ) → (b == 34) ≡ false → is_printable b ≡ true → (inside : Bytes) → is_text_body (b == 92) inside ≡ true → is_text_body false (b ∷ inside) ≡ true
unfolding is_text_body
plain_byte b q e inside h = and_from (not (b == 34)) (is_printable b && is_text_body (b == 92) inside) (ap not q) (and_from (is_printable b) (is_text_body (b == 92) inside) e h)

no_byte : is_text_body false [] ≡ true
unfolding is_text_body
no_byte = refl

escaped_at : (b : ℕ) (z : Bytes) (m n : ℕ) (more : text_len (m + 1) false z ≡ Some n → IsText false z (m + 1) n) (x : Bool)
    → is_printable b ≡ x → cond x (text_len (m + 1) false z) None ≡ Some n → IsText true (b ∷ z) m n
escaped_at b z m n more true e g = one_more true false b z m n (escaped_byte b e) (more g)
escaped_at b z m n more false e g = cc

byte_at : (b : ℕ) (z : Bytes) (m n : ℕ) (more : text_len (m + 1) (b == 92) z ≡ Some n → IsText (b == 92) z (m + 1) n) → (b == 34) ≡ false
    → (x : Bool) → is_printable b ≡ x → cond x (text_len (m + 1) (b == 92) z) None ≡ Some n → IsText false (b ∷ z) m n
byte_at b z m n more q true e g = one_more false (b == 92) b z m n (plain_byte b q e) (more g)
byte_at b z m n more q false e g = cc

quote_at : (b : ℕ) (z : Bytes) (m n : ℕ) (more : text_len (m + 1) (b == 92) z ≡ Some n → IsText (b == 92) z (m + 1) n) (x : Bool) → (b == 34) ≡ x
    → cond x (Some (m + 1)) (cond (is_printable b) (text_len (m + 1) (b == 92) z) None) ≡ Some n → IsText false (b ∷ z) m n
quote_at b z m n more true q g =
    let same : m + 1 ≡ n = cc in
    ([], z, ap (λ x. x ∷ z) (eqb-true b 34 q), no_byte, omega (arith, same))
quote_at b z m n more false q g = byte_at b z m n more q (is_printable b) refl g

pub text_cut : (z : Bytes) (escaped : Bool) (m n : ℕ) → text_len m escaped z ≡ Some n → IsText escaped z m n
unfolding text_len
text_cut [] escaped m n h = cc
text_cut (b ∷ z) true m n h = escaped_at b z m n (text_cut z false (m + 1) n) (is_printable b) refl h
text_cut (b ∷ z) false m n h = quote_at b z m n (text_cut z (b == 92) (m + 1) n) (b == 34) refl h

-- ---- character constants

is_three : (w : Bytes) → is_plain_character w ≡ true → length w ≡ character_span w
is_three w h =
    let three = and_parts (length w == 3) (is_between_quotes w && is_character_byte (get_or w 1 0)) h in
    let byte = and_parts (is_between_quotes w) (is_character_byte (get_or w 1 0)) three.1 in
    let marks = and_parts (is_printable (get_or w 1 0)) (not (get_or w 1 0 == 39) && not (get_or w 1 0 == 92)) byte.1 in
    let last = and_parts (not (get_or w 1 0 == 39)) (not (get_or w 1 0 == 92)) marks.1 in
    eqb-true (length w) 3 three.0 ∙ sym (ap (λ x. cond x 4 3) (not-true (get_or w 1 0 == 92) last.1))

is_four : (w : Bytes) → is_escaped_character w ≡ true → length w ≡ character_span w
is_four w h =
    let four = and_parts (length w == 4) (is_between_quotes w && get_or w 1 0 == 92) h in
    let mark = and_parts (is_between_quotes w) (get_or w 1 0 == 92) four.1 in
    eqb-true (length w) 4 four.0 ∙ sym (ap (λ x. cond x 4 3) mark.1)

character_at : (w : Bytes) (x y : Bool) (a b : Option Constant) → is_plain_character w ≡ x → is_escaped_character w ≡ y
    → is_some (cond x a (cond y b None)) ≡ true → length w ≡ character_span w
character_at w true y a b e f h = is_three w e
character_at w false true a b e f h = is_four w f
character_at w false false a b e f h = cc

-- a character constant is as long as its first bytes say
pub character_length : (w : Bytes) → is_some (character_of w) ≡ true → length w ≡ character_span w
unfolding character_of
character_length w h = character_at w (is_plain_character w) (is_escaped_character w) _ _ refl refl h

-- ---- punctuators

passes_at : {X : Type 0} (p : X → Bool) (xs : List X) (x y : X) → (find p xs ≡ Some x → p x ≡ true) → (t : Bool) → p y ≡ t → cond t (Some y) (find p xs) ≡ Some x → p x ≡ true
passes_at p xs x y more true e g = let same : y ≡ x = cc in subst (λ v. p v ≡ true) same e
passes_at p xs x y more false e g = more g

find_passes : {X : Type 0} (p : X → Bool) (xs : List X) (x : X) → find p xs ≡ Some x → p x ≡ true
find_passes p [] x h = cc
find_passes p (y ∷ xs) x h = passes_at p xs x y (find_passes p xs x) (p y) refl h

pub punctuator_there : (z : Bytes) (p : Punctuator) → punctuator_at z ≡ Some p → starts_with nat_eq z (punctuator_spelling p) ≡ true
unfolding punctuator_at
punctuator_there z p h = find_passes (λ p. starts_with nat_eq z (punctuator_spelling p)) punctuators p h

pub punctuator_some : (p : Punctuator) → 1 ≤ length (punctuator_spelling p)
punctuator_some p.ShiftLeftAssign = lit≤ tt
punctuator_some p.ShiftRightAssign = lit≤ tt
punctuator_some p.PlusAssign = lit≤ tt
punctuator_some p.MinusAssign = lit≤ tt
punctuator_some p.StarAssign = lit≤ tt
punctuator_some p.SlashAssign = lit≤ tt
punctuator_some p.PercentAssign = lit≤ tt
punctuator_some p.AndAssign = lit≤ tt
punctuator_some p.OrAssign = lit≤ tt
punctuator_some p.XorAssign = lit≤ tt
punctuator_some p.ShiftLeft = lit≤ tt
punctuator_some p.ShiftRight = lit≤ tt
punctuator_some p.LessEqual = lit≤ tt
punctuator_some p.GreaterEqual = lit≤ tt
punctuator_some p.EqualEqual = lit≤ tt
punctuator_some p.NotEqual = lit≤ tt
punctuator_some p.AndAnd = lit≤ tt
punctuator_some p.OrOr = lit≤ tt
punctuator_some p.PlusPlus = lit≤ tt
punctuator_some p.MinusMinus = lit≤ tt
punctuator_some p.OpenRound = lit≤ tt
punctuator_some p.CloseRound = lit≤ tt
punctuator_some p.OpenCurly = lit≤ tt
punctuator_some p.CloseCurly = lit≤ tt
punctuator_some p.OpenSquare = lit≤ tt
punctuator_some p.CloseSquare = lit≤ tt
punctuator_some p.Semicolon = lit≤ tt
punctuator_some p.Comma = lit≤ tt
punctuator_some p.Plus = lit≤ tt
punctuator_some p.Minus = lit≤ tt
punctuator_some p.Star = lit≤ tt
punctuator_some p.Slash = lit≤ tt
punctuator_some p.Percent = lit≤ tt
punctuator_some p.And = lit≤ tt
punctuator_some p.Or = lit≤ tt
punctuator_some p.Xor = lit≤ tt
punctuator_some p.Tilde = lit≤ tt
punctuator_some p.Exclamation = lit≤ tt
punctuator_some p.Less = lit≤ tt
punctuator_some p.Greater = lit≤ tt
punctuator_some p.Assign = lit≤ tt
punctuator_some p.Question = lit≤ tt
punctuator_some p.Colon = lit≤ tt
