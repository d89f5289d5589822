-- What the bytes of a lexeme are, by its class: a word is a letter, then letters and digits.
use Rattle.std.proofs.Common.{◌≡◌, refl, ℕ, Bool, true, false, [], ◌∷◌, ◌++◌, Option, Some, None}
use Rattle.std.specs.Prelude.{cond, ◌==◌, nat_eq, option_map, codes, IsTrue}
use Rattle.std.specs.List.{AllByRecursion, starts_with}
use Rattle.std.specs.Char.{is_ascii_digit}
use Rattle.std.proofs.lemmas.Bool.{or_left}
use Rattle.c_token.specs.declared.punctuator.Punctuator.{Punctuator}
use Rattle.c_token.specs.Spelling.{Bytes, punctuator_at}
use Rattle.c_program.specs.Resolved.{IsName, is_letter_or_digit}
use Rattle.c_lexer.specs.declared.lexeme.Class.{Class}
use Rattle.c_lexer.specs.declared.lexeme.Class.TheVariants as c
use Rattle.c_lexer.specs.declared.lexeme.Run.TheVariants as r
use Rattle.c_lexer.specs.Lexemes.{is_blank, is_letter, goes_on, class_at, comment_or_mark, header_or_mark, header_or_text, GoesOver, IsLexeme}
use Rattle.c_resolved_program.proofs.Meanings.{Facts}

-- a test chooses this class, which is a word's, or the rest does
either : {G : Type 0} (x : Bool) (o rest : Option Class) → (x ≡ true → o ≡ Some c.Word → G) → (rest ≡ Some c.Word → G) → cond x o rest ≡ Some c.Word → G
either true o rest here more h = here refl h
either false o rest here more h = more h

no_mark : {G : Type 0} (o : Option Punctuator) → option_map c.Mark o ≡ Some c.Word → G
no_mark None h = cc
no_mark (Some p) h = cc

no_comment : {G : Type 0} (z : Bytes) → comment_or_mark z ≡ Some c.Word → G
no_comment z h = either (starts_with nat_eq z (codes "//")) _ _ (λ _ e. cc (e)) (either (starts_with nat_eq z (codes "/*")) _ _ (λ _ e. cc (e)) (no_mark (punctuator_at z))) h

no_header : {G : Type 0} (header : Bool) (z : Bytes) → header_or_mark header z ≡ Some c.Word → G
no_header true z h = cc
no_header false z h = no_mark (punctuator_at z) h

no_text : {G : Type 0} (header : Bool) → Some (header_or_text header) ≡ Some c.Word → G
no_text true h = cc
no_text false h = cc

word_begins : (header : Bool) (b : ℕ) (z : Bytes) → class_at header (b ∷ z) ≡ Some c.Word → is_letter b ≡ true
unfolding class_at
word_begins header b z h =
    either (is_blank b) _ _ (λ _ e. cc (e))
    (either (b == 10) _ _ (λ _ e. cc (e))
    (either (is_letter b) _ _ (λ yes _. yes)
    (either (is_ascii_digit b) _ _ (λ _ e. cc (e))
    (either (b == 39) _ _ (λ _ e. cc (e))
    (either (b == 34) _ _ (λ _ e. no_text header e)
    (either (b == 60) _ _ (λ _ e. no_header header (b ∷ z) e)
    (either (b == 35) _ _ (λ _ e. cc (e))
    (no_comment (b ∷ z))))))))) h

over_is : (body rest : Bytes) → GoesOver r.Word body rest → AllByRecursion (λ byte. IsTrue (is_letter_or_digit byte)) body
unfolding goes_on
over_is [] rest over = tt
over_is (b ∷ body) rest over = (over.0, over_is body rest over.1)

letter_goes_on : (b : ℕ) (z : Bytes) → is_letter b ≡ true → goes_on r.Word (b ∷ z) ≡ true
unfolding goes_on
letter_goes_on b z h = or_left (is_letter b) (is_ascii_digit b) h

nothing : (header : Bool) → class_at header [] ≡ Some c.Word → ⊥
unfolding class_at
nothing header h = cc

no_word : (header : Bool) (rest : Bytes) → class_at header rest ≡ Some c.Word → goes_on r.Word rest ≡ false → ⊥
no_word header [] h e = nothing header h
no_word header (b ∷ z) h e = let yes = letter_goes_on b z (word_begins header b z h) in let clash : ⊥ = cc (yes, e) in clash

word_is : (header : Bool) (bytes rest : Bytes) → class_at header (bytes ++ rest) ≡ Some c.Word → GoesOver r.Word bytes rest → goes_on r.Word rest ≡ false → IsName bytes
word_is header [] rest h over e = absurd (no_word header rest h e)
word_is header (b ∷ body) rest h over e = (word_begins header b (body ++ rest) h, over_is body rest over.1)

pub facts : (header : Bool) (class : Class) (bytes rest : Bytes) → IsLexeme header class bytes rest → Facts class bytes
facts header c.Word bytes rest h = word_is header bytes rest h.0 h.1.0 h.1.1
facts header c.Text bytes rest h = h.1
facts header c.Blank bytes rest h = tt
facts header c.LineFeed bytes rest h = tt
facts header c.Hash bytes rest h = tt
facts header c.Number bytes rest h = tt
facts header c.LineComment bytes rest h = tt
facts header c.BlockComment bytes rest h = tt
facts header c.Character bytes rest h = tt
facts header (c.Header close) bytes rest h = tt
facts header (c.Mark p) bytes rest h = tt
