-- Names made of names.
use Rattle.std.proofs.Common.{◌≡◌, ℕ, ◌^◌, ◌<◌, List, [], ◌∷◌, ◌++◌, Some, None, Bool, true, false, refl, sym, ap, ◌∙◌, subst, append_assoc, arith}
use Rattle.std.specs.Prelude.{not, ◌==◌, ◌&&◌, if◌then◌else◌, decimal}
use Rattle.std.specs.Str.{bytes_eq}
use Rattle.std.specs.Char.{is_ascii_digit}
use Rattle.std.proofs.lemmas.Bool.Decides.{nat_tests}
use Rattle.std.proofs.lemmas.Bool.{not-true, or_right, and_parts, and_right}
use Rattle.verilog_tree.specs.declared.token.Word.{Word}
use Rattle.verilog_tree.specs.Spelling.{Text, word_spelling, all_words, word_among, is_letter, is_name_byte, all_pass, is_no_word, is_name}
use Rattle.verilog_tree.proofs.Tests.{and_both, all_pass-append, digits_of}

-- ---- no word of the grammar has a _

is_other : ℕ → Bool
is_other b = not (b == 95)

other_differs : (z : Text) (x : Text) (ys : Text) → all_pass is_other ys ≡ true → bytes_eq (x ++ (95 ∷ z)) ys ≡ false
unfolding is_other
other_differs z [] [] h = refl
other_differs z [] (y ∷ ys) h = head y (not-true _ (and_parts _ _ h).0) where
  head : (y : ℕ) → (y == 95) ≡ false → ((95 == y) && bytes_eq z ys) ≡ false
  head y e = ap (λ v. v && bytes_eq z ys) (flip y e) where
    flip : (y : ℕ) → (y == 95) ≡ false → (95 == y) ≡ false
    flip y e = grind (arith, nat_tests)
other_differs z (b ∷ x) [] h = refl
other_differs z (b ∷ x) (y ∷ ys) h = and_right (b == y) _ (other_differs z x ys (and_parts _ _ h).1)

all_other : List Word → Bool
all_other [] = true
all_other (w ∷ ws) = all_pass is_other (word_spelling w) && all_other ws

among_none : (ws : List Word) (x z : Text) → all_other ws ≡ true → word_among ws (x ++ (95 ∷ z)) ≡ None
unfolding all_other
among_none [] x z h = refl
among_none (w ∷ ws) x z h =
    ap (λ v. if v then Some w else word_among ws (x ++ (95 ∷ z))) (other_differs z x (word_spelling w) (and_parts _ _ h).0) ∙ among_none ws x z (and_parts _ _ h).1

all_words_other : all_other all_words ≡ true
unfolding all_other is_other
all_words_other = refl

no_word : (x z : Text) → is_no_word (word_among all_words (x ++ (95 ∷ z))) ≡ true
no_word x z = ap is_no_word (among_none all_words x z all_words_other)

-- ---- a name, _ and a suffix

pub is_name-suffix : (x z : Text) → is_name x ≡ true → all_pass is_name_byte z ≡ true → is_name (x ++ (95 ∷ z)) ≡ true
is_name-suffix [] z h k = cc
is_name-suffix (b ∷ x) z h k =
    let rest = (and_parts (is_letter b) _ h).1 in
    and_both (is_letter b) _ (and_parts _ _ h).0 (and_both (all_pass is_name_byte (x ++ (95 ∷ z))) _ (all_pass-append is_name_byte x (95 ∷ z) (and_parts _ _ rest).0 k) (no_word (b ∷ x) z))

digits_pass : (z : Text) → all_pass is_ascii_digit z ≡ true → all_pass is_name_byte z ≡ true
digits_pass [] h = refl
digits_pass (b ∷ z) h = and_both (is_name_byte b) _ (or_right (is_letter b) (is_ascii_digit b) (and_parts _ _ h).0) (digits_pass z (and_parts (is_ascii_digit b) _ h).1)

pub name_bytes-decimal : (n : ℕ) → n < 2 ^ 64 → all_pass is_name_byte (decimal n) ≡ true
name_bytes-decimal n lt = let ds = digits_of n lt in subst (λ z. all_pass is_name_byte z ≡ true) (sym ds.is) (digits_pass (ds.first ∷ ds.others) ds.digits)

-- the same, built in two steps
pub is_name-suffixed : (x a b c z : Text) → is_name x ≡ true → all_pass is_name_byte z ≡ true → a ≡ x → b ≡ a ++ (95 ∷ []) → c ≡ b ++ z → is_name c ≡ true
is_name-suffixed x a b c z h k e f g =
    let is : c ≡ x ++ (95 ∷ z) = g ∙ ap (λ l. l ++ z) f ∙ ap (λ l. (l ++ (95 ∷ [])) ++ z) e ∙ append_assoc x (95 ∷ []) z in
    subst (λ l. is_name l ≡ true) (sym is) (is_name-suffix x z h k)
