-- The names of the registers of variables are names, tell their places, and are no names of memories.
use Rattle.std.proofs.Common.{◌≡◌, ℕ, ◌+◌, ◌-◌, ◌<◌, ◌^◌, Bool, true, false, List, [], ◌∷◌, ◌++◌, map, slice_get, Option, Some, None, refl, sym, ap, ◌∙◌, subst, append_assoc, arith}
use Rattle.std.specs.Prelude.{not, ◌==◌, ◌&&◌, if◌then◌else◌, decimal, codes}
use Rattle.std.specs.Option.{option_map}
use Rattle.std.specs.Str.{bytes_eq}
use Rattle.std.proofs.lemmas.List.{append_cancel_right}
use Rattle.std.proofs.lemmas.List.Sums.{fold-append}
use Rattle.std.proofs.lemmas.Bool.{not-true, false≢true, and_parts, and_right}
use Rattle.std.proofs.lemmas.Bool.Decides.{nat_tests}
use Rattle.std.proofs.lemmas.Option.{slice_get-map}
use Rattle.std.proofs.lemmas.Slice.Eq.{bytes_eq-Decides}
use Rattle.verilog_tree.specs.declared.token.Word.{Word}
use Rattle.verilog_tree.specs.Spelling.{Text, word_spelling, all_words, word_among, is_letter, is_name_byte, all_pass, is_no_word, is_name}
use Rattle.verilog_tree.proofs.Tests.{and_both, all_pass-append}
use Rattle.verilog_tree.proofs.Names.{name_bytes-decimal}
use Rattle.verilog_meaning.specs.Names.{numbered}
use Rattle.module_sound.specs.Names.{number_behind, last_number, place_of}
use Rattle.thread_slots.specs.Naming.{is_identifier, stem_for, name_or, register_name}
use Rattle.thread_slots.proofs.Digits.{digits_tell}

-- ---- no word of the grammar, and no name without a number, has a `_`

abbrev is_other : ℕ → Bool
is_other b = not (b == 95)

flipped : (y : ℕ) → (y == 95) ≡ false → (95 == y) ≡ false
flipped y e = grind (arith, nat_tests)

-- a text with a `_` is none without
differs : (z x ys : Text) → all_pass is_other ys ≡ true → bytes_eq (x ++ (95 ∷ z)) ys ≡ false
differs z [] [] h = refl
differs z [] (y ∷ ys) h = ap (λ v. v && bytes_eq z ys) (flipped y (not-true _ (and_parts _ _ h).0))
differs z (b ∷ x) [] h = refl
differs z (b ∷ x) (y ∷ ys) h = and_right (b == y) _ (differs z x ys (and_parts _ _ h).1)

all_other : List Word → Bool
all_other [] = true
all_other (w ∷ ws) = all_pass is_other (word_spelling w) && all_other ws

among_none : (ws : List Word) (x z : Text) → all_other ws ≡ true → word_among ws (x ++ (95 ∷ z)) ≡ None
unfolding all_other
among_none [] x z h = refl
among_none (w ∷ ws) x z h =
    ap (λ v. if v then Some w else word_among ws (x ++ (95 ∷ z))) (differs z x (word_spelling w) (and_parts _ _ h).0) ∙ among_none ws x z (and_parts _ _ h).1

words_other : all_other all_words ≡ true
unfolding all_other
words_other = refl

-- ---- they are names

identifies : (a b : Bool) (name : Text) → is_identifier name ≡ b → is_identifier (if a then codes "array_" else (if b then name else codes "variable")) ≡ true
identifies true b name e = refl
identifies false true name e = e
identifies false false name e = refl

stem_identifies : (name : Text) → is_identifier (stem_for name) ≡ true
stem_identifies name = identifies (bytes_eq name (codes "array")) (is_identifier name) name refl

numbered_name : (stem : Text) (x : ℕ) → is_identifier stem ≡ true → x < 2 ^ 64 → is_name (numbered stem x) ≡ true
numbered_name [] x h small = absurd cc
numbered_name (b ∷ stem) x h small =
    and_both (is_letter b) _ (and_parts _ _ h).0
    (and_both (all_pass is_name_byte (stem ++ (95 ∷ decimal x))) _
    (all_pass-append is_name_byte stem (95 ∷ decimal x) (and_parts (is_letter b) _ h).1 (name_bytes-decimal x small))
    (ap is_no_word (among_none all_words (b ∷ stem) (decimal x) words_other)))

-- put together of three texts
pub placed_is : (name text text_ text_n : Text) (x : ℕ) → text ≡ stem_for name → text_ ≡ text ++ codes "_" → text_n ≡ text_ ++ decimal x → text_n ≡ numbered (stem_for name) x
placed_is name text text_ text_n x e f g =
    g ∙ ap (λ l. l ++ decimal x) f ∙ ap (λ l. (l ++ codes "_") ++ decimal x) e ∙ append_assoc (stem_for name) (codes "_") (decimal x)

pub is_name-placed : (name text text_ text_n : Text) (x : ℕ) → x < 2 ^ 64 → text ≡ stem_for name → text_ ≡ text ++ codes "_" → text_n ≡ text_ ++ decimal x → is_name text_n ≡ true
is_name-placed name text text_ text_n x small e f g =
    subst (λ (z : Text). is_name z ≡ true) (sym (placed_is name text text_ text_n x e f g)) (numbered_name (stem_for name) x (stem_identifies name) small)

-- the name of a variable that has one, and of one that has none
pub name_of_some : {A : Type 0} (bytes : A → Text) (names : List A) (k place : ℕ) (name : A) (text : Text) → slice_get names k ≡ Some name → text ≡ bytes name
    → numbered (stem_for text) place ≡ register_name (map bytes names) k place
name_of_some bytes names k place name text at is =
    ap (λ t. numbered (stem_for t) place) is
    ∙ ap (λ (o : Option Text). numbered (stem_for (name_or o)) place) (sym (slice_get-map bytes names k ∙ ap (option_map bytes) at))

pub name_of_none : {A : Type 0} (bytes : A → Text) (names : List A) (k place : ℕ) → slice_get names k ≡ None → numbered (stem_for []) place ≡ register_name (map bytes names) k place
name_of_none bytes names k place at =
    ap (λ (o : Option Text). numbered (stem_for (name_or o)) place) (sym (slice_get-map bytes names k ∙ ap (option_map bytes) at))

-- ---- they tell their places

pub named_tells : (stem : Text) (n inputs x : ℕ) → x < 2 ^ 64 → place_of n inputs (numbered stem x) ≡ Some x
named_tells stem n inputs x small =
    let name : Text = numbered stem x in
    let last : last_number name ≡ Some x = fold-append number_behind None stem (95 ∷ decimal x) ∙ digits_tell x small in
    ap (λ b. if b then Some 0 else (if bytes_eq name (codes "en") then Some 1 else (if bytes_eq name (codes "need") then Some (n - 2)
    else (if bytes_eq name (codes "done") then Some (n - 1) else (if bytes_eq name (codes "beat") then Some (inputs + 2) else last_number name)))))
    (differs (decimal x) stem (codes "clk") refl)
    ∙ ap (λ b. if b then Some 1 else (if bytes_eq name (codes "need") then Some (n - 2)
    else (if bytes_eq name (codes "done") then Some (n - 1) else (if bytes_eq name (codes "beat") then Some (inputs + 2) else last_number name))))
    (differs (decimal x) stem (codes "en") refl)
    ∙ ap (λ b. if b then Some (n - 2) else (if bytes_eq name (codes "done") then Some (n - 1) else (if bytes_eq name (codes "beat") then Some (inputs + 2) else last_number name)))
    (differs (decimal x) stem (codes "need") refl)
    ∙ ap (λ b. if b then Some (n - 1) else (if bytes_eq name (codes "beat") then Some (inputs + 2) else last_number name)) (differs (decimal x) stem (codes "done") refl)
    ∙ ap (λ b. if b then Some (inputs + 2) else last_number name) (differs (decimal x) stem (codes "beat") refl)
    ∙ last

-- ---- no memory has such a name

stem_differs : (a b : Bool) (name : Text) → bytes_eq name (codes "array") ≡ a → (if a then codes "array_" else (if b then name else codes "variable")) ≡ codes "array" → ⊥
stem_differs true b name e f = absurd cc
stem_differs false true name e f = false≢true (sym e ∙ ap (λ (z : Text). bytes_eq z (codes "array")) f ∙ (bytes_eq-Decides (codes "array") (codes "array")).1 refl)
stem_differs false false name e f = absurd cc

pub named_differs : (name : Text) (x j : ℕ) → x < 2 ^ 64 → j < 2 ^ 64 → numbered (stem_for name) x ≡ numbered (codes "array") j → ⊥
named_differs name x j small few e =
    let both : Some x ≡ Some j = sym (named_tells (stem_for name) 0 0 x small) ∙ ap (place_of 0 0) e ∙ named_tells (codes "array") 0 0 j few in
    let same : x ≡ j = cc in
    stem_differs (bytes_eq name (codes "array")) (is_identifier name) name refl
    (append_cancel_right (stem_for name) (codes "array") (95 ∷ decimal j) (ap (λ i. stem_for name ++ (95 ∷ decimal i)) (sym same) ∙ e))
