-- Names that are no reserved words: by a test that each reserved word passes, and those that end in `_` and a number.
use Rattle.std.proofs.Common.{◌≡◌, ℕ, zero, suc, ◌+◌, ◌/◌, ◌%◌, ◌<◌, [], ◌∷◌, ◌++◌, Bool, true, false, refl, sym, ap, ◌∙◌, arith}
use Rattle.std.specs.Prelude.{not, ◌==◌, ◌&&◌, ◌||◌, nat_lt, decimal, if◌then◌else◌}
use Rattle.std.specs.Fmt.{digit_glyph, digits_onto, digits}
use Rattle.std.specs.List.{list_any}
use Rattle.std.specs.Str.{bytes_eq}
use Rattle.std.specs.Char.{is_ascii_digit}
use Rattle.std.proofs.lemmas.Slice.Eq.{bytes_eq-Decides}
use Rattle.std.proofs.lemmas.Bool.Decides.{nat_tests}
use Rattle.std.proofs.lemmas.Bool.{and_parts, or_right}
use Rattle.verilog_tree.specs.Scope.{Name, Names}
use Rattle.verilog_tree.specs.Rules.{all_right}
use Rattle.netlist_text.specs.Portable.{reserved_words, IsFree}

-- ---- by a test

free_step : (p : Name → Bool) (w : Name) (ws : Names) (x : Name) → p w ≡ true → p x ≡ false → list_any (bytes_eq x) ws ≡ false → (b : Bool) → bytes_eq x w ≡ b →
    (b || list_any (bytes_eq x) ws) ≡ false
free_step p w ws x passes fails rest true e =
    let clash : true ≡ false = sym passes ∙ ap p (sym ((bytes_eq-Decides x w).0 e)) ∙ fails in absurd cc
free_step p w ws x passes fails rest false e = rest

free_among : (p : Name → Bool) (ws : Names) (x : Name) → all_right p ws ≡ true → p x ≡ false → list_any (bytes_eq x) ws ≡ false
free_among p [] x all fails = refl
free_among p (w ∷ ws) x all fails =
    let parts = and_parts (p w) (all_right p ws) all in
    free_step p w ws x parts.0 fails (free_among p ws x parts.1 fails) (bytes_eq x w) refl

-- a name that fails a test which each reserved word passes is free
pub free_by : (p : Name → Bool) (x : Name) → all_right p reserved_words ≡ true → p x ≡ false → IsFree x
free_by p x all fails = free_among p reserved_words x all fails

-- ---- `_` and a number

begins_digit : Name → Bool
begins_digit [] = false
begins_digit (b ∷ z) = is_ascii_digit b

-- a digit stands behind a `_`
has_number : Name → Bool
has_number [] = false
has_number (b ∷ z) = (b == 95 && begins_digit z) || has_number z

has_none : Name → Bool
has_none x = not (has_number x)

words_have_none : all_right has_none reserved_words ≡ true
unfolding has_none has_number begins_digit reserved_words
words_have_none = refl

number_there : (stem ds : Name) → begins_digit ds ≡ true → has_number (stem ++ 95 ∷ ds) ≡ true
unfolding has_number begins_digit
number_there [] ds h = ap (λ b. b || has_number ds) h
number_there (b ∷ stem) ds h = or_right (b == 95 && begins_digit (stem ++ 95 ∷ ds)) (has_number (stem ++ 95 ∷ ds)) (number_there stem ds h)

glyph_by : (d : ℕ) → d < 10 → is_ascii_digit (if nat_lt d 10 then 48 + d else 87 + d) ≡ true
glyph_by d low = grind (arith, nat_tests)

glyph_is_digit : (n : ℕ) → is_ascii_digit (digit_glyph false (n % 10)) ≡ true
glyph_is_digit n = glyph_by (n % 10) (omega arith)

glyph_begins : (n : ℕ) (z : Name) → begins_digit (digit_glyph false (n % 10) ∷ z) ≡ true
unfolding begins_digit
glyph_begins n z = glyph_is_digit n

begins_by : (b : Bool) (x y : Name) → begins_digit x ≡ true → begins_digit y ≡ true → begins_digit (if b then x else y) ≡ true
begins_by true x y p q = p
begins_by false x y p q = q

digits_begin : (k n : ℕ) (z : Name) → begins_digit z ≡ true → begins_digit (digits_onto k 10 false n z) ≡ true
digits_begin zero n z h = h
digits_begin (suc k) n z h =
    let more : Name = digit_glyph false (n % 10) ∷ z in
    begins_by (n / 10 == 0) more (digits_onto k 10 false (n / 10) more) (glyph_begins n z) (digits_begin k (n / 10) more (glyph_begins n z))

decimal_begins : (n : ℕ) → begins_digit (decimal n) ≡ true
unfolding digits
decimal_begins n =
    let one : Name = digit_glyph false (n % 10) ∷ [] in
    begins_by (n / 10 == 0) one (digits_onto 63 10 false (n / 10) one) (glyph_begins n []) (digits_begin 63 (n / 10) one (glyph_begins n []))

-- A NAME THAT ENDS IN `_` AND A NUMBER is no reserved word
pub numbered_free : (stem : Name) (n : ℕ) → IsFree (stem ++ 95 ∷ decimal n)
unfolding has_none
numbered_free stem n = free_by has_none (stem ++ 95 ∷ decimal n) words_have_none (ap not (number_there stem (decimal n) (decimal_begins n)))
