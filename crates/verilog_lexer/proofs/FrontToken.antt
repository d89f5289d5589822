-- The token at the front of a text, by the class of its first byte.
use Rattle.std.specs.Prelude.{◌≡◌, ℕ, suc, ◌+◌, ◌<◌, ◌≤◌, Bool, true, false, ◌==◌, ◌||◌, if◌then◌else◌, [], ◌∷◌, length, take, drop, Some, None, option_map}
use Rattle.std.specs.Char.{is_ascii_digit}
use Rattle.std.proofs.Common.{refl, sym, ap, ◌∙◌, subst, arith}
use Rattle.std.proofs.lemmas.Bool.{eq-eqb, eqb-true, false_from_ne_true}
use Rattle.verilog_tree.specs.declared.token.Mark.{Mark}
use Rattle.verilog_tree.specs.declared.token.Token.{Token}
use Rattle.verilog_tree.specs.declared.token.Token.TheVariants as t
use Rattle.verilog_tree.specs.Spelling.{Text, all_pass, is_letter, is_name_byte, is_quoted}
use Rattle.verilog_tree.specs.Tokens.{after_run, word_or_name, number_of, quoted, mark_among, all_marks, front_of, front}
use Rattle.verilog_lexer.specs.declared.runs.Run.{Run}
use Rattle.verilog_lexer.specs.declared.runs.Run.TheVariants as run
use Rattle.verilog_lexer.specs.Runs.{goes_on, run_len, quoted_len, IsNamed, IsMarkAmong, IsToken, BeginsName, BeginsDigit, BeginsQuote, BeginsMark}
use Rattle.verilog_lexer.proofs.ByteRuns.{run_taken, run_dropped, run_passes, quoted_found, quoted_none}

letter_front : (b : ℕ) (z : Text) (n : ℕ) → is_letter b ≡ true → n ≡ run_len run.Name z → front (b ∷ z) ≡ Some (word_or_name (b ∷ take n z), drop n z)
unfolding front
letter_front b z n h e =
    ap (λ x. front_of x (is_ascii_digit b) (b == 34) b z) h
    ∙ ap (λ l. Some (word_or_name (b ∷ l), after_run is_name_byte z)) (run_taken run.Name z ∙ ap (λ k. take k z) (sym e))
    ∙ ap (λ l. Some (word_or_name (b ∷ take n z), l)) (run_dropped run.Name z ∙ ap (λ k. drop k z) (sym e))

digit_front : (b : ℕ) (z : Text) (n : ℕ) → is_letter b ≡ false → is_ascii_digit b ≡ true → n ≡ run_len run.Digits z
    → front (b ∷ z) ≡ option_map (λ k. (t.Number k, drop n z)) (number_of (b ∷ take n z))
unfolding front
digit_front b z n letter h e =
    ap (λ x. front_of x (is_ascii_digit b) (b == 34) b z) letter ∙ ap (λ x. front_of false x (b == 34) b z) h
    ∙ ap (λ l. option_map (λ k. (t.Number k, after_run is_ascii_digit z)) (number_of (b ∷ l))) (run_taken run.Digits z ∙ ap (λ k. take k z) (sym e))
    ∙ ap (λ l. option_map (λ k. (t.Number k, l)) (number_of (b ∷ take n z))) (run_dropped run.Digits z ∙ ap (λ k. drop k z) (sym e))

quote_front : (b : ℕ) (z : Text) → is_letter b ≡ false → is_ascii_digit b ≡ false → (b == 34) ≡ true → front (b ∷ z) ≡ option_map (λ p. (t.Quoted p.0, p.1)) (quoted false z)
unfolding front
quote_front b z letter digit h = ap (λ x. front_of x (is_ascii_digit b) (b == 34) b z) letter ∙ ap (λ x. front_of false x (b == 34) b z) digit ∙ ap
    (λ x. front_of false false x b z) h

other_front : (b : ℕ) (z : Text) → is_letter b ≡ false → is_ascii_digit b ≡ false → (b == 34) ≡ false → front (b ∷ z) ≡ mark_among all_marks (b ∷ z)
unfolding front
other_front b z letter digit h = ap (λ x. front_of x (is_ascii_digit b) (b == 34) b z) letter ∙ ap (λ x. front_of false x (b == 34) b z) digit ∙ ap
    (λ x. front_of false false x b z) h

-- ---- by what the text begins with

pub begins_name : (z : Text) (b : ℕ) (y : Text) → z ≡ b ∷ y → is_letter b ≡ true → BeginsName z
begins_name z b y e h = subst BeginsName (sym e) h

pub begins_digit : (z : Text) (b : ℕ) (y : Text) → z ≡ b ∷ y → is_letter b ≡ false → is_ascii_digit b ≡ true → BeginsDigit z
begins_digit z b y e letter h = subst BeginsDigit (sym e) (letter, h)

pub begins_quote : (z : Text) (b : ℕ) (y : Text) → z ≡ b ∷ y → is_letter b ≡ false → is_ascii_digit b ≡ false → b ≡ 34 → BeginsQuote z
begins_quote z b y e letter digit h = subst BeginsQuote (sym e) (letter, digit, eq-eqb b 34 h)

pub begins_mark : (z : Text) (b : ℕ) (y : Text) → z ≡ b ∷ y → is_letter b ≡ false → is_ascii_digit b ≡ false → (b ≡ 34 → ⊥) → BeginsMark z
begins_mark z b y e letter digit other = subst BeginsMark (sym e) (letter, digit, false_from_ne_true (b == 34) (λ h. other (eqb-true b 34 h)))

short_step : (v : Bool) (n m : ℕ) → n ≤ m → (if v then suc n else 0) ≤ suc m
short_step true n m le = omega (arith, le)
short_step false n m le = omega arith

run_short : (r : Run) (z : Text) → run_len r z ≤ length z
unfolding run_len
run_short r [] = omega arith
run_short r (b ∷ z) = short_step (goes_on r b) (run_len r z) (length z) (run_short r z)

letter_name : (b : ℕ) → is_letter b ≡ true → is_name_byte b ≡ true
letter_name b h = ap (λ x. x || is_ascii_digit b) h

name_len : (b : ℕ) (y : Text) → is_letter b ≡ true → run_len run.Name (b ∷ y) ≡ suc (run_len run.Name y)
unfolding run_len
name_len b y h = ap (λ v. if v then suc (run_len run.Name y) else 0) (letter_name b h)

digit_len : (b : ℕ) (y : Text) → is_ascii_digit b ≡ true → run_len run.Digits (b ∷ y) ≡ suc (run_len run.Digits y)
unfolding run_len
digit_len b y h = ap (λ v. if v then suc (run_len run.Digits y) else 0) h

-- the bytes of a name
pub name_taken : (z : Text) (n : ℕ) → BeginsName z → n ≡ run_len run.Name z → IsNamed (take n z)
name_taken [] n h e = absurd h
name_taken (b ∷ y) n h e =
    let size : suc (run_len run.Name y) ≡ n = sym (e ∙ name_len b y h) in
    let rest : all_pass is_name_byte (take (run_len run.Name y) y) ≡ true = ap (all_pass is_name_byte) (sym (run_taken run.Name y)) ∙ run_passes is_name_byte y in
    subst (λ k. IsNamed (take k (b ∷ y))) size (h, rest)

pub name_token : (z : Text) (n : ℕ) (token : Token) → BeginsName z → n ≡ run_len run.Name z → token ≡ word_or_name (take n z) → IsToken z token n
name_token [] n token h e is = absurd h
name_token (b ∷ y) n token h e is =
    let m = run_len run.Name y in
    let size : n ≡ suc m = e ∙ name_len b y h in
    let short = run_short run.Name y in
    let f = letter_front b y m h refl in
    record {
      some = omega (arith, size);
      within = omega (arith, size, short);
      front = f ∙ ap (λ k. Some (word_or_name (take k (b ∷ y)), drop k (b ∷ y))) (sym size) ∙ ap (λ x. Some (x, drop n (b ∷ y))) (sym is);
    }

pub number_token : (z : Text) (n k : ℕ) → BeginsDigit z → n ≡ run_len run.Digits z → number_of (take n z) ≡ Some k → IsToken z (t.Number k) n
number_token [] n k h e is = absurd h
number_token (b ∷ y) n k h e is =
    let m = run_len run.Digits y in
    let size : n ≡ suc m = e ∙ digit_len b y h.1 in
    let short = run_short run.Digits y in
    let f = digit_front b y m h.0 h.1 refl in
    let same : number_of (b ∷ take m y) ≡ Some k = ap (λ i. number_of (take i (b ∷ y))) (sym size) ∙ is in
    record {
      some = omega (arith, size);
      within = omega (arith, size, short);
      front = f ∙ ap (option_map (λ i. (t.Number i, drop m y))) same ∙ ap (λ i. Some (t.Number k, drop i (b ∷ y))) (sym size);
    }

pub no_number : (z : Text) (n : ℕ) → BeginsDigit z → n ≡ run_len run.Digits z → number_of (take n z) ≡ None → front z ≡ None
no_number [] n h e is = absurd h
no_number (b ∷ y) n h e is =
    let m = run_len run.Digits y in
    let size : n ≡ suc m = e ∙ digit_len b y h.1 in
    let same : number_of (b ∷ take m y) ≡ None = ap (λ i. number_of (take i (b ∷ y))) (sym size) ∙ is in
    digit_front b y m h.0 h.1 refl ∙ ap (option_map (λ i. (t.Number i, drop m y))) same

pub quoted_token : (z : Text) (n len : ℕ) (token : Token) → BeginsQuote z → quoted_len 0 false (drop 1 z) ≡ Some n → len ≡ n + 2 → token ≡ t.Quoted (take n (drop 1 z))
    → IsToken z token len
quoted_token [] n len token h e size is = absurd h
quoted_token (b ∷ y) n len token h e size is =
    let i = quoted_found 0 false y n e in
    let same : i.len ≡ n = let s = i.sum in omega (arith, s) in
    let within = i.within in
    let two : suc (suc i.len) ≡ len = omega (arith, same, size) in
    record {
      some = omega (arith, size);
      within = omega (arith, same, size, within);
      front =
          quote_front b y h.0 h.1 h.2 ∙ ap (option_map (λ p. (t.Quoted p.0, p.1))) i.found ∙ ap (λ k. Some (t.Quoted (take k y), drop (suc i.len) y)) same
          ∙ ap (λ k. Some (t.Quoted (take n y), drop k (b ∷ y))) two ∙ ap (λ x. Some (x, drop len (b ∷ y))) (sym is);
    }

pub quoted_fits : (z : Text) (n : ℕ) → BeginsQuote z → quoted_len 0 false (drop 1 z) ≡ Some n → n + 2 ≤ length z
quoted_fits [] n h e = absurd h
quoted_fits (b ∷ y) n h e =
    let i = quoted_found 0 false y n e in
    let same = i.sum in
    let within = i.within in
    omega (arith, same, within)

-- what stands before the closing quote can stand between quotes
pub quoted_taken : (z : Text) (n : ℕ) → quoted_len 0 false z ≡ Some n → is_quoted false (take n z) ≡ true
quoted_taken z n e =
    let i = quoted_found 0 false z n e in
    let same : i.len ≡ n = let s = i.sum in omega (arith, s) in
    subst (λ k. is_quoted false (take k z) ≡ true) same i.valid

pub no_quoted : (z : Text) → BeginsQuote z → quoted_len 0 false (drop 1 z) ≡ None → front z ≡ None
no_quoted [] h e = absurd h
no_quoted (b ∷ y) h e = quote_front b y h.0 h.1 h.2 ∙ ap (option_map (λ p. (t.Quoted p.0, p.1))) (quoted_none 0 false y e)

pub mark_token : (z : Text) (m : Mark) (n : ℕ) → BeginsMark z → IsMarkAmong all_marks z (Some (m, n)) → IsToken z (t.Mark m) n
mark_token [] m n h k = absurd h
mark_token (b ∷ y) m n h k = record { some = k.0; within = k.1; front = other_front b y h.0 h.1 h.2 ∙ k.2 }

pub no_mark : (z : Text) → BeginsMark z → IsMarkAmong all_marks z None → front z ≡ None
no_mark [] h k = absurd h
no_mark (b ∷ y) h k = other_front b y h.0 h.1 h.2 ∙ k

pub no_front : (z : Text) → length z < 1 → front z ≡ None
unfolding front
no_front [] lt = refl
no_front (b ∷ z) lt = absurd (omega arith)

pub ruleset front_steps = (begins_name, begins_digit, begins_quote, begins_mark)
