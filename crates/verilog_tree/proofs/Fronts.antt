-- A token that is followed by a byte that ends it is the front of the text.
use Rattle.std.proofs.Common.{◌≡◌, ℕ, ◌^◌, ◌<◌, [], ◌∷◌, ◌++◌, Option, Some, None, Bool, true, false, refl, sym, ap, ◌∙◌, subst, append_assoc, arith}
use Rattle.std.specs.Prelude.{not, ◌==◌, ◌&&◌, if◌then◌else◌, cond, option_map, nat_lt, decimal, codes}
use Rattle.std.specs.Str.{bytes_eq}
use Rattle.std.specs.Str.Parse.{digits_value}
use Rattle.std.specs.Char.{is_ascii_digit}
use Rattle.std.proofs.lemmas.Bool.{lt-ltb, ltb-true, not-true, or_parts, and_parts}
use Rattle.std.proofs.lemmas.Bool.Decides.{nat_tests}
use Rattle.std.proofs.lemmas.Fmt.{decimal_is_IsNumeral}
use Rattle.std.proofs.lemmas.Slice.Eq.{bytes_eq-Decides}
use Rattle.verilog_tree.specs.declared.token.Word.{Word}
use Rattle.verilog_tree.specs.declared.token.Word.TheVariants as w
use Rattle.verilog_tree.specs.declared.token.Mark.{Mark}
use Rattle.verilog_tree.specs.declared.token.Mark.TheVariants as m
use Rattle.verilog_tree.specs.declared.token.Token.{Token}
use Rattle.verilog_tree.specs.declared.token.Token.TheVariants as t
use Rattle.verilog_tree.specs.Spelling.{Text, word_spelling, all_words, word_among, is_letter, is_name_byte, all_pass, is_no_word, is_name, is_plain, is_quoted}
use Rattle.verilog_tree.specs.Tokens.{mark_spelling, spelling, run_of, after_run, word_by, word_or_name, number_of, with_byte, quoted, front_of, front}
use Rattle.verilog_tree.specs.Tokens.{mark_by, is_token, is_blank, begins_slash, skip}
use Rattle.verilog_tree.proofs.Tests.{digits_of}

-- a byte that goes on with no token before it
abbrev pub separates : ℕ → Bool
separates b = not (is_name_byte b) && (not (b == 61) && (not (b == 60) && (not (b == 62) && not (b == 47))))

separates_name : (b : ℕ) → separates b ≡ true → is_name_byte b ≡ false
separates_name b h = not-true _ (and_parts _ _ h).0

separates_digit : (b : ℕ) → separates b ≡ true → is_ascii_digit b ≡ false
separates_digit b h = (or_parts (is_letter b) (is_ascii_digit b) (separates_name b h)).1

-- ---- runs

run_found : (p : ℕ → Bool) (z : Text) (c : ℕ) (r : Text) → all_pass p z ≡ true → p c ≡ false → run_of p (z ++ (c ∷ r)) ≡ z
run_found p [] c r all stops = ap (λ x. cond x (c ∷ run_of p r) []) stops
run_found p (b ∷ z) c r all stops =
    ap (λ x. cond x (b ∷ run_of p (z ++ (c ∷ r))) []) (and_parts _ _ all).0 ∙ ap (λ l. b ∷ l) (run_found p z c r (and_parts _ _ all).1 stops)

after_found : (p : ℕ → Bool) (z : Text) (c : ℕ) (r : Text) → all_pass p z ≡ true → p c ≡ false → after_run p (z ++ (c ∷ r)) ≡ c ∷ r
after_found p [] c r all stops = ap (λ x. cond x (after_run p r) (c ∷ r)) stops
after_found p (b ∷ z) c r all stops =
    ap (λ x. cond x (after_run p (z ++ (c ∷ r))) (b ∷ (z ++ (c ∷ r)))) (and_parts _ _ all).0 ∙ after_found p z c r (and_parts _ _ all).1 stops

-- ---- names and words

front_letter : (b : ℕ) (z : Text) (c : ℕ) (r : Text) → is_letter b ≡ true → all_pass is_name_byte z ≡ true → separates c ≡ true → front ((b ∷ z) ++ (c ∷ r)) ≡ Some (word_or_name (b ∷ z), c ∷ r)
unfolding front
front_letter b z c r letter all sep =
    let stop = separates_name c sep in
    let tail : Text = z ++ (c ∷ r) in
    let step : front_of (is_letter b) (is_ascii_digit b) (b == 34) b tail ≡ Some (word_or_name (b ∷ run_of is_name_byte tail), after_run is_name_byte tail) =
    ap (λ x. front_of x (is_ascii_digit b) (b == 34) b tail) letter in
    let body : run_of is_name_byte tail ≡ z = run_found is_name_byte z c r all stop in
    let rest : after_run is_name_byte tail ≡ c ∷ r = after_found is_name_byte z c r all stop in
    step ∙ ap (λ l. Some (word_or_name (b ∷ l), after_run is_name_byte tail)) body ∙ ap (λ l. Some (word_or_name (b ∷ z), l)) rest

front_word : (w : Word) (c : ℕ) (r : Text) → separates c ≡ true → front (word_spelling w ++ (c ∷ r)) ≡ Some (t.Word w, c ∷ r)
front_word w.Module c r h = front_letter 109 (codes "odule") c r refl refl h
front_word w.EndModule c r h = front_letter 101 (codes "ndmodule") c r refl refl h
front_word w.Input c r h = front_letter 105 (codes "nput") c r refl refl h
front_word w.Output c r h = front_letter 111 (codes "utput") c r refl refl h
front_word w.Wire c r h = front_letter 119 (codes "ire") c r refl refl h
front_word w.Reg c r h = front_letter 114 (codes "eg") c r refl refl h
front_word w.Assign c r h = front_letter 97 (codes "ssign") c r refl refl h
front_word w.Initial c r h = front_letter 105 (codes "nitial") c r refl refl h
front_word w.Always c r h = front_letter 97 (codes "lways") c r refl refl h
front_word w.PosEdge c r h = front_letter 112 (codes "osedge") c r refl refl h
front_word w.Begin c r h = front_letter 98 (codes "egin") c r refl refl h
front_word w.End c r h = front_letter 101 (codes "nd") c r refl refl h
front_word w.If c r h = front_letter 105 (codes "f") c r refl refl h

no_word : (o : Option Word) (z : Text) → is_no_word o ≡ true → word_by o z ≡ t.Name z
no_word None z h = refl
no_word (Some w) z h = cc

front_name : (n : Text) (c : ℕ) (r : Text) → is_name n ≡ true → separates c ≡ true → front (n ++ (c ∷ r)) ≡ Some (t.Name n, c ∷ r)
front_name [] c r h sep = cc
front_name (b ∷ z) c r h sep =
    let rest = (and_parts (is_letter b) _ h).1 in
    front_letter b z c r (and_parts (is_letter b) _ h).0 (and_parts _ _ rest).0 sep ∙ ap (λ x. Some (x, c ∷ r)) (no_word (word_among all_words (b ∷ z)) (b ∷ z) (and_parts _ _ rest).1)

-- ---- marks

sep_no : (c : ℕ) → separates c ≡ true → ((c == 61) ≡ false) × ((c == 60) ≡ false) × ((c == 62) ≡ false)
sep_no c h =
    let a = (and_parts (not (is_name_byte c)) _ h).1 in
    let b = (and_parts (not (c == 61)) _ a).1 in
    let d = (and_parts (not (c == 60)) _ b).1 in
    (not-true _ (and_parts (not (c == 61)) _ a).0, not-true _ (and_parts (not (c == 60)) _ b).0, not-true _ (and_parts (not (c == 62)) _ d).0)

front_mark : (m : Mark) (c : ℕ) (r : Text) → separates c ≡ true → front (mark_spelling m ++ (c ∷ r)) ≡ Some (t.Mark m, c ∷ r)
unfolding front
front_mark m.OpenRound c r h = refl
front_mark m.CloseRound c r h = refl
front_mark m.OpenSquare c r h = refl
front_mark m.CloseSquare c r h = refl
front_mark m.OpenCurly c r h = refl
front_mark m.CloseCurly c r h = refl
front_mark m.Semicolon c r h = refl
front_mark m.Colon c r h = refl
front_mark m.Comma c r h = refl
front_mark m.Dot c r h = refl
front_mark m.At c r h = refl
front_mark m.Equal c r h = ap (λ x. mark_by (if x then Some r else None) m.EqualEqual (Some (t.Mark m.Equal, c ∷ r))) (sep_no c h).0
front_mark m.LessEqual c r h = refl
front_mark m.Question c r h = refl
front_mark m.Plus c r h = refl
front_mark m.Minus c r h = refl
front_mark m.Star c r h = refl
front_mark m.Slash c r h = refl
front_mark m.Percent c r h = refl
front_mark m.And c r h = refl
front_mark m.Or c r h = refl
front_mark m.Xor c r h = refl
front_mark m.Tilde c r h = refl
front_mark m.EqualEqual c r h = refl
front_mark m.Less c r h =
    ap (λ x. mark_by (if x then Some r else None) m.LessEqual (mark_by (if c == 60 then Some r else None) m.ShiftLeft (Some (t.Mark m.Less, c ∷ r)))) (sep_no c h).0
    ∙ ap (λ x. mark_by (if x then Some r else None) m.ShiftLeft (Some (t.Mark m.Less, c ∷ r))) (sep_no c h).1
front_mark m.ShiftLeft c r h = refl
front_mark m.ShiftRight c r h = ap (λ x. mark_by (if x then Some r else None) m.ArithmeticShiftRight (Some (t.Mark m.ShiftRight, c ∷ r))) (sep_no c h).2
front_mark m.ArithmeticShiftRight c r h = refl
front_mark m.Decimal c r h = refl
front_mark m.SignedDecimal c r h = refl
front_mark m.Signed c r h = refl
front_mark m.Write c r h = refl

-- ---- numbers

no_letter : (b : ℕ) → is_ascii_digit b ≡ true → is_letter b ≡ false
no_letter b h = grind (arith, nat_tests)

number_found : (n : ℕ) → n < 2 ^ 64 → number_of (decimal n) ≡ Some n
number_found n lt =
    let value : digits_value 10 (decimal n) ≡ n = (decimal_is_IsNumeral n lt).1 in
    ap (λ v. if nat_lt v (2 ^ 64) && bytes_eq (decimal v) (decimal n) then Some v else None) value
    ∙ ap (λ x. if x && bytes_eq (decimal n) (decimal n) then Some n else None) (lt-ltb n (2 ^ 64) lt)
    ∙ ap (λ x. if x then Some n else None) ((bytes_eq-Decides (decimal n) (decimal n)).1 refl)

front_digit : (b : ℕ) (z : Text) (c : ℕ) (r : Text) → all_pass is_ascii_digit (b ∷ z) ≡ true → separates c ≡ true
    → front ((b ∷ z) ++ (c ∷ r)) ≡ option_map (λ n. (t.Number n, c ∷ r)) (number_of (b ∷ z))
unfolding front
front_digit b z c r all sep =
    let stop = separates_digit c sep in
    let tail : Text = z ++ (c ∷ r) in
    let first = (and_parts (is_ascii_digit b) _ all).0 in
    let step : front_of (is_letter b) (is_ascii_digit b) (b == 34) b tail ≡ option_map (λ n. (t.Number n, after_run is_ascii_digit tail)) (number_of (b ∷ run_of is_ascii_digit tail)) =
    ap (λ x. front_of x (is_ascii_digit b) (b == 34) b tail) (no_letter b first) ∙ ap (λ x. front_of false x (b == 34) b tail) first in
    let body : run_of is_ascii_digit tail ≡ z = run_found is_ascii_digit z c r (and_parts (is_ascii_digit b) _ all).1 stop in
    let rest : after_run is_ascii_digit tail ≡ c ∷ r = after_found is_ascii_digit z c r (and_parts (is_ascii_digit b) _ all).1 stop in
    step ∙ ap (λ l. option_map (λ n. (t.Number n, after_run is_ascii_digit tail)) (number_of (b ∷ l))) body
    ∙ ap (λ l. option_map (λ n. (t.Number n, l)) (number_of (b ∷ z))) rest

front_number : (n : ℕ) (c : ℕ) (r : Text) → n < 2 ^ 64 → separates c ≡ true → front (decimal n ++ (c ∷ r)) ≡ Some (t.Number n, c ∷ r)
front_number n c r lt sep =
    let ds = digits_of n lt in
    let here : front (decimal n ++ (c ∷ r)) ≡ front ((ds.first ∷ ds.others) ++ (c ∷ r)) = ap (λ l. front (l ++ (c ∷ r))) ds.is in
    here ∙ front_digit ds.first ds.others c r ds.digits sep
    ∙ ap (λ l. option_map (λ k. (t.Number k, c ∷ r)) (number_of l)) (sym ds.is)
    ∙ ap (λ o. option_map (λ k. (t.Number k, c ∷ r)) o) (number_found n lt)

-- ---- quoted texts

quoted_found : (escaped : Bool) (z rest : Text) → is_quoted escaped z ≡ true → quoted escaped (z ++ (34 ∷ rest)) ≡ Some (z, rest)
quoted_found false [] rest h = refl
quoted_found true [] rest h = cc
quoted_found true (b ∷ z) rest h =
    ap (λ x. if x then with_byte b (quoted false (z ++ (34 ∷ rest))) else None) (and_parts (is_plain b) _ h).0
    ∙ ap (with_byte b) (quoted_found false z rest (and_parts (is_plain b) _ h).1)
quoted_found false (b ∷ z) rest h =
    let more = (and_parts (not (b == 34)) _ h).1 in
    let no = not-true (b == 34) (and_parts (not (b == 34)) _ h).0 in
    ap (λ x. if x then Some ([], z ++ (34 ∷ rest)) else (if is_plain b then with_byte b (quoted (b == 92) (z ++ (34 ∷ rest))) else None)) no
    ∙ ap (λ x. if x then with_byte b (quoted (b == 92) (z ++ (34 ∷ rest))) else None) (and_parts (is_plain b) _ more).0
    ∙ ap (with_byte b) (quoted_found (b == 92) z rest (and_parts (is_plain b) _ more).1)

front_quoted : (z rest : Text) → is_quoted false z ≡ true → front ((34 ∷ (z ++ (34 ∷ []))) ++ rest) ≡ Some (t.Quoted z, rest)
unfolding front
front_quoted z rest h =
    ap (λ l. option_map (λ p. (t.Quoted p.0, p.1)) (quoted false l)) (append_assoc z (34 ∷ []) rest)
    ∙ ap (option_map (λ p. (t.Quoted p.0, p.1))) (quoted_found false z rest h)

-- a token and a byte that goes on with none
pub front_token : (x : Token) (c : ℕ) (r : Text) → is_token x ≡ true → separates c ≡ true → front (spelling x ++ (c ∷ r)) ≡ Some (x, c ∷ r)
front_token (t.Word w) c r h sep = front_word w c r sep
front_token (t.Mark m) c r h sep = front_mark m c r sep
front_token (t.Name n) c r h sep = front_name n c r h sep
front_token (t.Number n) c r h sep = front_number n c r (ltb-true n (2 ^ 64) h) sep
front_token (t.Quoted z) c r h sep = front_quoted z (c ∷ r) h

-- ---- what stands before a token

first_no_blank : (b : ℕ) → is_letter b ≡ true → (is_blank b ≡ false) × ((b == 47) ≡ false)
first_no_blank b h = (grind (arith, nat_tests), grind (arith, nat_tests))

digit_no_blank : (b : ℕ) → is_ascii_digit b ≡ true → (is_blank b ≡ false) × ((b == 47) ≡ false)
digit_no_blank b h = (grind (arith, nat_tests), grind (arith, nat_tests))

stays : (b : ℕ) (z : Text) → is_blank b ≡ false → (b == 47) ≡ false → skip false (b ∷ z) ≡ b ∷ z
unfolding skip
stays b z h k =
    ap (λ x. elim x as (λ v. Text) [ true ↦ skip false z | false ↦ elim (b == 47 && begins_slash z) as (λ v. Text) [ true ↦ skip true z | false ↦ b ∷ z ] ]) h
    ∙ ap (λ x. elim (x && begins_slash z) as (λ v. Text) [ true ↦ skip true z | false ↦ b ∷ z ]) k

stays_mark : (m : Mark) (c : ℕ) (r : Text) → separates c ≡ true → skip false (mark_spelling m ++ (c ∷ r)) ≡ mark_spelling m ++ (c ∷ r)
unfolding skip
stays_mark m.Slash c r h =
    let slash = not-true (c == 47) (and_parts (not (c == 62)) _ (and_parts (not (c == 60)) _ (and_parts (not (c == 61)) _ (and_parts (not (is_name_byte c)) _ h).1).1).1).1 in
    ap (λ x. elim x as (λ v. Text) [ true ↦ skip true (c ∷ r) | false ↦ 47 ∷ (c ∷ r) ]) slash
stays_mark _ c r h = refl

stays_word : (w : Word) (z : Text) → skip false (word_spelling w ++ z) ≡ word_spelling w ++ z
unfolding skip
stays_word w.Module z = refl
stays_word _ z = refl

stays_name : (n : Text) (z : Text) → is_name n ≡ true → skip false (n ++ z) ≡ n ++ z
stays_name [] z h = cc
stays_name (b ∷ n) z h = let k = first_no_blank b (and_parts (is_letter b) _ h).0 in stays b (n ++ z) k.0 k.1

stays_number : (n : ℕ) (z : Text) → n < 2 ^ 64 → skip false (decimal n ++ z) ≡ decimal n ++ z
stays_number n z lt =
    let ds = digits_of n lt in
    let k = digit_no_blank ds.first (and_parts (is_ascii_digit ds.first) _ ds.digits).0 in
    let here : skip false ((ds.first ∷ ds.others) ++ z) ≡ (ds.first ∷ ds.others) ++ z = stays ds.first (ds.others ++ z) k.0 k.1 in
    subst (λ l. skip false (l ++ z) ≡ l ++ z) (sym ds.is) here

pub stays_token : (x : Token) (c : ℕ) (r : Text) → is_token x ≡ true → separates c ≡ true → skip false (spelling x ++ (c ∷ r)) ≡ spelling x ++ (c ∷ r)
stays_token (t.Word w) c r h sep = stays_word w (c ∷ r)
stays_token (t.Mark m) c r h sep = stays_mark m c r sep
stays_token (t.Name n) c r h sep = stays_name n (c ∷ r) h
stays_token (t.Number n) c r h sep = stays_number n (c ∷ r) (ltb-true n (2 ^ 64) h)
stays_token (t.Quoted z) c r h sep = stays 34 _ refl refl
