-- The lexeme that is found is the one that the definition speaks of.
use Rattle.std.proofs.Common.{◌≡◌, ℕ, suc, ◌+◌, ◌<◌, ◌≤◌, [], ◌∷◌, ◌++◌, length, take, drop, get_or, Option, Some}
use Rattle.std.proofs.Common.{None, Bool, true, false, refl, sym, ap, ◌∙◌, subst, append_assoc, length-append, length-take-le, zero, eq-eqb, arith}
use Rattle.std.specs.Prelude.{cond, ◌==◌, ◌&&◌, nat_lt, nat_eq, is_some, option_map, codes}
use Rattle.std.specs.List.{starts_with}
use Rattle.std.proofs.Math.Seq.{take-append_seam, drop-append_seam}
use Rattle.std.proofs.lemmas.List.{take-append-drop}
use Rattle.std.proofs.lemmas.Bool.{lt-ltb, ltb-true, and_parts}
use Rattle.c_token.specs.Spelling.{Bytes, punctuator_spelling}
use Rattle.c_token.specs.Constants.{character_of}
use Rattle.c_lexer.specs.declared.lexeme.Class.{Class}
use Rattle.c_lexer.specs.declared.lexeme.Class.TheVariants as c
use Rattle.c_lexer.specs.declared.lexeme.Run.{Run}
use Rattle.c_lexer.specs.declared.lexeme.Run.TheVariants as r
use Rattle.c_lexer.specs.Lexemes.{goes_on, is_splice, is_comment_end, is_text_body, class_at, IsRun, IsOf, IsLexeme}
use Rattle.c_lexer.specs.Finding.{run_len, text_len, block_len, header_len, begins_with, character_span, len_of, Found, found_of, lexeme_at}
use Rattle.c_lexer.proofs.Runs.{run_found, run_cut, run_within, run_some}
use Rattle.c_token.specs.declared.punctuator.Punctuator.{Punctuator}
use Rattle.c_token.specs.Spelling.{punctuator_at}
use Rattle.c_lexer.proofs.Parts.{prefix, first_byte, text_found, text_cut, character_length, punctuator_there, punctuator_some}
use Rattle.c_lexer.proofs.Classes.{Tells, class_tells, some_byte}

-- ---- a lexeme is found

line_found : (bytes rest : Bytes) → IsRun r.Line bytes rest → is_splice rest ≡ false → len_of c.LineComment (bytes ++ rest) ≡ Some (length bytes)
line_found bytes rest run ends =
    let n = run_found r.Line bytes rest run in
    ap (λ m. cond (is_splice (drop m (bytes ++ rest))) None (Some m)) n
    ∙ ap (λ y. cond (is_splice y) None (Some (length bytes))) (drop-append_seam bytes rest)
    ∙ ap (λ x. cond x None (Some (length bytes))) ends

block_found : (inside rest : Bytes) → IsRun r.Block inside (codes "*/" ++ rest) → block_len (inside ++ (codes "*/" ++ rest)) ≡ Some (length inside + 2)
block_found inside rest run =
    let n = run_found r.Block inside (codes "*/" ++ rest) run in
    ap (λ m. cond (is_comment_end (drop m (inside ++ (codes "*/" ++ rest)))) (Some (m + 2)) None) n
    ∙ ap (λ y. cond (is_comment_end y) (Some (length inside + 2)) None) (drop-append_seam inside (codes "*/" ++ rest))

comment_found : (bytes rest inside : Bytes) → bytes ≡ codes "/*" ++ (inside ++ codes "*/")
    → IsRun r.Block inside (codes "*/" ++ rest) → len_of c.BlockComment (bytes ++ rest) ≡ Some (length bytes)
comment_found bytes rest inside e run =
    let whole : drop 2 (bytes ++ rest) ≡ inside ++ (codes "*/" ++ rest) = ap (λ x. drop 2 (x ++ rest)) e ∙ append_assoc inside (codes "*/") rest in
    let long : length inside + 2 + 2 ≡ length bytes = omega (arith, ap length e, length-append inside (codes "*/")) in
    ap (λ y. option_map (λ n. n + 2) (block_len y)) whole ∙ ap (option_map (λ n. n + 2)) (block_found inside rest run) ∙ ap Some long

second_byte : (bytes rest : Bytes) → 2 ≤ length bytes → get_or (bytes ++ rest) 1 0 ≡ get_or bytes 1 0
second_byte [] rest h = absurd (omega arith)
second_byte (a ∷ []) rest h = absurd (omega arith)
second_byte (a ∷ (b ∷ bytes)) rest h = refl

span_some : (w : Bytes) → 3 ≤ character_span w
span_some w = at (get_or w 1 0 == 92) where
  at : (x : Bool) → 3 ≤ cond x 4 3
  at true = omega arith
  at false = omega arith

character_found : (bytes rest : Bytes) → is_some (character_of bytes) ≡ true → len_of c.Character (bytes ++ rest) ≡ Some (length bytes)
character_found bytes rest h =
    let long = character_length bytes h in
    let span : character_span (bytes ++ rest) ≡ length bytes = ap (λ b. cond (b == 92) 4 3) (second_byte bytes rest (omega (arith, long, span_some bytes))) ∙ sym long in
    ap (λ n. cond (is_some (character_of (take n (bytes ++ rest)))) (Some n) None) span
    ∙ ap (λ w. cond (is_some (character_of w)) (Some (length bytes)) None) (take-append_seam bytes rest)
    ∙ ap (λ x. cond x (Some (length bytes)) None) h

literal_found : (bytes rest inside : Bytes) → bytes ≡ 34 ∷ (inside ++ (34 ∷ [])) → is_text_body false inside ≡ true → len_of c.Text (bytes ++ rest) ≡ Some (length bytes)
literal_found bytes rest inside e h =
    let whole : drop 1 (bytes ++ rest) ≡ inside ++ (34 ∷ rest) = ap (λ x. drop 1 (x ++ rest)) e ∙ append_assoc inside (34 ∷ []) rest in
    let long : 1 + length inside + 1 ≡ length bytes = omega (arith, ap length e, length-append inside (34 ∷ [])) in
    ap (text_len 1 false) whole ∙ text_found 1 false inside rest h ∙ ap Some long

header_there : (close : ℕ) (inside rest : Bytes) → 0 < length inside → IsRun (r.Header close) inside (close ∷ rest) → header_len close (inside ++ (close ∷ rest)) ≡ Some (length inside + 1)
header_there close inside rest some run =
    let n = run_found (r.Header close) inside (close ∷ rest) run in
    ap (λ m. cond (nat_lt 0 m && begins_with close (drop m (inside ++ (close ∷ rest)))) (Some (m + 1)) None) n
    ∙ ap (λ y. cond (nat_lt 0 (length inside) && begins_with close y) (Some (length inside + 1)) None) (drop-append_seam inside (close ∷ rest))
    ∙ ap (λ x. cond (x && (close == close)) (Some (length inside + 1)) None) (lt-ltb 0 (length inside) some)
    ∙ ap (λ x. cond x (Some (length inside + 1)) None) (eq-eqb close close refl)

header_found : (close first : ℕ) (bytes rest inside : Bytes) → bytes ≡ first ∷ (inside ++ (close ∷ [])) → 0 < length inside
    → IsRun (r.Header close) inside (close ∷ rest) → len_of (c.Header close) (bytes ++ rest) ≡ Some (length bytes)
header_found close first bytes rest inside e some run =
    let whole : drop 1 (bytes ++ rest) ≡ inside ++ (close ∷ rest) = ap (λ x. drop 1 (x ++ rest)) e ∙ append_assoc inside (close ∷ []) rest in
    let long : length inside + 1 + 1 ≡ length bytes = omega (arith, ap length e, length-append inside (close ∷ [])) in
    ap (λ y. option_map (λ n. n + 1) (header_len close y)) whole ∙ ap (option_map (λ n. n + 1)) (header_there close inside rest some run) ∙ ap Some long

len_found : (k : Class) (bytes rest : Bytes) → IsOf k bytes rest → len_of k (bytes ++ rest) ≡ Some (length bytes)
len_found c.Blank bytes rest h = ap Some (sym h)
len_found c.LineFeed bytes rest h = ap Some (sym h)
len_found c.Hash bytes rest h = ap Some (sym h)
len_found c.Word bytes rest h = ap Some (run_found r.Word bytes rest h)
len_found c.Number bytes rest h = ap Some (run_found r.Number bytes rest h)
len_found c.LineComment bytes rest h = line_found bytes rest h.0 h.1
len_found c.BlockComment bytes rest h = comment_found bytes rest h.0 h.1 h.2
len_found c.Character bytes rest h = character_found bytes rest h
len_found c.Text bytes rest h = literal_found bytes rest h.0 h.1 h.2
len_found (c.Header close) bytes rest h = header_found close h.0 bytes rest h.1 h.2 h.3 h.4
len_found (c.Mark p) bytes rest h = ap (λ x. Some (length x)) (sym h)

pub lexeme_found : (header : Bool) (k : Class) (bytes rest : Bytes) → IsLexeme header k bytes rest → lexeme_at header (bytes ++ rest) ≡ Some (k, length bytes)
unfolding lexeme_at
lexeme_found header k bytes rest h = ap (found_of (bytes ++ rest)) h.0 ∙ ap (option_map (λ n. (k, n))) (len_found k bytes rest h.1)

-- ---- what is found is a lexeme

-- the text is a lexeme of the class, of this length, and a rest
pub record IsCut (k : Class) (z : Bytes) (n : ℕ) : Type 0 where
  pub bytes : Bytes
  pub rest : Bytes
  pub whole : z ≡ bytes ++ rest
  pub len : n ≡ length bytes
  pub is : IsOf k bytes rest
  pub some : 1 ≤ n

abbrev just : ℕ → Option ℕ
just n = Some n

same_number : (m n : ℕ) → just m ≡ just n → m ≡ n
same_number m n h = cc

one_byte : (k : Class) (z : Bytes) (n : ℕ) → ((bytes rest : Bytes) → length bytes ≡ 1 → IsOf k bytes rest) → 1 ≤ length z → just 1 ≡ just n → IsCut k z n
one_byte k [] n is some h = absurd (omega arith)
one_byte k (b ∷ z) n is some h =
    let one = same_number 1 n h in
    record { bytes = b ∷ []; rest = z; whole = refl; len = sym one; is = is (b ∷ []) z refl; some = omega (arith, one) }

run_there : (k : Class) (run : Run) (z : Bytes) (n : ℕ) → ((bytes rest : Bytes) → IsRun run bytes rest → IsOf k bytes rest)
    → goes_on run z ≡ true → just (run_len run z) ≡ just n → IsCut k z n
run_there k run z n is goes h =
    let same = same_number (run_len run z) n h in
    record {
      bytes = take (run_len run z) z;
      rest = drop (run_len run z) z;
      whole = sym (take-append-drop (run_len run z) z);
      len = sym same ∙ sym (length-take-le (run_len run z) z (run_within run z));
      is = is (take (run_len run z) z) (drop (run_len run z) z) (run_cut run z);
      some = omega (arith, same, run_some run z goes);
    }

line_goes_on : (z : Bytes) → z ≡ codes "//" ++ drop 2 z → goes_on r.Line z ≡ true
unfolding goes_on
line_goes_on z h = ap (goes_on r.Line) h

line_at : (z : Bytes) (n : ℕ) (x : Bool) → is_splice (drop (run_len r.Line z) z) ≡ x → goes_on r.Line z ≡ true → cond x None (just (run_len r.Line z)) ≡ just n → IsCut c.LineComment z n
line_at z n true e goes h = cc
line_at z n false e goes h =
    let same = same_number (run_len r.Line z) n h in
    record {
      bytes = take (run_len r.Line z) z;
      rest = drop (run_len r.Line z) z;
      whole = sym (take-append-drop (run_len r.Line z) z);
      len = sym same ∙ sym (length-take-le (run_len r.Line z) z (run_within r.Line z));
      is = (run_cut r.Line z, e);
      some = omega (arith, same, run_some r.Line z goes);
    }

line_cut : (z : Bytes) (n : ℕ) → starts_with nat_eq z (codes "//") ≡ true → len_of c.LineComment z ≡ Some n → IsCut c.LineComment z n
line_cut z n tells h = line_at z n (is_splice (drop (run_len r.Line z) z)) refl (line_goes_on z (prefix z (codes "//") tells)) h

-- what stands behind `/*` is closed
block_at : (y : Bytes) (m : ℕ) (x : Bool) → is_comment_end (drop (run_len r.Block y) y) ≡ x → cond x (just (run_len r.Block y + 2)) None ≡ just m
    → (rest : Bytes) × (drop (run_len r.Block y) y ≡ codes "*/" ++ rest) × (m ≡ run_len r.Block y + 2)
block_at y m true e h = (drop 2 (drop (run_len r.Block y) y), prefix (drop (run_len r.Block y) y) (codes "*/") e, sym (same_number _ m h))
block_at y m false e h = cc

comment_at : (z : Bytes) (n : ℕ) (o : Option ℕ) → z ≡ codes "/*" ++ drop 2 z → block_len (drop 2 z) ≡ o → option_map (λ m. m + 2) o ≡ just n → IsCut c.BlockComment z n
comment_at z n None begins e h = cc
comment_at z n (Some m) begins e h =
    let y : Bytes = drop 2 z in
    let ended = block_at y m (is_comment_end (drop (run_len r.Block y) y)) refl e in
    let inside : Bytes = take (run_len r.Block y) y in
    let rest : Bytes = ended.0 in
    let parts : y ≡ inside ++ (codes "*/" ++ rest) = sym (take-append-drop (run_len r.Block y) y) ∙ ap (λ x. inside ++ x) ended.1 in
    let long : length inside ≡ run_len r.Block y = length-take-le (run_len r.Block y) y (run_within r.Block y) in
    let same = same_number (m + 2) n h in
    record {
      bytes = codes "/*" ++ (inside ++ codes "*/");
      rest = rest;
      whole = begins ∙ ap (λ x. codes "/*" ++ x) (parts ∙ sym (append_assoc inside (codes "*/") rest));
      len = omega (arith, same, long, ended.2, length-append inside (codes "*/"));
      is = (inside, refl, subst (IsRun r.Block inside) ended.1 (run_cut r.Block y));
      some = omega (arith, same);
    }

comment_cut : (z : Bytes) (n : ℕ) → starts_with nat_eq z (codes "/*") ≡ true → len_of c.BlockComment z ≡ Some n → IsCut c.BlockComment z n
comment_cut z n tells h = comment_at z n (block_len (drop 2 z)) (prefix z (codes "/*") tells) refl h

-- the first bytes of a text have the span of the text
span_front : (z : Bytes) (n : ℕ) → 3 ≤ n → character_span (take n z) ≡ character_span z
span_front z zero h = absurd (omega arith)
span_front z (suc zero) h = absurd (omega arith)
span_front [] (suc (suc n)) h = refl
span_front (a ∷ []) (suc (suc n)) h = refl
span_front (a ∷ (b ∷ z)) (suc (suc n)) h = refl

character_at : (z : Bytes) (n : ℕ) (x : Bool) → is_some (character_of (take (character_span z) z)) ≡ x → cond x (just (character_span z)) None ≡ just n → IsCut c.Character z n
character_at z n true e h =
    let same = same_number (character_span z) n h in
    let long : length (take (character_span z) z) ≡ character_span z = character_length (take (character_span z) z) e ∙ span_front z (character_span z) (span_some z) in
    record {
      bytes = take (character_span z) z;
      rest = drop (character_span z) z;
      whole = sym (take-append-drop (character_span z) z);
      len = sym same ∙ sym long;
      is = e;
      some = omega (arith, same, span_some z);
    }
character_at z n false e h = cc

literal_cut : (z : Bytes) (n : ℕ) → begins_with 34 z ≡ true → len_of c.Text z ≡ Some n → IsCut c.Text z n
literal_cut z n tells h =
    let text = text_cut (drop 1 z) false 1 n h in
    record {
      bytes = 34 ∷ (text.0 ++ (34 ∷ []));
      rest = text.1;
      whole = first_byte 34 z tells ∙ ap (λ y. 34 ∷ y) (text.2 ∙ sym (append_assoc text.0 (34 ∷ []) text.1));
      len = omega (arith, text.4, length-append text.0 (34 ∷ []));
      is = (text.0, refl, text.3);
      some = omega (arith, text.4);
    }

header_at : (close : ℕ) (y : Bytes) (m : ℕ) (x : Bool) → (nat_lt 0 (run_len (r.Header close) y) && begins_with close (drop (run_len (r.Header close) y) y)) ≡ x
    → cond x (just (run_len (r.Header close) y + 1)) None ≡ just m
    → (0 < run_len (r.Header close) y) × (rest : Bytes) × (drop (run_len (r.Header close) y) y ≡ close ∷ rest) × (m ≡ run_len (r.Header close) y + 1)
header_at close y m true e h =
    let parts = and_parts (nat_lt 0 (run_len (r.Header close) y)) (begins_with close (drop (run_len (r.Header close) y) y)) e in
    (ltb-true 0 (run_len (r.Header close) y) parts.0, drop 1 (drop (run_len (r.Header close) y) y), first_byte close (drop (run_len (r.Header close) y) y) parts.1, sym (same_number _ m h))
header_at close y m false e h = cc

header_by : (close first : ℕ) (y : Bytes) (n : ℕ) (o : Option ℕ) → header_len close y ≡ o → option_map (λ m. m + 1) o ≡ just n → IsCut (c.Header close) (first ∷ y) n
header_by close first y n None e h = cc
header_by close first y n (Some m) e h =
    let there = header_at close y m _ refl e in
    let inside : Bytes = take (run_len (r.Header close) y) y in
    let rest : Bytes = there.1 in
    let parts : y ≡ inside ++ (close ∷ rest) = sym (take-append-drop (run_len (r.Header close) y) y) ∙ ap (λ x. inside ++ x) there.2 in
    let long : length inside ≡ run_len (r.Header close) y = length-take-le (run_len (r.Header close) y) y (run_within (r.Header close) y) in
    let same = same_number (m + 1) n h in
    record {
      bytes = first ∷ (inside ++ (close ∷ []));
      rest = rest;
      whole = ap (λ x. first ∷ x) (parts ∙ sym (append_assoc inside (close ∷ []) rest));
      len = omega (arith, same, long, there.3, length-append inside (close ∷ []));
      is = (first, inside, refl, omega (arith, long, there.0), subst (IsRun (r.Header close) inside) there.2 (run_cut (r.Header close) y));
      some = omega (arith, same);
    }

header_cut : (close : ℕ) (z : Bytes) (n : ℕ) → 1 ≤ length z → len_of (c.Header close) z ≡ Some n → IsCut (c.Header close) z n
header_cut close [] n some h = absurd (omega arith)
header_cut close (b ∷ z) n some h = header_by close b z n (header_len close z) refl h

mark_cut : (p : Punctuator) (z : Bytes) (n : ℕ) → punctuator_at z ≡ Some p → len_of (c.Mark p) z ≡ Some n → IsCut (c.Mark p) z n
mark_cut p z n tells h =
    let same = same_number (length (punctuator_spelling p)) n h in
    record {
      bytes = punctuator_spelling p;
      rest = drop (length (punctuator_spelling p)) z;
      whole = prefix z (punctuator_spelling p) (punctuator_there z p tells);
      len = sym same;
      is = refl;
      some = omega (arith, same, punctuator_some p);
    }

cut_of : (k : Class) (z : Bytes) (n : ℕ) → 1 ≤ length z → Tells k z → len_of k z ≡ Some n → IsCut k z n
cut_of c.Blank z n some tells h = one_byte c.Blank z n (λ bytes rest e. e) some h
cut_of c.LineFeed z n some tells h = one_byte c.LineFeed z n (λ bytes rest e. e) some h
cut_of c.Hash z n some tells h = one_byte c.Hash z n (λ bytes rest e. e) some h
cut_of c.Word z n some tells h = run_there c.Word r.Word z n (λ bytes rest e. e) tells h
cut_of c.Number z n some tells h = run_there c.Number r.Number z n (λ bytes rest e. e) tells h
cut_of c.LineComment z n some tells h = line_cut z n tells h
cut_of c.BlockComment z n some tells h = comment_cut z n tells h
cut_of c.Character z n some tells h = character_at z n (is_some (character_of (take (character_span z) z))) refl h
cut_of c.Text z n some tells h = literal_cut z n tells h
cut_of (c.Header close) z n some tells h = header_cut close z n some h
cut_of (c.Mark p) z n some tells h = mark_cut p z n tells h

abbrev found_pair : Class → ℕ → Option Found
found_pair k n = Some (k, n)

same_found : (k l : Class) (m n : ℕ) → found_pair k m ≡ found_pair l n → (k ≡ l) × (m ≡ n)
same_found k l m n h =
    let a : Found = (k, m) in
    let b : Found = (l, n) in
    let pair : a ≡ b = cc in
    (ap (λ x. x.0) pair, ap (λ x. x.1) pair)

len_at : (z : Bytes) (k l : Class) (n : ℕ) (o : Option ℕ) → len_of l z ≡ o → option_map (λ m. (l, m)) o ≡ found_pair k n → (l ≡ k) × (len_of l z ≡ Some n)
len_at z k l n None e h = cc
len_at z k l n (Some m) e h = let same = same_found l k m n h in (same.0, e ∙ ap Some same.1)

class_there : (header : Bool) (z : Bytes) (k : Class) (n : ℕ) (o : Option Class) → class_at header z ≡ o
    → found_of z o ≡ found_pair k n → (class_at header z ≡ Some k) × (len_of k z ≡ Some n)
class_there header z k n None e h = cc
class_there header z k n (Some l) e h =
    let len = len_at z k l n (len_of l z) refl h in
    (e ∙ ap Some len.0, subst (λ x. len_of x z ≡ Some n) len.0 len.1)

-- the text is one lexeme of this length, and a rest
pub record IsFound (header : Bool) (k : Class) (z : Bytes) (n : ℕ) : Type 0 where
  pub is : IsLexeme header k (take n z) (drop n z)
  pub some : 1 ≤ n
  pub within : n ≤ length z

pub lexeme_cut : (header : Bool) (z : Bytes) (k : Class) (n : ℕ) → lexeme_at header z ≡ Some (k, n) → IsFound header k z n
unfolding lexeme_at
lexeme_cut header z k n h =
    let there = class_there header z k n (class_at header z) refl h in
    let cut = cut_of k z n (some_byte header z k there.0) (class_tells header z k there.0) there.1 in
    let front : take n z ≡ cut.bytes = ap (λ m. take m z) cut.len ∙ ap (take (length cut.bytes)) cut.whole ∙ take-append_seam cut.bytes cut.rest in
    let back : drop n z ≡ cut.rest = ap (λ m. drop m z) cut.len ∙ ap (drop (length cut.bytes)) cut.whole ∙ drop-append_seam cut.bytes cut.rest in
    record {
      is = (ap (class_at header) (take-append-drop n z) ∙ there.0, subst (λ x. IsOf k x (drop n z)) (sym front) (subst (IsOf k cut.bytes) (sym back) cut.is));
      some = cut.some;
      within = omega (arith, cut.len, ap length cut.whole, length-append cut.bytes cut.rest);
    }
