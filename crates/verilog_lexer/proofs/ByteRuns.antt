-- Runs of bytes, and what they spell.
use Rattle.std.specs.Prelude.{◌≡◌, ℕ, suc, ◌+◌, ◌<◌, Bool, true, false, not, ◌==◌, if◌then◌else◌, [], ◌∷◌, length, take, drop, Some, None}
use Rattle.std.proofs.Common.{refl, ap, ◌∙◌, arith}
use Rattle.std.proofs.lemmas.Bool.{and_from}
use Rattle.verilog_tree.specs.Spelling.{Text, all_pass, all_words, word_among, is_no_word, is_letter, is_name_byte, is_name, is_plain, is_quoted}
use Rattle.verilog_tree.specs.Tokens.{run_of, after_run, with_byte, quoted}
use Rattle.verilog_lexer.specs.declared.runs.Run.{Run}
use Rattle.verilog_lexer.specs.Runs.{goes_on, run_len, quoted_len, IsNamed}

-- ---- runs

run_step : (p : ℕ → Bool) (b : ℕ) (z : Text) (n : ℕ) (v : Bool) → run_of p z ≡ take n z → (if v then b ∷ run_of p z else []) ≡ take (if v then suc n else 0) (b ∷ z)
run_step p b z n true e = ap (λ l. b ∷ l) e
run_step p b z n false e = refl

pub run_taken : (r : Run) (z : Text) → run_of (goes_on r) z ≡ take (run_len r z) z
unfolding run_len
run_taken r [] = refl
run_taken r (b ∷ z) = run_step (goes_on r) b z (run_len r z) (goes_on r b) (run_taken r z)

behind_step : (p : ℕ → Bool) (b : ℕ) (z : Text) (n : ℕ) (v : Bool) → after_run p z ≡ drop n z → (if v then after_run p z else b ∷ z) ≡ drop (if v then suc n else 0) (b ∷ z)
behind_step p b z n true e = e
behind_step p b z n false e = refl

pub run_dropped : (r : Run) (z : Text) → after_run (goes_on r) z ≡ drop (run_len r z) z
unfolding run_len
run_dropped r [] = refl
run_dropped r (b ∷ z) = behind_step (goes_on r) b z (run_len r z) (goes_on r b) (run_dropped r z)

pass_step : (p : ℕ → Bool) (b : ℕ) (z : Text) (v : Bool) → p b ≡ v → all_pass p (run_of p z) ≡ true → all_pass p (if v then b ∷ run_of p z else []) ≡ true
pass_step p b z true e h = and_from (p b) _ e h
pass_step p b z false e h = refl

pub run_passes : (p : ℕ → Bool) (z : Text) → all_pass p (run_of p z) ≡ true
run_passes p [] = refl
run_passes p (b ∷ z) = pass_step p b z (p b) refl (run_passes p z)

-- what is no word is a name
pub name_valid : (z : Text) → IsNamed z → word_among all_words z ≡ None → is_name z ≡ true
name_valid [] h none = absurd h
name_valid (b ∷ z) h none = and_from (is_letter b) _ h.0 (and_from (all_pass is_name_byte z) _ h.1 (ap is_no_word none))

-- ---- quoted texts

-- so many bytes, with n more, stand before the closing quote
pub record Inside (n : ℕ) (escaped : Bool) (z : Text) (k : ℕ) : Type 0 where
  pub len : ℕ
  pub sum : k ≡ n + len
  pub within : len < length z
  pub found : quoted escaped z ≡ Some (take len z, drop (suc len) z)
  pub valid : is_quoted escaped (take len z) ≡ true

quote_open : (n : ℕ) (b : ℕ) (z : Text) (k : ℕ) → (v : Bool) → is_plain b ≡ v → (if v then quoted_len (n + 1) false z else None) ≡ Some k
    → (quoted_len (n + 1) false z ≡ Some k → Inside (n + 1) false z k) → Inside n true (b ∷ z) k
quote_open n b z k false e h go = cc
quote_open n b z k true e h go =
    let i = go h in
    record {
      len = suc i.len;
      sum = omega (arith, i.sum);
      within = omega (arith, i.within);
      found = ap (λ x. if x then with_byte b (quoted false z) else None) e ∙ ap (with_byte b) i.found;
      valid = and_from (is_plain b) _ e i.valid;
    }

quote_plain : (n : ℕ) (b : ℕ) (z : Text) (k : ℕ) → (b == 34) ≡ false → (v : Bool) → is_plain b ≡ v → (if v then quoted_len (n + 1) (b == 92) z else None) ≡ Some k
    → (quoted_len (n + 1) (b == 92) z ≡ Some k → Inside (n + 1) (b == 92) z k) → Inside n false (b ∷ z) k
quote_plain n b z k other false e h go = cc
quote_plain n b z k other true e h go =
    let i = go h in
    record {
      len = suc i.len;
      sum = omega (arith, i.sum);
      within = omega (arith, i.within);
      found =
          ap (λ x. if x then Some ([], z) else (if is_plain b then with_byte b (quoted (b == 92) z) else None)) other
          ∙ ap (λ x. if x then with_byte b (quoted (b == 92) z) else None) e ∙ ap (with_byte b) i.found;
      valid = and_from (not (b == 34)) _ (ap not other) (and_from (is_plain b) _ e i.valid);
    }

quote_any : (n : ℕ) (b : ℕ) (z : Text) (k : ℕ) (v : Bool) → (b == 34) ≡ v → (if v then Some n else (if is_plain b then quoted_len (n + 1) (b == 92) z else None)) ≡ Some k
    → (quoted_len (n + 1) (b == 92) z ≡ Some k → Inside (n + 1) (b == 92) z k) → Inside n false (b ∷ z) k
quote_any n b z k true e h go =
    let same : n ≡ k = cc in
    record {
      len = 0;
      sum = omega (arith, same);
      within = omega arith;
      found = ap (λ x. if x then Some ([], z) else (if is_plain b then with_byte b (quoted (b == 92) z) else None)) e;
      valid = refl;
    }
quote_any n b z k false e h go = quote_plain n b z k e (is_plain b) refl h go

pub quoted_found : (n : ℕ) (escaped : Bool) (z : Text) (k : ℕ) → quoted_len n escaped z ≡ Some k → Inside n escaped z k
unfolding quoted_len
quoted_found n escaped [] k h = cc
quoted_found n true (b ∷ z) k h = quote_open n b z k (is_plain b) refl h (quoted_found (n + 1) false z k)
quoted_found n false (b ∷ z) k h = quote_any n b z k (b == 34) refl h (quoted_found (n + 1) (b == 92) z k)

none_step : (n : ℕ) (b : ℕ) (next : Bool) (z : Text) (v : Bool) → (if v then quoted_len (n + 1) next z else None) ≡ None → (quoted_len (n + 1) next z ≡ None
    → quoted next z ≡ None)
    → (if v then with_byte b (quoted next z) else None) ≡ None
none_step n b next z true h go = ap (with_byte b) (go h)
none_step n b next z false h go = refl

none_any : (n : ℕ) (b : ℕ) (z : Text) (v : Bool) → (if v then Some n else (if is_plain b then quoted_len (n + 1) (b == 92) z else None)) ≡ None
    → (quoted_len (n + 1) (b == 92) z ≡ None → quoted (b == 92) z ≡ None) → (if v then Some ([], z) else (if is_plain b then with_byte b (quoted (b == 92) z) else None)) ≡ None
none_any n b z true h go = cc
none_any n b z false h go = none_step n b (b == 92) z (is_plain b) h go

pub quoted_none : (n : ℕ) (escaped : Bool) (z : Text) → quoted_len n escaped z ≡ None → quoted escaped z ≡ None
unfolding quoted_len
quoted_none n escaped [] h = refl
quoted_none n true (b ∷ z) h = none_step n b false z (is_plain b) h (quoted_none (n + 1) false z)
quoted_none n false (b ∷ z) h = none_any n b z (b == 34) h (quoted_none (n + 1) (b == 92) z)
