-- Marks at the front of a text.
use Rattle.std.specs.Prelude.{◌≡◌, ℕ, zero, suc, ◌+◌, ◌<◌, ◌≤◌, nat_eq, Bool, true, false, ◌==◌, ◌&&◌, if◌then◌else◌, List, [], ◌∷◌, length, take, drop, Option, Some, None}
use Rattle.std.specs.List.{starts_with}
use Rattle.std.specs.Cmp.Lexicographic.{pointwise}
use Rattle.std.specs.Str.{bytes_eq}
use Rattle.std.proofs.Common.{refl, sym, ap, ◌∙◌, get_or, arith}
use Rattle.std.proofs.lemmas.Bool.{eqb-true, eq-eqb, and_parts}
use Rattle.std.proofs.lemmas.List.{drop_more}
use Rattle.verilog_tree.specs.declared.token.Word.{Word}
use Rattle.verilog_tree.specs.declared.token.Mark.{Mark}
use Rattle.verilog_tree.specs.declared.token.Mark.TheVariants as m
use Rattle.verilog_tree.specs.declared.token.Token.TheVariants as t
use Rattle.verilog_tree.specs.Spelling.{Text, word_spelling, word_among}
use Rattle.verilog_tree.specs.Tokens.{mark_spelling, strip, mark_by, mark_among}
use Rattle.verilog_lexer.specs.Runs.{IsMarkAmong}

strip_here : (p z : Text) → starts_with nat_eq z p ≡ true → strip p z ≡ Some (drop (length p) z)
strip_here [] z h = refl
strip_here (p ∷ ps) [] h = cc
strip_here (p ∷ ps) (b ∷ z) h =
    let both = and_parts (nat_eq p b) (pointwise nat_eq ps (take (length ps) z)) h in
    ap (λ x. if x then strip ps z else None) (eq-eqb b p (sym (eqb-true p b both.0))) ∙ strip_here ps z both.1

strip_by : (v : Bool) (rest : Option Text) → (v ≡ true → rest ≡ None) → (if v then rest else None) ≡ None
strip_by true rest h = h refl
strip_by false rest h = refl

strip_elsewhere : (p z : Text) → starts_with nat_eq z p ≡ false → strip p z ≡ None
strip_elsewhere [] z h = cc
strip_elsewhere (p ∷ ps) [] h = refl
strip_elsewhere (p ∷ ps) (b ∷ z) h =
    strip_by (b == p) (strip ps z) (λ e. strip_elsewhere ps z (ap (λ x. x && pointwise nat_eq ps (take (length ps) z)) (sym (eq-eqb p b (sym (eqb-true b p e)))) ∙ h))

starts_long : (p z : Text) → starts_with nat_eq z p ≡ true → length p ≤ length z
starts_long [] z h = omega arith
starts_long (p ∷ ps) [] h = cc
starts_long (p ∷ ps) (b ∷ z) h = let more = starts_long ps z (and_parts (nat_eq p b) (pointwise nat_eq ps (take (length ps) z)) h).1 in omega (arith, more)

mark_here : (x : Mark) (xs : List Mark) (z : Text) → starts_with nat_eq z (mark_spelling x) ≡ true
    → mark_among (x ∷ xs) z ≡ Some (t.Mark x, drop (length (mark_spelling x)) z)
mark_here x xs z h = ap (λ o. mark_by o x (mark_among xs z)) (strip_here (mark_spelling x) z h)

mark_later : (x : Mark) (xs : List Mark) (z : Text) → starts_with nat_eq z (mark_spelling x) ≡ false → mark_among (x ∷ xs) z ≡ mark_among xs z
mark_later x xs z h = ap (λ o. mark_by o x (mark_among xs z)) (strip_elsewhere (mark_spelling x) z h)

mark_long : (x : Mark) → 0 < length (mark_spelling x)
mark_long m.Slash = omega arith
mark_long _ = omega arith

-- ---- one more of a list

word_step : (ws : List Word) (k : ℕ) (d : Word) (z : Text) → k < length ws → word_among (drop k ws) z ≡ (if bytes_eq z (word_spelling (get_or ws k d)) then Some
    (get_or ws k d) else word_among (drop (k + 1) ws) z)
word_step [] k d z lt = absurd (omega arith)
word_step (w ∷ ws) zero d z lt = refl
word_step (w ∷ ws) (suc k) d z lt =
    word_step ws k d z (omega arith) ∙ ap (λ n. if bytes_eq z (word_spelling (get_or ws k d)) then Some (get_or ws k d) else word_among (drop n (w ∷ ws)) z) (shifted k) where
      shifted : (n : ℕ) → suc (n + 1) ≡ suc n + 1
      shifted n = omega arith

module _ (ws : List Word) (k : ℕ) (d w : Word) (z : Text) (whole : Option Word) (left : whole ≡ word_among (drop k ws) z) (is : w ≡ get_or ws k d) (lt : k < length ws) where
  pub word_here : bytes_eq z (word_spelling w) ≡ true → whole ≡ Some w
  word_here h =
      left ∙ word_step ws k d z lt ∙ ap (λ x. if bytes_eq z (word_spelling x) then Some x else word_among (drop (k + 1) ws) z) (sym is)
      ∙ ap (λ v. if v then Some w else word_among (drop (k + 1) ws) z) h

  pub word_later : bytes_eq z (word_spelling w) ≡ false → whole ≡ word_among (drop (k + 1) ws) z
  word_later h =
      left ∙ word_step ws k d z lt ∙ ap (λ x. if bytes_eq z (word_spelling x) then Some x else word_among (drop (k + 1) ws) z) (sym is)
      ∙ ap (λ v. if v then Some w else word_among (drop (k + 1) ws) z) h

module _ (ms : List Mark) (k : ℕ) (d m : Mark) (z : Text) (left : mark_among ms z ≡ mark_among (drop k ms) z) (is : m ≡ get_or ms k d) (lt : k < length ms) where
  begins : drop k ms ≡ m ∷ drop (k + 1) ms
  begins = drop_more ms k d lt ∙ ap (λ x. x ∷ drop (k + 1) ms) (sym is)

  pub mark_found : starts_with nat_eq z (mark_spelling m) ≡ true → IsMarkAmong ms z (Some (m, length (mark_spelling m)))
  mark_found h = (mark_long m, starts_long (mark_spelling m) z h, left ∙ ap (λ l. mark_among l z) begins ∙ mark_here m (drop (k + 1) ms) z h)

  pub mark_passed : starts_with nat_eq z (mark_spelling m) ≡ false → mark_among ms z ≡ mark_among (drop (k + 1) ms) z
  mark_passed h = left ∙ ap (λ l. mark_among l z) begins ∙ mark_later m (drop (k + 1) ms) z h
