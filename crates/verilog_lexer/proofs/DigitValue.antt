-- The number that digits spell.
use Rattle.std.specs.Prelude.{◌≡◌, ℕ, ◌+◌, ◌-◌, ◌*◌, ◌^◌, ◌<◌, ◌≤◌, true, false, ◌&&◌, nat_lt, if◌then◌else◌, [], ◌∷◌, Some, None, decimal}
use Rattle.std.specs.Str.{bytes_eq, all_ascii_digits}
use Rattle.std.specs.Str.Parse.{digits_value}
use Rattle.std.proofs.Common.{sym, ap, ◌∙◌, arith, rules}
use Rattle.std.proofs.lemmas.Bool.{ltb-true, lt-ltb, and_parts, cond-false, false_from_ne_true}
use Rattle.std.proofs.lemmas.Fmt.{digits_value-decimal, decimal_is_IsNumeral}
use Rattle.std.proofs.lemmas.Slice.Eq.{bytes_eq-Decides}
use Rattle.std.proofs.lemmas.Str.Parse.{IsNumeralModel, numerals_by_fold}
use Rattle.verilog_tree.specs.Spelling.{Text}
use Rattle.verilog_tree.specs.Tokens.{number_of}
use Rattle.verilog_lexer.specs.Runs.{read_on}

grows : (n : ℕ) (z : Text) → n ≤ read_on n z
grows n [] = omega arith
grows n (c ∷ cs) = let r = grows (10 * n + (c - 48)) cs in omega (arith, r)

-- digits that make too large a number
pub too_large : (n value b : ℕ) (z : Text) → n ≡ read_on value (b ∷ z) → 2 ^ 64 ≤ 10 * value + (b - 48) → 2 ^ 64 ≤ n
too_large n value b z e large = let more = grows (10 * value + (b - 48)) z in omega (arith, e, more, large)

own : IsNumeralModel (λ ds. all_ascii_digits ds ≡ true) (read_on 0)
own = numerals_by_fold _ (search rules) read_on (search rules)

-- digits that spell a number count up to it
counted : (z : Text) (n : ℕ) → n < 2 ^ 64 → decimal n ≡ z → read_on 0 z ≡ n
counted z n small e = ap (read_on 0) (sym e) ∙ digits_value-decimal own n small

valued : (z : Text) (n : ℕ) → n < 2 ^ 64 → decimal n ≡ z → digits_value 10 z ≡ n
valued z n small e = ap (digits_value 10) (sym e) ∙ (decimal_is_IsNumeral n small).1

pub written : (z : Text) (n : ℕ) → n < 2 ^ 64 → bytes_eq (decimal n) z ≡ true → number_of z ≡ Some n
written z n small e =
    let same : decimal n ≡ z = (bytes_eq-Decides (decimal n) z).0 e in
    ap (λ v. if nat_lt v (2 ^ 64) && bytes_eq (decimal v) z then Some v else None) (valued z n small same)
    ∙ ap (λ x. if x && bytes_eq (decimal n) z then Some n else None) (lt-ltb n (2 ^ 64) small)
    ∙ ap (λ x. if x then Some n else None) e

unwritten : (z : Text) → ((n : ℕ) → n < 2 ^ 64 → decimal n ≡ z → ⊥) → number_of z ≡ None
unwritten z never = cond-false _ (Some (digits_value 10 z)) None (false_from_ne_true _ (λ h.
    let both = and_parts (nat_lt (digits_value 10 z) (2 ^ 64)) (bytes_eq (decimal (digits_value 10 z)) z) h in
    never (digits_value 10 z) (ltb-true _ _ both.0) ((bytes_eq-Decides _ _).0 both.1)))

pub differs : (z : Text) (n : ℕ) → n ≡ read_on 0 z → bytes_eq (decimal n) z ≡ false → number_of z ≡ None
differs z n is other = unwritten z (λ m small e.
    let same : n ≡ m = is ∙ counted z m small e in
    let yes : bytes_eq (decimal n) z ≡ true = (bytes_eq-Decides (decimal n) z).1 (ap decimal same ∙ e) in
    cc (yes, other))

pub large : (z : Text) → 2 ^ 64 ≤ read_on 0 z → number_of z ≡ None
large z big = unwritten z (λ m small e. let same = counted z m small e in omega (arith, same, small, big))
