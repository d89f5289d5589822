-- The digits of a number read as that number.
use Rattle.std.specs.Prelude.{◌≡◌, ℕ, ◌+◌, ◌-◌, ◌*◌, ◌^◌, ◌<◌, ◌≤◌, suc, true, List, [], ◌∷◌, length, drop, slice_index}
use Rattle.std.specs.Str.{all_ascii_digits}
use Rattle.std.proofs.Common.{ap, sym, ◌∙◌, arith, rules}
use Rattle.std.proofs.Math.Seq.{drop-cons}
use Rattle.std.proofs.lemmas.Fmt.{digits_value-decimal}
use Rattle.std.proofs.lemmas.Str.Parse.{IsNumeralModel, numerals_by_fold}
use Rattle.journal_text.specs.Numbers.{read_on, IsNumber}

pub grows : (n : ℕ) (ds : List ℕ) → n ≤ read_on n ds
grows n [] = omega arith
grows n (c ∷ cs) = let r = grows (10 * n + (c - 48)) cs in omega (arith, r)

own : IsNumeralModel (λ ds. all_ascii_digits ds ≡ true) (read_on 0)
own = numerals_by_fold _ (search rules) read_on (search rules)

pub number_read : (text : List ℕ) (n : ℕ) → IsNumber text n → read_on 0 text ≡ n
number_read text n is = ap (read_on 0) is.is ∙ digits_value-decimal own n (let l = is.few in omega (arith, l))

-- digits that make too large a number
pub too_large : (text : List ℕ) (value k b : ℕ) → k < length text → b ≡ slice_index text k → read_on 0 text ≡ read_on value (drop k text) → 2 ^ 64 ≤ 10 * value + (b - 48) → 2 ^ 64 ≤ read_on 0 text
too_large text value k b l is e large =
    let rest : drop k text ≡ b ∷ drop (suc k) text = drop-cons text k 0 l ∙ ap (λ (n : ℕ). n ∷ drop (suc k) text) (sym is) in
    let whole : read_on 0 text ≡ read_on (10 * value + (b - 48)) (drop (suc k) text) = e ∙ ap (read_on value) rest in
    let more = grows (10 * value + (b - 48)) (drop (suc k) text) in
    omega (arith, whole, more, large)
