-- The digits of a number tell it.
use Rattle.std.proofs.Common.{◌≡◌, ℕ, ◌+◌, ◌*◌, ◌/◌, ◌%◌, ◌<◌, ◌^◌, Some, [], ◌∷◌, ap, ◌∙◌, arith, fold}
use Rattle.std.specs.Prelude.{decimal}
use Rattle.std.proofs.lemmas.Bool.Decides.{nat_tests}
use Rattle.std.proofs.lemmas.Fmt.{decimal_by_steps}
use Rattle.std.proofs.lemmas.List.Sums.{fold-append}
use Rattle.std.proofs.lemmas.Nat.{div-add-mod'}
use Rattle.module_sound.specs.Names.{number_behind}

next_digit : (a d : ℕ) → d < 10 → number_behind (Some a) (48 + d) ≡ Some (a * 10 + d)
next_digit a d less = grind (arith, nat_tests)

-- the digits of a number tell it
pub digits_tell : (n : ℕ) → n < 2 ^ 64 → fold number_behind (Some 0) (decimal n) ≡ Some n
digits_tell =
    decimal_by_steps (λ k ds. fold number_behind (Some 0) ds ≡ Some k) (λ k less. next_digit 0 k less ∙ ap Some (let e : 0 * 10 + k ≡ k = omega arith in e))
    (λ k ds many before.
    fold-append number_behind (Some 0) ds ((48 + k % 10) ∷ [])
    ∙ ap (λ s. number_behind s (48 + k % 10)) before
    ∙ next_digit (k / 10) (k % 10) (omega arith)
    ∙ ap Some (div-add-mod' k 10))
