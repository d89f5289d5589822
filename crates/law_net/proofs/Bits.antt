-- The bits of the masks of one thread alone, and of none.
use Rattle.std.proofs.Common.{◌≡◌, ◌≢◌, ◌⊎◌, ℕ, ◌+◌, ◌-◌, ◌*◌, ◌/◌, ◌%◌, ◌^◌, ◌<◌, ◌≤◌, ap, ◌∙◌, ⊎_elim, arith}
use Rattle.std.proofs.lemmas.List.Elements.{All-nil}
use Rattle.std.proofs.Math.Nat.{div-eq_of_lt}
use Rattle.std.proofs.lemmas.Nat.{div-mul-add, pow_pos, pow-add, pow_below}
use Rattle.std.proofs.lemmas.Bool.Decides.{nat_tests}
use Rattle.verilog_meaning.specs.Threads.{bit_of, alone, IsChoice}

-- a power is a product of a lower one
below_is : (j i : ℕ) → j ≤ i → 2 ^ i ≡ 2 ^ (i - j) * 2 ^ j + 0
below_is j i l =
    let e : i ≡ (i - j) + j = omega arith in
    let s : 2 ^ ((i - j) + j) ≡ 2 ^ (i - j) * 2 ^ j = pow-add 2 (i - j) j in
    ap (λ x. 2 ^ x) e ∙ s ∙ (let k : 2 ^ (i - j) * 2 ^ j ≡ 2 ^ (i - j) * 2 ^ j + 0 = omega arith in k)

divided : (j i : ℕ) → j ≤ i → 2 ^ i / 2 ^ j ≡ 2 ^ (i - j)
divided j i l = ap (λ a. a / 2 ^ j) (below_is j i l) ∙ div-mul-add (2 ^ (i - j)) (2 ^ j) 0 (pow_pos j)

pub set_here : (i : ℕ) → bit_of (2 ^ i) i ≡ 1
set_here i =
    let e : i - i ≡ 0 = omega arith in
    ap (λ q. q % 2) (divided i i (omega arith) ∙ ap (λ x. 2 ^ x) e)

even : (d : ℕ) → 0 < d → (2 ^ d) % 2 ≡ 0
even d l =
    let e : d ≡ 1 + (d - 1) = omega arith in
    let s : 2 ^ (1 + (d - 1)) ≡ 2 ^ 1 * 2 ^ (d - 1) = pow-add 2 1 (d - 1) in
    ap (λ x. (2 ^ x) % 2) e ∙ ap (λ x. x % 2) s ∙ (let k : (2 * 2 ^ (d - 1)) % 2 ≡ 0 = omega arith in k)

pub not_set : (i j : ℕ) → i ≢ j → bit_of (2 ^ i) j ≡ 0
not_set i j other =
    let d : (i < j) ⊎ (j < i) = grind (arith, nat_tests) in
    ⊎_elim
    (λ (l : i < j). ap (λ q. q % 2) (div-eq_of_lt (pow_below i j l)))
    (λ (l : j < i). ap (λ q. q % 2) (divided j i (omega arith)) ∙ even (i - j) (omega arith)) d

pub none_set : (j : ℕ) → bit_of 0 j ≡ 0
none_set j = ap (λ q. q % 2) (div-eq_of_lt (pow_pos j))

-- the choice of thread i alone is one
pub alone_is_choice : (threads i : ℕ) → i < threads → IsChoice threads (alone i)
alone_is_choice threads i l = (pow_below i threads l, All-nil (λ p. p < 64))
