-- The masks of one thread alone.
use Rattle.std.proofs.Common.{◌≡◌, ◌≢◌, ℕ, ◌+◌, ◌-◌, ◌*◌, ◌/◌, ◌%◌, ◌^◌, ◌<◌, ap, ◌∙◌, arith}
use Rattle.std.proofs.lemmas.List.Elements.{All-nil}
use Rattle.std.proofs.lemmas.Nat.{div-mul-add, pow_pos, pow-add, pow_below}
use Rattle.verilog_meaning.specs.Threads.{bit_of, alone, IsChoice}

pub set_here : (i : ℕ) → bit_of (2 ^ i) i ≡ 1
set_here i =
    let o : 0 < 2 ^ i = pow_pos i in
    let e : 2 ^ i ≡ 1 * 2 ^ i + 0 = omega arith in
    ap (λ q. q % 2) (ap (λ a. a / 2 ^ i) e ∙ div-mul-add 1 (2 ^ i) 0 o)

pub first_not_set : (i : ℕ) → i ≢ 0 → bit_of (2 ^ i) 0 ≡ 0
first_not_set i other =
    let e : i ≡ 1 + (i - 1) = omega (arith, other) in
    let s : 2 ^ (1 + (i - 1)) ≡ 2 ^ 1 * 2 ^ (i - 1) = pow-add 2 1 (i - 1) in
    let t : 2 ^ i ≡ (2 ^ i) * 1 + 0 = omega arith in
    ap (λ q. q % 2) (ap (λ a. a / 1) t ∙ div-mul-add (2 ^ i) 1 0 (omega arith))
    ∙ ap (λ x. (2 ^ x) % 2) e ∙ ap (λ x. x % 2) s ∙ (let k : (2 * 2 ^ (i - 1)) % 2 ≡ 0 = omega arith in k)

-- the choice of thread i alone is one
pub alone_is_choice : (threads i : ℕ) → i < threads → IsChoice threads (alone i)
alone_is_choice threads i l = (pow_below i threads l, All-nil (λ p. p < 64))
