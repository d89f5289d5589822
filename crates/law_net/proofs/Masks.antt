-- The mask of all threads enables each.
use Rattle.std.specs.Prelude.{true}
use Rattle.std.proofs.Common.{◌≡◌, ℕ, zero, suc, ◌-◌, ◌/◌, ◌%◌, ◌^◌, ◌<◌, sym, ap, ◌∙◌, arith}
use Rattle.std.proofs.Math.Nat.{div-div-eq-div-mul, pow-succ'}
use Rattle.std.proofs.lemmas.Nat.{pow_pos}
use Rattle.planned_block.proofs.Bits.{same_is}
use Rattle.verilog_meaning.specs.Threads.{bit_of}
use Rattle.circuit.specs.Wiring.{is_enabled}

all_set : (t i : ℕ) → i < t → bit_of (2 ^ t - 1) i ≡ 1
all_set zero i lt = absurd (omega arith)
all_set (suc t) zero lt =
    let p = pow-succ' 2 t in
    let some : 0 < 2 ^ t = pow_pos t in
    omega (arith, p, some)
all_set (suc t) (suc i) lt =
    let p = pow-succ' 2 t in
    let some : 0 < 2 ^ t = pow_pos t in
    let half : (2 ^ suc t - 1) / 2 ≡ 2 ^ t - 1 = omega (arith, p, some) in
    ap (λ q. q % 2)
    (ap (λ d. (2 ^ suc t - 1) / d) (pow-succ' 2 i) ∙ sym (div-div-eq-div-mul (2 ^ suc t - 1) 2 (2 ^ i)) ∙ ap (λ a. a / 2 ^ i) half)
    ∙ all_set t i (omega arith)

pub full_enables : (T i mask : ℕ) → i < T → mask ≡ 2 ^ T - 1 → is_enabled mask i ≡ true
full_enables T i mask lt e = same_is (bit_of mask i) 1 (ap (λ m. bit_of m i) e ∙ all_set T i lt)
