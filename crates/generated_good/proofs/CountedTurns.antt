-- What main counts with an int: small numbers stay what they are.
use Rattle.std.proofs.Common.{◌≡◌, ℕ, suc, ◌+◌, ◌^◌, ◌<◌, [], refl, ap, ◌∙◌, arith}
use Rattle.std.specs.Prelude.{Bool, true, false, not, if◌then◌else◌, nat_lt, ℤ, pos, ◌+ℤ◌, Ok, Err}
use Rattle.std.proofs.lemmas.Bool.{lt-ltb}
use Rattle.hls_ints.specs.declared.fault.ArithmeticFault.TheVariants.{Overflow}
use Rattle.hls_ints.specs.Residues.{bit_of}
use Rattle.hls_ints.specs.Types.{int_type, wrapped}
use Rattle.hls_ints.specs.Operators.{result_of, is_zero, less_of}
use Rattle.hls_ints.proofs.Conversions.{wrapped-same}
use Rattle.c_program.specs.declared.tree.BinaryOperator.TheVariants.{Add}
use Rattle.thread_semantics.specs.Memory.{Gives}
use Rattle.thread_semantics.specs.Value.{calculated, binary_value}

pub small_int : (n : ℕ) → n < 66 → wrapped int_type (pos n) ≡ pos n
small_int n less = wrapped-same int_type (pos n) (lt-ltb n (2 ^ 31) (omega (arith, less)))

-- whether the test of a loop holds
pub tested : (n most : ℕ) → n < 66 → most < 66 → not (is_zero (less_of (wrapped int_type (pos n)) (wrapped int_type (pos most)))) ≡ nat_lt n most
tested n most l m =
    ap (λ (z : ℤ). not (is_zero (less_of z (wrapped int_type (pos most))))) (small_int n l)
    ∙ ap (λ (z : ℤ). not (is_zero (less_of (pos n) z))) (small_int most m)
    ∙ go (nat_lt n most)
  where
    go : (b : Bool) → not (is_zero (pos (bit_of b))) ≡ b
    go true = refl
    go false = refl

-- one more turn
pub raised_by_one : (n : ℕ) → n < 65 → binary_value Add int_type (pos n) (pos 1) ≡ Gives (pos (suc n)) []
unfolding result_of
raised_by_one n less =
    ap (λ (z : ℤ). calculated (result_of Overflow int_type (z +ℤ wrapped int_type (pos 1)))) (small_int n (omega (arith, less)))
    ∙ ap (λ (z : ℤ). calculated (result_of Overflow int_type (pos n +ℤ z))) (small_int 1 (omega arith))
    ∙ ap (λ (b : Bool). calculated (if b then Ok (pos (n + 1)) else Err Overflow)) (lt-ltb (n + 1) (2 ^ 31) (omega (arith, less)))
    ∙ ap (λ (m : ℕ). Gives (pos m) []) (let e : n + 1 ≡ suc n = omega arith in e)
