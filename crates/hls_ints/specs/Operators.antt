-- What the operators of C give on integers (C99 6.5.3 to 6.5.14): a value, or the cause for which there is none.
use Rattle.std.specs.Prelude.{ℕ, ◌^◌, Bool, false, ◌&&◌, not, if◌then◌else◌, nat_eq, nat_lt, ℤ, pos, negsuc, ◌+ℤ◌}
use Rattle.std.specs.Prelude.{◌-ℤ◌, ◌*ℤ◌, neg_ℤ, int_lt, int_le, int_div, int_rem, unsigned_abs, bit_and, bit_or, bit_xor, Result, Ok, Err}
use Rattle.std.specs.Result.{result_and}
use Rattle.hls_ints.specs.Residues.{residue_of, floor_quotient, bit_of}
use Rattle.hls_ints.specs.Types.{IntegerType, width_of, in_range, wrapped}
use Rattle.hls_ints.specs.declared.fault.ArithmeticFault.{ArithmeticFault}
use Rattle.hls_ints.specs.declared.fault.ArithmeticFault.TheVariants.{Overflow, Divisor, Shift}

-- what an operation gives whose exact result is z: unsigned arithmetic is modulo 2 to the width (6.2.5),
-- a signed result that its type can't represent is a fault (6.5)
unfoldable pub result_of : ArithmeticFault → IntegerType → ℤ → Result ℤ ArithmeticFault
result_of fault ty z = if ty.signed then (if in_range ty z then Ok z else Err fault) else Ok (wrapped ty z)

-- -a (6.5.3.3)
abbrev pub negation_of : IntegerType → ℤ → Result ℤ ArithmeticFault
negation_of ty a = result_of Overflow ty (neg_ℤ a)

-- a + b, a - b (6.5.6)
abbrev pub sum_of : IntegerType → ℤ → ℤ → Result ℤ ArithmeticFault
sum_of ty a b = result_of Overflow ty (a +ℤ b)

abbrev pub difference_of : IntegerType → ℤ → ℤ → Result ℤ ArithmeticFault
difference_of ty a b = result_of Overflow ty (a -ℤ b)

-- a * b (6.5.5)
abbrev pub product_of : IntegerType → ℤ → ℤ → Result ℤ ArithmeticFault
product_of ty a b = result_of Overflow ty (a *ℤ b)

abbrev pub is_zero : ℤ → Bool
is_zero (pos n) = nat_eq n 0
is_zero (negsuc n) = false

-- a / b, rounded toward zero; the least value by -1 is out of range (6.5.5)
abbrev pub quotient_of : IntegerType → ℤ → ℤ → Result ℤ ArithmeticFault
quotient_of ty a b = if is_zero b then Err Divisor else result_of Overflow ty (int_div a b)

-- a % b, with the sign of a; defined where a / b is (6.5.5)
abbrev pub remainder_of : IntegerType → ℤ → ℤ → Result ℤ ArithmeticFault
remainder_of ty a b = result_and (quotient_of ty a b) (Ok (int_rem a b))

-- whether a value of w bits may be shifted by b (6.5.7)
abbrev pub is_count : ℕ → ℤ → Bool
is_count w (pos n) = nat_lt n w
is_count w (negsuc n) = false

-- a << b: a times 2 ^ b; a negative a, and a signed result out of range, are faults of the shift (6.5.7)
abbrev pub left_shift_of : IntegerType → ℤ → ℤ → Result ℤ ArithmeticFault
left_shift_of ty a b =
    if is_count (width_of ty) b && not (int_lt a (pos 0)) then result_of Shift ty (a *ℤ pos (2 ^ unsigned_abs b))
    else Err Shift

-- a >> b: a over 2 ^ b, rounded down, also for a negative a (6.5.7)
abbrev pub right_shift_of : IntegerType → ℤ → ℤ → Result ℤ ArithmeticFault
right_shift_of ty a b = if is_count (width_of ty) b then Ok (floor_quotient a (2 ^ unsigned_abs b)) else Err Shift

-- ~a: each bit turned (6.5.3.3)
abbrev pub complement_of : IntegerType → ℤ → ℤ
complement_of ty a = wrapped ty (negsuc 0 -ℤ a)

-- an operator on the bits of both operands
abbrev pub on_bits : (ℕ → ℕ → ℕ) → IntegerType → ℤ → ℤ → ℤ
on_bits f ty a b = wrapped ty (pos (f (residue_of (width_of ty) a) (residue_of (width_of ty) b)))

-- a & b, a ^ b, a | b (6.5.10 to 6.5.12)
abbrev pub and_of : IntegerType → ℤ → ℤ → ℤ
and_of = on_bits bit_and

abbrev pub exclusive_or_of : IntegerType → ℤ → ℤ → ℤ
exclusive_or_of = on_bits bit_xor

abbrev pub inclusive_or_of : IntegerType → ℤ → ℤ → ℤ
inclusive_or_of = on_bits bit_or

-- a < b (6.5.8), a == b (6.5.9): the int 1 or 0
abbrev pub less_of : ℤ → ℤ → ℤ
less_of a b = pos (bit_of (int_lt a b))

abbrev pub equal_of : ℤ → ℤ → ℤ
equal_of a b = pos (bit_of (int_le a b && int_le b a))
