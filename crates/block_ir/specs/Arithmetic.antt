-- What an operator gives in hardware, on all operands. Where C gives a value it is the same.
use Rattle.std.specs.Prelude.{◌^◌, Bool, if◌then◌else◌, ℤ, pos, negsuc, ◌+ℤ◌, ◌-ℤ◌, ◌*ℤ◌, neg_ℤ, int_lt, int_le, int_div, int_rem, unsigned_abs}
use Rattle.hls_ints.specs.Residues.{floor_quotient, bit_of}
use Rattle.hls_ints.specs.Types.{IntegerType, width_of, wrapped}
use Rattle.hls_ints.specs.Operators.{is_zero, is_count, complement_of, and_of, exclusive_or_of, inclusive_or_of, less_of, equal_of}
use Rattle.c_program.specs.declared.tree.UnaryOperator.{UnaryOperator}
use Rattle.c_program.specs.declared.tree.UnaryOperator.TheVariants.{Plus, Minus, Complement, Not}
use Rattle.c_program.specs.declared.tree.BinaryOperator.{BinaryOperator}
use Rattle.c_program.specs.declared.tree.BinaryOperator.TheVariants.{Multiply, Divide, Remainder, Add, Subtract, ShiftLeft, ShiftRight}
use Rattle.c_program.specs.declared.tree.BinaryOperator.TheVariants.{Less, Greater, LessEqual, GreaterEqual, Equal, NotEqual, And, ExclusiveOr, InclusiveOr}

abbrev pub truth : Bool → ℤ
truth b = pos (bit_of b)

-- at the type ty, on a value of any type
abbrev pub unary_at : UnaryOperator → IntegerType → ℤ → ℤ
unary_at Plus ty a = a
unary_at Minus ty a = wrapped ty (neg_ℤ a)
unary_at Complement ty a = complement_of ty a
unary_at Not ty a = truth (is_zero a)

-- 0 where the divisor is 0
abbrev pub guarded : ℤ → ℤ → ℤ
guarded b z = if is_zero b then pos 0 else z

-- a count that is too large, or negative, leaves zeros, or the sign
abbrev pub sign_fill : ℤ → ℤ
sign_fill a = if int_lt a (pos 0) then negsuc 0 else pos 0

abbrev pub shifted_left : IntegerType → ℤ → ℤ → ℤ
shifted_left ty a b = if is_count (width_of ty) b then wrapped ty (a *ℤ pos (2 ^ unsigned_abs b)) else pos 0

abbrev pub shifted_right : IntegerType → ℤ → ℤ → ℤ
shifted_right ty a b = if is_count (width_of ty) b then floor_quotient a (2 ^ unsigned_abs b) else sign_fill a

-- at the type ty, on values of it; the count of a shift has a type of its own
abbrev pub binary_at : BinaryOperator → IntegerType → ℤ → ℤ → ℤ
binary_at Multiply ty a b = wrapped ty (a *ℤ b)
binary_at Divide ty a b = guarded b (wrapped ty (int_div a b))
binary_at Remainder ty a b = guarded b (int_rem a b)
binary_at Add ty a b = wrapped ty (a +ℤ b)
binary_at Subtract ty a b = wrapped ty (a -ℤ b)
binary_at ShiftLeft ty a b = shifted_left ty a b
binary_at ShiftRight ty a b = shifted_right ty a b
binary_at Less ty a b = less_of a b
binary_at Greater ty a b = less_of b a
binary_at LessEqual ty a b = truth (int_le a b)
binary_at GreaterEqual ty a b = truth (int_le b a)
binary_at Equal ty a b = equal_of a b
binary_at NotEqual ty a b = truth (is_zero (equal_of a b))
binary_at And ty a b = and_of ty a b
binary_at ExclusiveOr ty a b = exclusive_or_of ty a b
binary_at InclusiveOr ty a b = inclusive_or_of ty a b

abbrev pub is_shift : BinaryOperator → Bool
is_shift ShiftLeft = Bool.true
is_shift ShiftRight = Bool.true
is_shift _ = Bool.false

-- what an operation gives: its operands are converted to its type first
abbrev pub unary_total : UnaryOperator → IntegerType → ℤ → ℤ
unary_total operator ty a = unary_at operator ty (wrapped ty a)

abbrev pub binary_total : BinaryOperator → IntegerType → ℤ → ℤ → ℤ
binary_total operator ty a b = binary_at operator ty (wrapped ty a) (if is_shift operator then b else wrapped ty b)
