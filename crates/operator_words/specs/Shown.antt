-- What operators on words have to show: the words of what operators of blocks give on integers.
use Rattle.std.specs.Prelude.{◌≡◌, ℕ, ◌-◌, ◌+◌, ◌*◌, ◌/◌, ◌%◌, ◌^◌, ◌≤◌, true, false, if◌then◌else◌, ℤ}
use Rattle.hls_ints.specs.Residues.{residue_of}
use Rattle.hls_ints.specs.Types.{IntegerType, HasType, width_of, bits_32}
use Rattle.verilog_meaning.specs.Readings.{repeated}
use Rattle.hls_ints.specs.Words.{word_sum, word_difference, word_product, word_quotient, word_remainder, signed_quotient, signed_remainder, word_less, signed_less, word_equal}
use Rattle.hls_ints.specs.Words.{word_complement, word_and, word_exclusive_or, word_inclusive_or, left_shift, right_shift, arithmetic_shift}
use Rattle.block_ir.specs.UnaryOperator.{UnaryOperator}
use Rattle.block_ir.specs.UnaryOperator.TheVariants.{Plus, Minus, Complement, Not}
use Rattle.block_ir.specs.BinaryOperator.{BinaryOperator}
use Rattle.block_ir.specs.BinaryOperator.TheVariants.{Multiply, Divide, Remainder, Add, Subtract, ShiftLeft, ShiftRight, Less, Greater, LessEqual, GreaterEqual}
use Rattle.block_ir.specs.BinaryOperator.TheVariants.{Equal, NotEqual, And, ExclusiveOr, InclusiveOr}
use Rattle.block_ir.specs.Arithmetic.{unary_at, binary_at, is_shift}

-- the type int
abbrev pub truth_type : IntegerType
truth_type = record { width = bits_32; signed = true }

-- the type of what an operator gives that works at a type
abbrev pub unary_result : UnaryOperator → IntegerType → IntegerType
unary_result Plus ty = ty
unary_result Minus ty = ty
unary_result Complement ty = ty
unary_result Not ty = truth_type

abbrev pub binary_result : BinaryOperator → IntegerType → IntegerType
binary_result Less ty = truth_type
binary_result Greater ty = truth_type
binary_result LessEqual ty = truth_type
binary_result GreaterEqual ty = truth_type
binary_result Equal ty = truth_type
binary_result NotEqual ty = truth_type
binary_result _ ty = ty

-- by the sign of a type: signed, or unsigned
abbrev pub by_sign : {A : Type 0} → IntegerType → A → A → A
by_sign ty s u = if ty.signed then s else u

-- what the wires of an operator show: words of operands at its type, of w bits; a test is one bit
abbrev pub unary_word : UnaryOperator → IntegerType → ℕ → ℕ
unary_word Plus ty a = a
unary_word Minus ty a = word_difference (width_of ty) 0 a
unary_word Complement ty a = word_complement (width_of ty) a
unary_word Not ty a = word_equal (width_of ty) a 0

abbrev pub less_word : IntegerType → ℕ → ℕ → ℕ
less_word ty a b = by_sign ty (signed_less (width_of ty) a b) (word_less (width_of ty) a b)

abbrev pub binary_word : BinaryOperator → IntegerType → ℕ → ℕ → ℕ
binary_word Multiply ty a b = word_product (width_of ty) a b
binary_word Divide ty a b = by_sign ty (signed_quotient (width_of ty) a b) (word_quotient (width_of ty) a b)
binary_word Remainder ty a b = by_sign ty (signed_remainder (width_of ty) a b) (word_remainder (width_of ty) a b)
binary_word Add ty a b = word_sum (width_of ty) a b
binary_word Subtract ty a b = word_difference (width_of ty) a b
binary_word ShiftLeft ty a b = left_shift (width_of ty) a b
binary_word ShiftRight ty a b = by_sign ty (arithmetic_shift (width_of ty) a b) (right_shift (width_of ty) a b)
binary_word Less ty a b = less_word ty a b
binary_word Greater ty a b = less_word ty b a
binary_word LessEqual ty a b = word_complement 1 (less_word ty b a)
binary_word GreaterEqual ty a b = word_complement 1 (less_word ty a b)
binary_word Equal ty a b = word_equal (width_of ty) a b
binary_word NotEqual ty a b = word_complement 1 (word_equal (width_of ty) a b)
binary_word And ty a b = word_and (width_of ty) a b
binary_word ExclusiveOr ty a b = word_exclusive_or (width_of ty) a b
binary_word InclusiveOr ty a b = word_inclusive_or (width_of ty) a b

-- the word of a value of a type
abbrev pub shown : IntegerType → ℤ → ℕ
shown ty v = residue_of (width_of ty) v

-- UNARY OPERATORS SHOW: at a type, on the word of a value of it, the word of what the operator gives
abbrev pub UnaryShows : Type 0
UnaryShows =
    (operator : UnaryOperator) (ty : IntegerType) (a : ℤ) → HasType ty a →
    unary_word operator ty (shown ty a) ≡ shown (unary_result operator ty) (unary_at operator ty a)

-- the type of the right operand: that of the left one, but for the count of a shift
abbrev pub IsRight : BinaryOperator → IntegerType → IntegerType → Type 0
IsRight operator ty right = is_shift operator ≡ false → right ≡ ty

-- BINARY OPERATORS SHOW: at a type, on the words of values of it, the word of what the operator gives
abbrev pub BinaryShows : Type 0
BinaryShows =
    (operator : BinaryOperator) (ty right : IntegerType) (a b : ℤ) → IsRight operator ty right → HasType ty a → HasType right b →
    binary_word operator ty (shown ty a) (shown right b) ≡ shown (binary_result operator ty) (binary_at operator ty a b)

-- UNARY AND BINARY OPERATORS KEEP TYPES: what they give is a value of the result's type
abbrev pub UnaryKeepsType : Type 0
UnaryKeepsType =
    (operator : UnaryOperator) (ty : IntegerType) (a : ℤ) → HasType ty a → HasType (unary_result operator ty) (unary_at operator ty a)

abbrev pub BinaryKeepsType : Type 0
BinaryKeepsType =
    (operator : BinaryOperator) (ty : IntegerType) (a b : ℤ) → HasType ty a → HasType (binary_result operator ty) (binary_at operator ty a b)

-- CONVERSIONS SHOW: the low bits of a word show its value at a narrower width, and a word with zeros above it, or of a signed type with
-- copies of its sign, shows its value at a wider one
abbrev pub LowBitsShow : Type 0
LowBitsShow = (from to : ℕ) (v : ℤ) → to ≤ from → residue_of from v % 2 ^ to ≡ residue_of to v

abbrev pub ZerosShow : Type 0
ZerosShow = (ty : IntegerType) (to : ℕ) (v : ℤ) → ty.signed ≡ false → width_of ty ≤ to → HasType ty v → shown ty v ≡ residue_of to v

abbrev pub SignShows : Type 0
SignShows =
    (ty : IntegerType) (to : ℕ) (v : ℤ) → ty.signed ≡ true → width_of ty ≤ to → HasType ty v →
    repeated (to - width_of ty) 1 ((shown ty v / 2 ^ (width_of ty - 1)) % 2 ^ 1) * 2 ^ width_of ty + shown ty v ≡ residue_of to v
