-- Constants and constant expressions (C99 6.4.4, 6.6): constants and operators, without short circuits and without an
-- undefined step.
use Rattle.std.specs.Prelude.{ℕ, ◌+◌, min, Bool, true, false, if◌then◌else◌, Option, Some, None, option_map, ℤ, pos, fold}
use Rattle.std.specs.Result.{result_ok}
use Rattle.hls_ints.specs.Types.{IntegerType, int_type, unsigned_int, long_int, unsigned_long, promoted, usual_type, wrapped}
use Rattle.hls_ints.specs.Operators.{negation_of, sum_of, difference_of, product_of, quotient_of, remainder_of, left_shift_of}
use Rattle.hls_ints.specs.Operators.{right_shift_of, complement_of, and_of, exclusive_or_of, inclusive_or_of, less_of, equal_of, is_zero}
use Rattle.hls_ints.specs.Residues.{bit_of}
use Rattle.c_token.specs.declared.constant.Constant.{Constant}
use Rattle.c_token.specs.declared.constant.Constant.TheVariants as constant
use Rattle.c_token.specs.declared.constant.ConstantType.{ConstantType}
use Rattle.c_token.specs.declared.constant.ConstantType.TheVariants as ct
use Rattle.c_tree.specs.declared.expression.UnaryOperator.{UnaryOperator}
use Rattle.c_tree.specs.declared.expression.UnaryOperator.TheVariants as u
use Rattle.c_tree.specs.declared.expression.BinaryOperator.{BinaryOperator}
use Rattle.c_tree.specs.declared.expression.BinaryOperator.TheVariants as b
use Rattle.c_tree.specs.declared.expression.Expression.{Expression}
use Rattle.c_tree.specs.declared.expression.Term.{Term}
use Rattle.c_tree.specs.declared.expression.Argument.TheOpen.{Form-F}
use Rattle.c_tree.specs.declared.expression.Argument.TheFolds.{fold-Expression, fold-Term}
use Rattle.c_rules.specs.Specifiers.{c_type, plain_integer}
use Rattle.c_rules.specs.declared.constants.Typed.{Typed}
use Rattle.c_rules.specs.declared.constants.Constancy.{Constancy}
use Rattle.c_rules.specs.declared.constants.Constancy.TheVariants as is

abbrev pub constant_type : ConstantType → IntegerType
constant_type ct.Int = int_type
constant_type ct.Unsigned = unsigned_int
constant_type ct.Long = long_int
constant_type ct.UnsignedLong = unsigned_long

abbrev pub typed : IntegerType → ℤ → Typed
typed ty number = record { ty = ty; number = number }

abbrev pub typed_if : IntegerType → Option ℤ → Option Typed
typed_if ty None = None
typed_if ty (Some number) = Some (typed ty number)

abbrev pub constant_value : Constant → Option Typed
constant_value (constant.Typed value ty) = Some (typed (constant_type ty) (pos value))
constant_value constant.TooLarge = None

-- 1 for 0, else 0
abbrev pub opposite : ℤ → ℤ
opposite z = pos (bit_of (is_zero z))

-- a unary operator on a value of the promoted type (6.5.3.3)
abbrev pub unary_value : UnaryOperator → IntegerType → ℤ → Option ℤ
unary_value u.Plus ty a = Some a
unary_value u.Minus ty a = result_ok (negation_of ty a)
unary_value u.Complement ty a = Some (complement_of ty a)
unary_value u.Not ty a = Some (opposite a)

abbrev pub unary_type : UnaryOperator → IntegerType → IntegerType
unary_type u.Not ty = int_type
unary_type operator ty = ty

abbrev pub unary : UnaryOperator → Typed → Option Typed
unary operator x =
    typed_if (unary_type operator (promoted x.ty)) (unary_value operator (promoted x.ty) (wrapped (promoted x.ty) x.number))

-- whether it is a shift, whose operands are promoted each by itself (6.5.7)
abbrev pub is_shift : BinaryOperator → Bool
is_shift b.ShiftLeft = true
is_shift b.ShiftRight = true
is_shift operator = false

-- a shift of a value of the type by the count
abbrev pub shift_value : BinaryOperator → IntegerType → ℤ → ℤ → Option ℤ
shift_value b.ShiftLeft ty a count = result_ok (left_shift_of ty a count)
shift_value operator ty a count = result_ok (right_shift_of ty a count)

abbrev pub shift : BinaryOperator → Typed → Typed → Option Typed
shift operator x y =
    let ty = promoted x.ty in
    typed_if ty (shift_value operator ty (wrapped ty x.number) (wrapped (promoted y.ty) y.number))

-- an operator on values of one type; a short circuit has no value here
abbrev pub binary_value : BinaryOperator → IntegerType → ℤ → ℤ → Option ℤ
binary_value b.BitOr ty a c = Some (inclusive_or_of ty a c)
binary_value b.BitXor ty a c = Some (exclusive_or_of ty a c)
binary_value b.BitAnd ty a c = Some (and_of ty a c)
binary_value b.Equal ty a c = Some (equal_of a c)
binary_value b.NotEqual ty a c = Some (opposite (equal_of a c))
binary_value b.Less ty a c = Some (less_of a c)
binary_value b.Greater ty a c = Some (less_of c a)
binary_value b.LessEqual ty a c = Some (opposite (less_of c a))
binary_value b.GreaterEqual ty a c = Some (opposite (less_of a c))
binary_value b.Add ty a c = result_ok (sum_of ty a c)
binary_value b.Subtract ty a c = result_ok (difference_of ty a c)
binary_value b.Multiply ty a c = result_ok (product_of ty a c)
binary_value b.Divide ty a c = result_ok (quotient_of ty a c)
binary_value b.Remainder ty a c = result_ok (remainder_of ty a c)
binary_value operator ty a c = None

-- the type of the result: comparisons give an int (6.5.8, 6.5.9)
abbrev pub binary_type : BinaryOperator → IntegerType → IntegerType
binary_type b.Equal ty = int_type
binary_type b.NotEqual ty = int_type
binary_type b.Less ty = int_type
binary_type b.Greater ty = int_type
binary_type b.LessEqual ty = int_type
binary_type b.GreaterEqual ty = int_type
binary_type operator ty = ty

-- an operator on values that are converted to their common type (6.3.1.8)
abbrev pub common : BinaryOperator → Typed → Typed → Option Typed
common operator x y =
    let ty = usual_type x.ty y.ty in
    typed_if (binary_type operator ty) (binary_value operator ty (wrapped ty x.number) (wrapped ty y.number))

abbrev pub binary : BinaryOperator → Typed → Typed → Option Typed
binary operator x y = if is_shift operator then shift operator x y else common operator x y

abbrev pub from_value : Option Typed → Constancy
from_value None = is.NotConstant
from_value (Some value) = is.Constant value

abbrev pub is_short_circuit : BinaryOperator → Bool
is_short_circuit b.LogicalOr = true
is_short_circuit b.LogicalAnd = true
is_short_circuit operator = false

-- an operator on an operand, and between two
abbrev pub operated : UnaryOperator → Constancy → Constancy
operated operator (is.Constant x) = from_value (unary operator x)
operated operator other = other

abbrev pub of_both : BinaryOperator → Constancy → Constancy → Constancy
of_both operator is.NotConstant y = is.NotConstant
of_both operator (is.Constant x) is.NotConstant = is.NotConstant
of_both operator is.Unknown is.NotConstant = is.NotConstant
of_both operator (is.Constant x) (is.Constant y) = from_value (binary operator x y)
of_both operator (is.Constant x) is.Unknown = is.Unknown
of_both operator is.Unknown (is.Constant y) = is.Unknown
of_both operator is.Unknown is.Unknown = is.Unknown

abbrev pub joined : BinaryOperator → Constancy → Constancy → Constancy
joined operator x y = if is_short_circuit operator then is.NotConstant else of_both operator x y

-- a cast, whose words may spell no type (6.5.4)
abbrev pub cast : Option IntegerType → Constancy → Constancy
cast ty is.NotConstant = is.NotConstant
cast ty is.Unknown = is.Unknown
cast None (is.Constant x) = is.Unknown
cast (Some ty) (is.Constant x) = is.Constant (typed ty (wrapped ty x.number))

-- ---- of a whole expression

abbrev pub of_constant : Option Typed → Constancy
of_constant None = is.Unknown
of_constant (Some x) = is.Constant x

-- one more operator with its right operand
abbrev pub next : Constancy → BinaryOperator × Constancy → Constancy
next x t = joined t.0 x t.1

abbrev pub Nothing : Type 0
Nothing = Unit {0}

-- an operator with its right operand
abbrev pub Operand : Type 0
Operand = BinaryOperator × Constancy

abbrev pub FormLayer : Type 0
FormLayer = Form-F Nothing Constancy Nothing Nothing Constancy Nothing Nothing Operand

abbrev pub form_step : FormLayer → Constancy
form_step (Form-F.Constant value at) = of_constant (constant_value value)
form_step (Form-F.Place place) = is.NotConstant
form_step (Form-F.Call call) = is.NotConstant
form_step (Form-F.Unary operator x) = operated operator x
form_step (Form-F.Cast words x) = cast (option_map c_type (plain_integer words)) x
form_step (Form-F.Binary x terms) = fold next x terms
form_step (Form-F.Conditional x choices) = is.NotConstant

-- what an expression is as a constant expression
abbrev pub constancy : Expression → Constancy
constancy =
    fold-Expression Nothing Constancy Nothing Nothing Constancy Nothing Nothing Operand
    (λ _. tt) form_step (λ _. tt) (λ _. tt) (λ e. e.form) (λ _. tt) (λ _. tt) (λ t. (t.operator, t.operand))

abbrev pub term_constancy : Term → Operand
term_constancy =
    fold-Term Nothing Constancy Nothing Nothing Constancy Nothing Nothing Operand
    (λ _. tt) form_step (λ _. tt) (λ _. tt) (λ e. e.form) (λ _. tt) (λ _. tt) (λ t. (t.operator, t.operand))

-- ---- how many operators and casts an expression has

-- the sum, as far as a u32 goes
abbrev pub plus : ℕ → ℕ → ℕ
plus a b = min (a + b) 0xffff_ffff

-- one more operator, whose right operand has so many
abbrev pub next_operators : ℕ → ℕ → ℕ
next_operators n more = plus (plus n more) 1

abbrev pub form_operators : Form-F Nothing ℕ Nothing Nothing ℕ Nothing Nothing ℕ → ℕ
form_operators (Form-F.Constant value at) = 0
form_operators (Form-F.Place place) = 0
form_operators (Form-F.Call call) = 0
form_operators (Form-F.Unary operator x) = plus x 1
form_operators (Form-F.Cast words x) = plus x 1
form_operators (Form-F.Binary x terms) = fold next_operators x terms
form_operators (Form-F.Conditional x choices) = 0

abbrev pub operator_count : Expression → ℕ
operator_count =
    fold-Expression Nothing ℕ Nothing Nothing ℕ Nothing Nothing ℕ
    (λ _. tt) form_operators (λ _. tt) (λ _. tt) (λ e. e.form) (λ _. tt) (λ _. tt) (λ t. t.operand)

abbrev pub term_operators : Term → ℕ
term_operators =
    fold-Term Nothing ℕ Nothing Nothing ℕ Nothing Nothing ℕ
    (λ _. tt) form_operators (λ _. tt) (λ _. tt) (λ e. e.form) (λ _. tt) (λ _. tt) (λ t. t.operand)
