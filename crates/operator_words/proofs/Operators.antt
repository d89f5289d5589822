-- Every operator of a block shows its value on words, and keeps types.
use Rattle.std.proofs.Common.{◌≡◌, ℕ, ◌-◌, ◌%◌, ◌^◌, Bool, true, false, not, ℤ, pos, negsuc, ◌+ℤ◌, ◌-ℤ◌, ◌*ℤ◌, neg_ℤ, ap, sym, subst, ◌∙◌, refl, arith, nat_eq, if◌then◌else◌}
use Rattle.std.proofs.Common.{int_lt, int_le, int_div, int_rem, ◌&&◌, bit_and, bit_or, bit_xor}
use Rattle.std.specs.Prelude.{unsigned_abs}
use Rattle.std.proofs.Math.Nat.{div-le_self}
use Rattle.std.proofs.lemmas.Nat.{pow_pos}
use Rattle.hls_ints.specs.Residues.{residue_of, floor_quotient, bit_of}
use Rattle.hls_ints.specs.Types.{Width, IntegerType, HasType, bits, width_of, wrapped}
use Rattle.hls_ints.specs.Operators.{is_zero, is_count}
use Rattle.hls_ints.proofs.Ranges.{rem_range}
use Rattle.hls_ints.proofs.Conversions.{residue_of-wrapped, wrapped-range}
use Rattle.block_ir.specs.UnaryOperator.TheVariants.{Plus, Minus, Complement, Not}
use Rattle.block_ir.specs.BinaryOperator.{BinaryOperator}
use Rattle.block_ir.specs.BinaryOperator.TheVariants.{Multiply, Divide, Remainder, Add, Subtract, ShiftLeft, ShiftRight, Less, Greater, LessEqual, GreaterEqual}
use Rattle.block_ir.specs.BinaryOperator.TheVariants.{Equal, NotEqual, And, ExclusiveOr, InclusiveOr}
use Rattle.block_ir.specs.Arithmetic.{binary_at, truth, sign_fill, shifted_right}
use Rattle.hls_ints.specs.Words.{word_equal, word_complement}
use Rattle.operator_words.specs.Shown.{truth_type, binary_result, binary_word, less_word, shown, UnaryShows, BinaryShows, UnaryKeepsType, BinaryKeepsType}
use Rattle.operator_words.proofs.Residues.{word-residue_of, sum_is, difference_is, product_is, negation_is, complement_is, and_is, exclusive_or_is, inclusive_or_is}
use Rattle.operator_words.proofs.Typed.{where_nonzero, has_zero, signed_less_is, word_less_is, at_most, complement_of_bit, word_equal_is, word_zero_is, signed_quotient_is}
use Rattle.operator_words.proofs.Typed.{word_quotient_is, signed_remainder_is, word_remainder_is}
use Rattle.operator_words.proofs.Shifts.{no_sign, left_shift_is, right_shift_is, arithmetic_shift_is}

-- the word of a truth value is its bit
shown_truth : (t : Bool) → bit_of t ≡ shown truth_type (truth t)
unfolding residue_of
shown_truth true = refl
shown_truth false = refl

typed_truth : (t : Bool) → HasType truth_type (truth t)
typed_truth true = refl
typed_truth false = refl

-- by the sign of a type
less_by : (signed : Bool) (W : Width) (a b : ℤ) → HasType (record { width = W; signed = signed }) a → HasType (record { width = W; signed = signed }) b →
    less_word (record { width = W; signed = signed }) (residue_of (bits W) a) (residue_of (bits W) b) ≡ bit_of (int_lt a b)
less_by true W a b h k = signed_less_is W a b h k
less_by false W a b h k = word_less_is W a b h k

less_is : (ty : IntegerType) (a b : ℤ) → HasType ty a → HasType ty b → less_word ty (shown ty a) (shown ty b) ≡ bit_of (int_lt a b)
less_is ty a b h k = less_by ty.signed ty.width a b h k

quotient_by : (signed : Bool) (W : Width) (a b : ℤ) → HasType (record { width = W; signed = signed }) a → HasType (record { width = W; signed = signed }) b →
    binary_word Divide (record { width = W; signed = signed }) (residue_of (bits W) a) (residue_of (bits W) b)
    ≡ residue_of (bits W) (where_nonzero b (wrapped (record { width = W; signed = signed }) (int_div a b)))
quotient_by true W a b h k = signed_quotient_is W a b h k
quotient_by false W a b h k = word_quotient_is W a b h k

remainder_by : (signed : Bool) (W : Width) (a b : ℤ) → HasType (record { width = W; signed = signed }) a → HasType (record { width = W; signed = signed }) b →
    binary_word Remainder (record { width = W; signed = signed }) (residue_of (bits W) a) (residue_of (bits W) b) ≡ residue_of (bits W) (where_nonzero b (int_rem a b))
remainder_by true W a b h k = signed_remainder_is W a b h k
remainder_by false W a b h k = word_remainder_is W a b h k

shift_right_by : (signed : Bool) (W : Width) (count : IntegerType) (a b : ℤ) → HasType (record { width = W; signed = signed }) a → HasType count b →
    binary_word ShiftRight (record { width = W; signed = signed }) (residue_of (bits W) a) (residue_of (width_of count) b)
    ≡ residue_of (bits W) (shifted_right (record { width = W; signed = signed }) a b)
shift_right_by true W count a b h t = arithmetic_shift_is W count a b h t
shift_right_by false W count a b h t = right_shift_is W count a b h t

-- a test that is turned
turned_test : (n : ℕ) (s t : Bool) → n ≡ bit_of s → t ≡ not s → word_complement 1 n ≡ shown truth_type (truth t)
turned_test n s t e f = ap (word_complement 1) e ∙ complement_of_bit s ∙ ap bit_of (sym f) ∙ shown_truth t

plain_test : (n : ℕ) (t : Bool) → n ≡ bit_of t → n ≡ shown truth_type (truth t)
plain_test n t e = e ∙ shown_truth t

zero_of_bit : (t : Bool) → is_zero (pos (bit_of t)) ≡ not t
zero_of_bit true = refl
zero_of_bit false = refl

pub not_zero : (ty : IntegerType) (a : ℤ) → HasType ty a → word_equal (width_of ty) (shown ty a) 0 ≡ bit_of (is_zero a)
not_zero ty a h =
    let w = width_of ty in
    let z = pow_pos w in
    let none : 0 % 2 ^ w ≡ 0 = omega arith in
    ap (λ x. bit_of (nat_eq x (0 % 2 ^ w))) (word-residue_of w a) ∙ ap (λ x. bit_of (nat_eq (residue_of w a) x)) none ∙ ap bit_of (word_zero_is ty a h)

pub unary_shows : UnaryShows
unary_shows Plus ty a h = refl
unary_shows Minus ty a h = negation_is ty.width a ∙ sym (residue_of-wrapped ty (neg_ℤ a))
unary_shows Complement ty a h = complement_is (width_of ty) a ∙ sym (residue_of-wrapped ty (negsuc 0 -ℤ a))
unary_shows Not ty a h = plain_test (word_equal (width_of ty) (shown ty a) 0) (is_zero a) (not_zero ty a h)

module _ (ty : IntegerType) (a b : ℤ) (h : HasType ty a) where
  -- operators with a right operand of the same type
  sum_shows : binary_word Add ty (shown ty a) (shown ty b) ≡ shown ty (binary_at Add ty a b)
  sum_shows = sum_is ty.width a b ∙ sym (residue_of-wrapped ty (a +ℤ b))

  difference_shows : binary_word Subtract ty (shown ty a) (shown ty b) ≡ shown ty (binary_at Subtract ty a b)
  difference_shows = difference_is ty.width a b ∙ sym (residue_of-wrapped ty (a -ℤ b))

  product_shows : binary_word Multiply ty (shown ty a) (shown ty b) ≡ shown ty (binary_at Multiply ty a b)
  product_shows = product_is ty.width a b ∙ sym (residue_of-wrapped ty (a *ℤ b))

  and_shows : binary_word And ty (shown ty a) (shown ty b) ≡ shown ty (binary_at And ty a b)
  and_shows = and_is (width_of ty) a b ∙ sym (residue_of-wrapped ty (pos (bit_and (shown ty a) (shown ty b))))

  exclusive_or_shows : binary_word ExclusiveOr ty (shown ty a) (shown ty b) ≡ shown ty (binary_at ExclusiveOr ty a b)
  exclusive_or_shows = exclusive_or_is (width_of ty) a b ∙ sym (residue_of-wrapped ty (pos (bit_xor (shown ty a) (shown ty b))))

  inclusive_or_shows : binary_word InclusiveOr ty (shown ty a) (shown ty b) ≡ shown ty (binary_at InclusiveOr ty a b)
  inclusive_or_shows = inclusive_or_is (width_of ty) a b ∙ sym (residue_of-wrapped ty (pos (bit_or (shown ty a) (shown ty b))))

  module _ (k : HasType ty b) where
    less_shows : binary_word Less ty (shown ty a) (shown ty b) ≡ shown truth_type (binary_at Less ty a b)
    less_shows = plain_test (less_word ty (shown ty a) (shown ty b)) (int_lt a b) (less_is ty a b h k)

    greater_shows : binary_word Greater ty (shown ty a) (shown ty b) ≡ shown truth_type (binary_at Greater ty a b)
    greater_shows = plain_test (less_word ty (shown ty b) (shown ty a)) (int_lt b a) (less_is ty b a k h)

    less_equal_shows : binary_word LessEqual ty (shown ty a) (shown ty b) ≡ shown truth_type (binary_at LessEqual ty a b)
    less_equal_shows = turned_test (less_word ty (shown ty b) (shown ty a)) (int_lt b a) (int_le a b) (less_is ty b a k h) (at_most a b)

    greater_equal_shows : binary_word GreaterEqual ty (shown ty a) (shown ty b) ≡ shown truth_type (binary_at GreaterEqual ty a b)
    greater_equal_shows = turned_test (less_word ty (shown ty a) (shown ty b)) (int_lt a b) (int_le b a) (less_is ty a b h k) (at_most b a)

    equal_shows : binary_word Equal ty (shown ty a) (shown ty b) ≡ shown truth_type (binary_at Equal ty a b)
    equal_shows = plain_test (word_equal (width_of ty) (shown ty a) (shown ty b)) (int_le a b && int_le b a) (word_equal_is ty a b h k)

    not_equal_shows : binary_word NotEqual ty (shown ty a) (shown ty b) ≡ shown truth_type (binary_at NotEqual ty a b)
    not_equal_shows =
        turned_test (word_equal (width_of ty) (shown ty a) (shown ty b)) (int_le a b && int_le b a) (is_zero (pos (bit_of (int_le a b && int_le b a))))
        (word_equal_is ty a b h k) (zero_of_bit (int_le a b && int_le b a))

-- the right operand has the left one's type
same_type : (operator : BinaryOperator) (ty right : IntegerType) (a b : ℤ) → right ≡ ty → HasType right b →
    ((k : HasType ty b) → binary_word operator ty (shown ty a) (shown ty b) ≡ shown (binary_result operator ty) (binary_at operator ty a b)) →
    binary_word operator ty (shown ty a) (shown right b) ≡ shown (binary_result operator ty) (binary_at operator ty a b)
same_type operator ty right a b e k f =
    ap (λ t. binary_word operator ty (shown ty a) (shown t b)) e ∙ f (let P : IntegerType → Type 0 = λ t. HasType t b in subst P e k)

pub binary_shows : BinaryShows
binary_shows Multiply ty right a b same h k = same_type Multiply ty right a b (same refl) k (λ t. product_shows ty a b h)
binary_shows Divide ty right a b same h k = same_type Divide ty right a b (same refl) k (λ t. quotient_by ty.signed ty.width a b h t)
binary_shows Remainder ty right a b same h k = same_type Remainder ty right a b (same refl) k (λ t. remainder_by ty.signed ty.width a b h t)
binary_shows Add ty right a b same h k = same_type Add ty right a b (same refl) k (λ t. sum_shows ty a b h)
binary_shows Subtract ty right a b same h k = same_type Subtract ty right a b (same refl) k (λ t. difference_shows ty a b h)
binary_shows ShiftLeft ty right a b same h k = left_shift_is ty right a b k
binary_shows ShiftRight ty right a b same h k = shift_right_by ty.signed ty.width right a b h k
binary_shows Less ty right a b same h k = same_type Less ty right a b (same refl) k (λ t. less_shows ty a b h t)
binary_shows Greater ty right a b same h k = same_type Greater ty right a b (same refl) k (λ t. greater_shows ty a b h t)
binary_shows LessEqual ty right a b same h k = same_type LessEqual ty right a b (same refl) k (λ t. less_equal_shows ty a b h t)
binary_shows GreaterEqual ty right a b same h k = same_type GreaterEqual ty right a b (same refl) k (λ t. greater_equal_shows ty a b h t)
binary_shows Equal ty right a b same h k = same_type Equal ty right a b (same refl) k (λ t. equal_shows ty a b h t)
binary_shows NotEqual ty right a b same h k = same_type NotEqual ty right a b (same refl) k (λ t. not_equal_shows ty a b h t)
binary_shows And ty right a b same h k = same_type And ty right a b (same refl) k (λ t. and_shows ty a b h)
binary_shows ExclusiveOr ty right a b same h k = same_type ExclusiveOr ty right a b (same refl) k (λ t. exclusive_or_shows ty a b h)
binary_shows InclusiveOr ty right a b same h k = same_type InclusiveOr ty right a b (same refl) k (λ t. inclusive_or_shows ty a b h)

-- ---- types

pub unary_keeps_type : UnaryKeepsType
unary_keeps_type Plus ty a h = h
unary_keeps_type Minus ty a h = wrapped-range ty (neg_ℤ a)
unary_keeps_type Complement ty a h = wrapped-range ty (negsuc 0 -ℤ a)
unary_keeps_type Not ty a h = typed_truth (is_zero a)

guarded_type : (t : Bool) (ty : IntegerType) (z : ℤ) → HasType ty z → HasType ty (if t then pos 0 else z)
guarded_type true ty z h = has_zero ty
guarded_type false ty z h = h

chosen_type : (t : Bool) (ty : IntegerType) (y z : ℤ) → HasType ty y → HasType ty z → HasType ty (if t then y else z)
chosen_type true ty y z h k = h
chosen_type false ty y z h k = k

quotient_type : (signed : Bool) (W : Width) (a : ℤ) (m : ℕ) → HasType (record { width = W; signed = signed }) a → HasType (record { width = W; signed = signed }) (floor_quotient a m)
quotient_type true W (pos n) m h = let less = div-le_self n m in grind arith
quotient_type true W (negsuc n) m h = let less = div-le_self n m in grind arith
quotient_type false W (pos n) m h = let less = div-le_self n m in grind arith
quotient_type false W (negsuc n) m h = absurd cc

fill_type : (signed : Bool) (W : Width) (a : ℤ) → HasType (record { width = W; signed = signed }) a → HasType (record { width = W; signed = signed }) (sign_fill a)
fill_type signed W (pos n) h =
    let P : ℤ → Type 0 = HasType (record { width = W; signed = signed }) in
    subst P (sym (no_sign n)) (has_zero (record { width = W; signed = signed }))
fill_type true W (negsuc n) h = let some = pow_pos (bits W - 1) in grind arith
fill_type false W (negsuc n) h = absurd cc

pub binary_keeps_type : BinaryKeepsType
binary_keeps_type Multiply ty a b h = wrapped-range ty (a *ℤ b)
binary_keeps_type Divide ty a b h = guarded_type (is_zero b) ty (wrapped ty (int_div a b)) (wrapped-range ty (int_div a b))
binary_keeps_type Remainder ty a b h = guarded_type (is_zero b) ty (int_rem a b) (rem_range ty a b h)
binary_keeps_type Add ty a b h = wrapped-range ty (a +ℤ b)
binary_keeps_type Subtract ty a b h = wrapped-range ty (a -ℤ b)
binary_keeps_type ShiftLeft ty a b h =
    chosen_type (is_count (width_of ty) b) ty (wrapped ty (a *ℤ pos (2 ^ unsigned_abs b))) (pos 0) (wrapped-range ty (a *ℤ pos (2 ^ unsigned_abs b))) (has_zero ty)
binary_keeps_type ShiftRight ty a b h =
    chosen_type (is_count (width_of ty) b) ty (floor_quotient a (2 ^ unsigned_abs b)) (sign_fill a)
    (quotient_type ty.signed ty.width a (2 ^ unsigned_abs b) h) (fill_type ty.signed ty.width a h)
binary_keeps_type Less ty a b h = typed_truth (int_lt a b)
binary_keeps_type Greater ty a b h = typed_truth (int_lt b a)
binary_keeps_type LessEqual ty a b h = typed_truth (int_le a b)
binary_keeps_type GreaterEqual ty a b h = typed_truth (int_le b a)
binary_keeps_type Equal ty a b h = typed_truth (int_le a b && int_le b a)
binary_keeps_type NotEqual ty a b h = typed_truth (is_zero (pos (bit_of (int_le a b && int_le b a))))
binary_keeps_type And ty a b h = wrapped-range ty (pos (bit_and (shown ty a) (shown ty b)))
binary_keeps_type ExclusiveOr ty a b h = wrapped-range ty (pos (bit_xor (shown ty a) (shown ty b)))
binary_keeps_type InclusiveOr ty a b h = wrapped-range ty (pos (bit_or (shown ty a) (shown ty b)))
