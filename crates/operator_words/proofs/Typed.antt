-- Values of a type and the words that show them: tests, quotients and remainders.
use Rattle.std.proofs.Common.{◌≡◌, ℕ, ◌-◌, ◌/◌, ◌%◌, ◌^◌, ◌<◌, Bool, true, false, not, ℤ, pos, negsuc, ap, sym, subst, ◌∙◌, refl, arith, nat_lt, nat_eq, if◌then◌else◌}
use Rattle.std.proofs.Common.{int_lt, int_le, int_div, int_rem, ◌&&◌}
use Rattle.std.proofs.Math.Nat.{mod-eq_of_lt, mod-le, div-le_self}
use Rattle.std.proofs.lemmas.Nat.{pow_pos}
use Rattle.std.proofs.lemmas.Bool.{lt-ltb}
use Rattle.hls_ints.specs.Residues.{residue_of, signed_value_of, bit_of}
use Rattle.hls_ints.specs.Types.{Width, IntegerType, HasType, bits, width_of, wrapped}
use Rattle.hls_ints.specs.Operators.{is_zero}
use Rattle.hls_ints.specs.Words.{word, signed_word, guarded, word_quotient, word_remainder, signed_quotient, signed_remainder, word_less, signed_less, word_equal, word_complement}
use Rattle.hls_ints.proofs.Conversions.{residue_of-below, wrapped-same, residue_of-wrapped}
use Rattle.operator_words.proofs.Residues.{word-residue_of, residue_of-word}
pub use Rattle.operator_words.proofs.Residues.{residue_of-zero}

abbrev pub signed_type : Width → IntegerType
signed_type W = record { width = W; signed = true }

abbrev pub unsigned_type : Width → IntegerType
unsigned_type W = record { width = W; signed = false }

-- a signed word spells its value
pub signed_word-residue_of : (W : Width) (a : ℤ) → HasType (signed_type W) a → signed_word (bits W) (residue_of (bits W) a) ≡ a
unfolding wrapped
signed_word-residue_of W a h =
    ap (signed_value_of (bits W)) (word-residue_of (bits W) a) ∙ wrapped-same (signed_type W) a h

-- an unsigned word is its value
pub unsigned-residue_of : (W : Width) (a : ℤ) → HasType (unsigned_type W) a → pos (residue_of (bits W) a) ≡ a
unfolding wrapped
unsigned-residue_of W a h = wrapped-same (unsigned_type W) a h

-- ---- tests

-- two values of a type with one word are one
pub same_word : (ty : IntegerType) (a b : ℤ) → HasType ty a → HasType ty b → residue_of (width_of ty) a ≡ residue_of (width_of ty) b → a ≡ b
unfolding wrapped
same_word ty a b h k e =
    sym (wrapped-same ty a h)
    ∙ ap (λ n. if ty.signed then signed_value_of (width_of ty) n else pos n) e
    ∙ wrapped-same ty b k

pub signed_less_is : (W : Width) (a b : ℤ) → HasType (signed_type W) a → HasType (signed_type W) b →
    signed_less (bits W) (residue_of (bits W) a) (residue_of (bits W) b) ≡ bit_of (int_lt a b)
signed_less_is W a b h k =
    ap (λ x. bit_of (int_lt x (signed_word (bits W) (residue_of (bits W) b)))) (signed_word-residue_of W a h)
    ∙ ap (λ x. bit_of (int_lt a x)) (signed_word-residue_of W b k)

less_of_words : (m n : ℕ) → nat_lt m n ≡ int_lt (pos m) (pos n)
less_of_words m n = refl

pub word_less_is : (W : Width) (a b : ℤ) → HasType (unsigned_type W) a → HasType (unsigned_type W) b →
    word_less (bits W) (residue_of (bits W) a) (residue_of (bits W) b) ≡ bit_of (int_lt a b)
word_less_is W a b h k =
    let w = bits W in
    ap (λ x. bit_of (nat_lt x (word w (residue_of w b)))) (word-residue_of w a)
    ∙ ap (λ x. bit_of (nat_lt (residue_of w a) x)) (word-residue_of w b)
    ∙ ap bit_of (less_of_words (residue_of w a) (residue_of w b))
    ∙ ap (λ x. bit_of (int_lt x (pos (residue_of w b)))) (unsigned-residue_of W a h)
    ∙ ap (λ x. bit_of (int_lt a x)) (unsigned-residue_of W b k)

-- at most is not more
pub at_most : (a b : ℤ) → int_le a b ≡ not (int_lt b a)
at_most (pos m) (pos n) = grind arith
at_most (pos m) (negsuc n) = refl
at_most (negsuc m) (pos n) = refl
at_most (negsuc m) (negsuc n) = grind arith

pub complement_of_bit : (t : Bool) → word_complement 1 (bit_of t) ≡ bit_of (not t)
complement_of_bit true = refl
complement_of_bit false = refl

int_le_refl : (a : ℤ) → (int_le a a && int_le a a) ≡ true
int_le_refl (pos n) = grind arith
int_le_refl (negsuc n) = grind arith

int_le_antisym : (a b : ℤ) → (int_le a b && int_le b a) ≡ true → a ≡ b
int_le_antisym (pos m) (pos n) h = let e : m ≡ n = grind arith in ap pos e
int_le_antisym (pos m) (negsuc n) h = absurd cc
int_le_antisym (negsuc m) (pos n) h = absurd cc
int_le_antisym (negsuc m) (negsuc n) h = let e : m ≡ n = grind arith in ap negsuc e

equal_by : (s t : Bool) (m n : ℕ) → (m ≡ n → t ≡ true) → (t ≡ true → m ≡ n) → nat_eq m n ≡ s → s ≡ t
equal_by true true m n f g e = refl
equal_by false false m n f g e = refl
equal_by true false m n f g e = let same : m ≡ n = grind arith in sym (f same)
equal_by false true m n f g e = let same = g refl in let other : nat_eq m n ≡ true = grind arith in absurd cc

pub word_equal_is : (ty : IntegerType) (a b : ℤ) → HasType ty a → HasType ty b →
    word_equal (width_of ty) (residue_of (width_of ty) a) (residue_of (width_of ty) b) ≡ bit_of (int_le a b && int_le b a)
word_equal_is ty a b h k =
    let w = width_of ty in
    ap (λ x. bit_of (nat_eq x (word w (residue_of w b)))) (word-residue_of w a)
    ∙ ap (λ x. bit_of (nat_eq (residue_of w a) x)) (word-residue_of w b)
    ∙ ap bit_of (equal_by (nat_eq (residue_of w a) (residue_of w b)) (int_le a b && int_le b a) (residue_of w a) (residue_of w b)
    (λ e. let P : ℤ → Type 0 = λ x. (int_le a x && int_le x a) ≡ true in subst P (same_word ty a b h k e) (int_le_refl a))
    (λ e. ap (residue_of w) (int_le_antisym a b e)) refl)

has_zero_at : (signed : Bool) (W : Width) → HasType (record { width = W; signed = signed }) (pos 0)
has_zero_at true W = lt-ltb 0 (2 ^ (bits W - 1)) (pow_pos (bits W - 1))
has_zero_at false W = lt-ltb 0 (2 ^ bits W) (pow_pos (bits W))

pub has_zero : (ty : IntegerType) → HasType ty (pos 0)
has_zero ty = has_zero_at ty.signed ty.width

is_zero-true : (a : ℤ) → is_zero a ≡ true → a ≡ pos 0
is_zero-true (pos n) h = let e : n ≡ 0 = grind arith in ap pos e
is_zero-true (negsuc n) h = absurd cc

-- a value is 0 where its word is
pub word_zero_is : (ty : IntegerType) (a : ℤ) → HasType ty a → nat_eq (residue_of (width_of ty) a) 0 ≡ is_zero a
word_zero_is ty a h =
    let w = width_of ty in
    equal_by (nat_eq (residue_of w a) 0) (is_zero a) (residue_of w a) 0
    (λ e. ap is_zero (same_word ty a (pos 0) h (has_zero ty) (e ∙ sym (residue_of-zero w))))
    (λ e. ap (residue_of w) (is_zero-true a e) ∙ residue_of-zero w) refl

-- ---- quotients and remainders

either_residue : (t : Bool) (w : ℕ) (z : ℤ) → residue_of w (if t then pos 0 else z) ≡ (if t then 0 else residue_of w z)
either_residue true w z = residue_of-zero w
either_residue false w z = refl

guard_is : (ty : IntegerType) (b : ℤ) (n : ℕ) → HasType ty b → guarded (width_of ty) (residue_of (width_of ty) b) n ≡ (if is_zero b then 0 else n)
guard_is ty b n h =
    let w = width_of ty in
    ap (λ x. if nat_eq x 0 then 0 else n) (word-residue_of w b) ∙ ap (λ t. if t then 0 else n) (word_zero_is ty b h)

-- where the divisor is 0 the result is
abbrev pub where_nonzero : ℤ → ℤ → ℤ
where_nonzero b z = if is_zero b then pos 0 else z

guarded_is : (ty : IntegerType) (b z : ℤ) (n : ℕ) → HasType ty b → n ≡ residue_of (width_of ty) z →
    guarded (width_of ty) (residue_of (width_of ty) b) n ≡ residue_of (width_of ty) (where_nonzero b z)
guarded_is ty b z n h e = guard_is ty b n h ∙ ap (λ x. if is_zero b then 0 else x) e ∙ sym (either_residue (is_zero b) (width_of ty) z)

pub signed_quotient_is : (W : Width) (a b : ℤ) → HasType (signed_type W) a → HasType (signed_type W) b →
    signed_quotient (bits W) (residue_of (bits W) a) (residue_of (bits W) b) ≡ residue_of (bits W) (where_nonzero b (wrapped (signed_type W) (int_div a b)))
signed_quotient_is W a b h k =
    guarded_is (signed_type W) b (wrapped (signed_type W) (int_div a b)) _ k
    (ap (λ x. residue_of (bits W) (int_div x (signed_word (bits W) (residue_of (bits W) b)))) (signed_word-residue_of W a h)
    ∙ ap (λ x. residue_of (bits W) (int_div a x)) (signed_word-residue_of W b k)
    ∙ sym (residue_of-wrapped (signed_type W) (int_div a b)))

pub signed_remainder_is : (W : Width) (a b : ℤ) → HasType (signed_type W) a → HasType (signed_type W) b →
    signed_remainder (bits W) (residue_of (bits W) a) (residue_of (bits W) b) ≡ residue_of (bits W) (where_nonzero b (int_rem a b))
signed_remainder_is W a b h k =
    guarded_is (signed_type W) b (int_rem a b) _ k
    (ap (λ x. residue_of (bits W) (int_rem x (signed_word (bits W) (residue_of (bits W) b)))) (signed_word-residue_of W a h)
    ∙ ap (λ x. residue_of (bits W) (int_rem a x)) (signed_word-residue_of W b k))

quotient_below : (m n k : ℕ) → m < k → m / n < k
quotient_below m n k h = let less = div-le_self m n in omega arith

remainder_below : (m n k : ℕ) → m < k → m % n < k
remainder_below m n k h = let less = mod-le m n in omega arith

quotient_of_words : (m n : ℕ) → int_div (pos m) (pos n) ≡ pos (m / n)
quotient_of_words m n = refl

remainder_of_words : (m n : ℕ) → int_rem (pos m) (pos n) ≡ pos (m % n)
remainder_of_words m n = refl

pub word_quotient_is : (W : Width) (a b : ℤ) → HasType (unsigned_type W) a → HasType (unsigned_type W) b →
    word_quotient (bits W) (residue_of (bits W) a) (residue_of (bits W) b) ≡ residue_of (bits W) (where_nonzero b (wrapped (unsigned_type W) (int_div a b)))
word_quotient_is W a b h k =
    let w = bits W in
    let m = residue_of w a in
    let n = residue_of w b in
    guarded_is (unsigned_type W) b (wrapped (unsigned_type W) (int_div a b)) _ k
    (ap (λ x. x / word w n) (word-residue_of w a) ∙ ap (λ x. m / x) (word-residue_of w b)
    ∙ sym (residue_of-word w (m / n) ∙ mod-eq_of_lt (quotient_below m n (2 ^ w) (residue_of-below w a)))
    ∙ ap (residue_of w) (sym (quotient_of_words m n))
    ∙ ap (λ x. residue_of w (int_div x (pos n))) (unsigned-residue_of W a h)
    ∙ ap (λ x. residue_of w (int_div a x)) (unsigned-residue_of W b k)
    ∙ sym (residue_of-wrapped (unsigned_type W) (int_div a b)))

pub word_remainder_is : (W : Width) (a b : ℤ) → HasType (unsigned_type W) a → HasType (unsigned_type W) b →
    word_remainder (bits W) (residue_of (bits W) a) (residue_of (bits W) b) ≡ residue_of (bits W) (where_nonzero b (int_rem a b))
word_remainder_is W a b h k =
    let w = bits W in
    let m = residue_of w a in
    let n = residue_of w b in
    guarded_is (unsigned_type W) b (int_rem a b) _ k
    (ap (λ x. x % word w n) (word-residue_of w a) ∙ ap (λ x. m % x) (word-residue_of w b)
    ∙ sym (residue_of-word w (m % n) ∙ mod-eq_of_lt (remainder_below m n (2 ^ w) (residue_of-below w a)))
    ∙ ap (residue_of w) (sym (remainder_of_words m n))
    ∙ ap (λ x. residue_of w (int_rem x (pos n))) (unsigned-residue_of W a h)
    ∙ ap (λ x. residue_of w (int_rem a x)) (unsigned-residue_of W b k))
