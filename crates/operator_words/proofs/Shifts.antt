-- Shifts of words by the word of a count, which may be too large or negative.
use Rattle.std.proofs.Common.{◌≡◌, ℕ, ◌-◌, ◌*◌, ◌/◌, ◌%◌, ◌^◌, ◌<◌, ◌≤◌, Bool, true, false, ℤ, pos, negsuc, ◌*ℤ◌, ap, sym, ◌∙◌, refl, arith, nat_lt, if◌then◌else◌, int_lt, lit<}
use Rattle.std.specs.Prelude.{unsigned_abs}
use Rattle.std.proofs.Math.Nat.{mod-eq_of_lt, div-eq_of_lt, div-le_self}
use Rattle.std.proofs.Math.Pow.{pow-lt}
use Rattle.hls_ints.specs.Residues.{residue_of, floor_quotient}
use Rattle.hls_ints.specs.Types.{Width, IntegerType, HasType, bits, width_of, wrapped, bits_8, bits_16, bits_32, bits_64}
use Rattle.hls_ints.specs.Operators.{is_count}
use Rattle.hls_ints.specs.Words.{word, left_shift, right_shift, arithmetic_shift}
use Rattle.hls_ints.proofs.Ranges.{bits-at_most}
use Rattle.hls_ints.proofs.Conversions.{residue_of-below, residue_of-wrapped, at_least_1, double}
use Rattle.block_ir.specs.Arithmetic.{sign_fill, shifted_left, shifted_right}
use Rattle.operator_words.proofs.Residues.{word-residue_of, residue_of-word, residue_of-zero, product_is}
use Rattle.operator_words.proofs.Typed.{signed_type, unsigned_type, signed_word-residue_of, unsigned-residue_of}

-- ---- counts

-- no count of a type is near the number of a word's bits
wide_enough : (V : Width) → 64 < 2 ^ (bits V - 1)
wide_enough bits_8 = lit< tt
wide_enough bits_16 = lit< tt
wide_enough bits_32 = lit< tt
wide_enough bits_64 = lit< tt

count_at : (signed : Bool) (V : Width) (w : ℕ) (b : ℤ) → w ≤ 64 → HasType (record { width = V; signed = signed }) b → nat_lt (residue_of (bits V) b) w ≡ is_count w b
unfolding residue_of
count_at true V w (pos n) h t =
    let two = double (bits V) (at_least_1 V) in
    let below : n < 2 ^ (bits V - 1) = grind arith in
    let same : n % 2 ^ bits V ≡ n = mod-eq_of_lt (omega arith) in
    ap (λ x. nat_lt x w) same
count_at false V w (pos n) h t =
    let below : n < 2 ^ bits V = grind arith in
    let same : n % 2 ^ bits V ≡ n = mod-eq_of_lt below in
    ap (λ x. nat_lt x w) same
count_at true V w (negsuc n) h t =
    let two = double (bits V) (at_least_1 V) in
    let wide = wide_enough V in
    let below : n < 2 ^ (bits V - 1) = grind arith in
    let same : n % 2 ^ bits V ≡ n = mod-eq_of_lt (omega arith) in
    rw same (let large : w ≤ 2 ^ bits V - 1 - n = omega arith in grind arith)
count_at false V w (negsuc n) h t = absurd cc

-- the word of a count is below w where the count is from 0 to w, without w
pub count_is : (ty : IntegerType) (w : ℕ) (b : ℤ) → w ≤ 64 → HasType ty b → nat_lt (residue_of (width_of ty) b) w ≡ is_count w b
count_is ty w b h t = count_at ty.signed ty.width w b h t

small_at : (V : Width) (w : ℕ) (b : ℤ) → w ≤ 64 → is_count w b ≡ true → residue_of (bits V) b ≡ unsigned_abs b
unfolding residue_of
small_at V w (pos n) h t =
    let wide = wide_enough V in
    let two = double (bits V) (at_least_1 V) in
    let below : n < w = grind arith in
    mod-eq_of_lt (omega arith)
small_at V w (negsuc n) h t = absurd cc

count_below : (w : ℕ) (b : ℤ) → is_count w b ≡ true → unsigned_abs b < w
count_below w (pos n) t = grind arith
count_below w (negsuc n) t = absurd cc

-- ---- to the left

residue-pow : (w n : ℕ) → n < w → residue_of w (pos (2 ^ n)) ≡ 2 ^ n
residue-pow w n h = residue_of-word w (2 ^ n) ∙ mod-eq_of_lt (pow-lt {i = n} {j = w} h)

product_of_power : (W : Width) (a : ℤ) (n : ℕ) → n < bits W → word (bits W) (residue_of (bits W) a * 2 ^ n) ≡ residue_of (bits W) (a *ℤ pos (2 ^ n))
product_of_power W a n h =
    ap (λ x. word (bits W) (residue_of (bits W) a * x)) (sym (residue-pow (bits W) n h)) ∙ product_is W a (pos (2 ^ n))

left_by : (t : Bool) (ty count : IntegerType) (a b : ℤ) → is_count (width_of ty) b ≡ t → HasType count b →
    left_shift (width_of ty) (residue_of (width_of ty) a) (residue_of (width_of count) b) ≡ residue_of (width_of ty) (shifted_left ty a b)
left_by true ty count a b e t =
    let w = width_of ty in
    let most = bits-at_most ty.width in
    let n = residue_of (width_of count) b in
    let small : n ≡ unsigned_abs b = small_at count.width w b most e in
    let test : nat_lt n w ≡ true = count_is count w b most t ∙ e in
    ap (λ x. if x then word w (residue_of w a * 2 ^ n) else 0) test
    ∙ ap (λ x. word w (residue_of w a * 2 ^ x)) small
    ∙ product_of_power ty.width a (unsigned_abs b) (count_below w b e)
    ∙ sym (residue_of-wrapped ty (a *ℤ pos (2 ^ unsigned_abs b)))
    ∙ ap (λ x. residue_of w (if x then wrapped ty (a *ℤ pos (2 ^ unsigned_abs b)) else pos 0)) (sym e)
left_by false ty count a b e t =
    let w = width_of ty in
    let most = bits-at_most ty.width in
    let n = residue_of (width_of count) b in
    let test : nat_lt n w ≡ false = count_is count w b most t ∙ e in
    ap (λ x. if x then word w (residue_of w a * 2 ^ n) else 0) test
    ∙ sym (residue_of-zero w)
    ∙ ap (λ x. residue_of w (if x then wrapped ty (a *ℤ pos (2 ^ unsigned_abs b)) else pos 0)) (sym e)

pub left_shift_is : (ty count : IntegerType) (a b : ℤ) → HasType count b →
    left_shift (width_of ty) (residue_of (width_of ty) a) (residue_of (width_of count) b) ≡ residue_of (width_of ty) (shifted_left ty a b)
left_shift_is ty count a b t = left_by (is_count (width_of ty) b) ty count a b refl t

-- ---- to the right

quotient_word : (w m n : ℕ) → m < 2 ^ w → residue_of w (pos (m / n)) ≡ m / n
quotient_word w m n h = let less = div-le_self m n in residue_of-word w (m / n) ∙ mod-eq_of_lt (omega arith)

pub no_sign : (m : ℕ) → sign_fill (pos m) ≡ pos 0
no_sign m = let e : int_lt (pos m) (pos 0) ≡ false = grind arith in ap (λ t. if t then negsuc 0 else pos 0) e

fill_of_pos : (w m : ℕ) → residue_of w (sign_fill (pos m)) ≡ 0
fill_of_pos w m = ap (residue_of w) (no_sign m) ∙ residue_of-zero w

right_by : (t : Bool) (W : Width) (count : IntegerType) (a b : ℤ) → is_count (bits W) b ≡ t → HasType (unsigned_type W) a → HasType count b →
    right_shift (bits W) (residue_of (bits W) a) (residue_of (width_of count) b) ≡ residue_of (bits W) (shifted_right (unsigned_type W) (pos (residue_of (bits W) a)) b)
right_by true W count a b e h t =
    let w = bits W in
    let m = residue_of w a in
    let most = bits-at_most W in
    let n = residue_of (width_of count) b in
    let small : n ≡ unsigned_abs b = small_at count.width w b most e in
    let test : nat_lt n w ≡ true = count_is count w b most t ∙ e in
    ap (λ x. if x then word w m / 2 ^ n else 0) test
    ∙ ap (λ x. x / 2 ^ n) (word-residue_of w a) ∙ ap (λ x. m / 2 ^ x) small
    ∙ sym (quotient_word w m (2 ^ unsigned_abs b) (residue_of-below w a))
    ∙ ap (λ x. residue_of w (if x then floor_quotient (pos m) (2 ^ unsigned_abs b) else sign_fill (pos m))) (sym e)
right_by false W count a b e h t =
    let w = bits W in
    let m = residue_of w a in
    let most = bits-at_most W in
    let n = residue_of (width_of count) b in
    let test : nat_lt n w ≡ false = count_is count w b most t ∙ e in
    ap (λ x. if x then word w m / 2 ^ n else 0) test
    ∙ sym (fill_of_pos w m)
    ∙ ap (λ x. residue_of w (if x then floor_quotient (pos m) (2 ^ unsigned_abs b) else sign_fill (pos m))) (sym e)

pub right_shift_is : (W : Width) (count : IntegerType) (a b : ℤ) → HasType (unsigned_type W) a → HasType count b →
    right_shift (bits W) (residue_of (bits W) a) (residue_of (width_of count) b) ≡ residue_of (bits W) (shifted_right (unsigned_type W) a b)
right_shift_is W count a b h t =
    right_by (is_count (bits W) b) W count a b refl h t
    ∙ ap (λ x. residue_of (bits W) (shifted_right (unsigned_type W) x b)) (unsigned-residue_of W a h)

-- a shift by all bits leaves the sign
quotient_by_all : (W : Width) (a : ℤ) → HasType (signed_type W) a → floor_quotient a (2 ^ bits W) ≡ sign_fill a
quotient_by_all W (pos n) h =
    let two = double (bits W) (at_least_1 W) in
    let below : n < 2 ^ (bits W - 1) = grind arith in
    ap pos (div-eq_of_lt (omega arith)) ∙ sym (no_sign n)
quotient_by_all W (negsuc n) h =
    let two = double (bits W) (at_least_1 W) in
    let below : n < 2 ^ (bits W - 1) = grind arith in
    ap negsuc (div-eq_of_lt (omega arith))

arithmetic_by : (t : Bool) (W : Width) (count : IntegerType) (a b : ℤ) → is_count (bits W) b ≡ t → HasType (signed_type W) a → HasType count b →
    arithmetic_shift (bits W) (residue_of (bits W) a) (residue_of (width_of count) b) ≡ residue_of (bits W) (shifted_right (signed_type W) a b)
arithmetic_by true W count a b e h t =
    let w = bits W in
    let most = bits-at_most W in
    let n = residue_of (width_of count) b in
    let small : n ≡ unsigned_abs b = small_at count.width w b most e in
    let test : nat_lt n w ≡ true = count_is count w b most t ∙ e in
    ap (λ x. residue_of w (floor_quotient x (2 ^ (if nat_lt n w then n else w)))) (signed_word-residue_of W a h)
    ∙ ap (λ x. residue_of w (floor_quotient a (2 ^ (if x then n else w)))) test
    ∙ ap (λ x. residue_of w (floor_quotient a (2 ^ x))) small
    ∙ ap (λ x. residue_of w (if x then floor_quotient a (2 ^ unsigned_abs b) else sign_fill a)) (sym e)
arithmetic_by false W count a b e h t =
    let w = bits W in
    let most = bits-at_most W in
    let n = residue_of (width_of count) b in
    let test : nat_lt n w ≡ false = count_is count w b most t ∙ e in
    ap (λ x. residue_of w (floor_quotient x (2 ^ (if nat_lt n w then n else w)))) (signed_word-residue_of W a h)
    ∙ ap (λ x. residue_of w (floor_quotient a (2 ^ (if x then n else w)))) test
    ∙ ap (residue_of w) (quotient_by_all W a h)
    ∙ ap (λ x. residue_of w (if x then floor_quotient a (2 ^ unsigned_abs b) else sign_fill a)) (sym e)

pub arithmetic_shift_is : (W : Width) (count : IntegerType) (a b : ℤ) → HasType (signed_type W) a → HasType count b →
    arithmetic_shift (bits W) (residue_of (bits W) a) (residue_of (width_of count) b) ≡ residue_of (bits W) (shifted_right (signed_type W) a b)
arithmetic_shift_is W count a b h t = arithmetic_by (is_count (bits W) b) W count a b refl h t
