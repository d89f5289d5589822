-- How large the values of a type are.
use Rattle.std.proofs.Common.{◌≡◌, ℕ, ◌-◌, ◌*◌, ◌%◌, ◌^◌, ◌<◌, ◌≤◌, true, false, ℤ, pos, negsuc, arith, IsTrue, unsigned_abs, ◌*ℤ◌, FitsSigned, lit<, int_rem, ap, Ok, to_z, of_z, int_lt, neg_ℤ, suc}
use mir.Syntax.{Width, w128}
use Rattle.std.proofs.Math.Nat.{lt_of_le_of_lt, mul-le-mul_left, mod-le}
use Rattle.std.proofs.Math.Pow.{pow_mono}
use Rattle.std.proofs.lemmas.Nat.{pow_pos}
use Rattle.std.proofs.lemmas.Int.{to_z_pos, fits_signed_mul}
use lib.Signed.{mag_rem}
use Rattle.hls_ints.specs.Residues.{residue_of}
use Rattle.hls_ints.specs.Types.{IntegerType, HasType, bits, bits_8, bits_16, bits_32, bits_64, width_of, in_signed_range, in_unsigned_range, wrapped}
use Rattle.hls_ints.specs.Types as types
use Rattle.hls_ints.specs.Operators.{result_of, is_count, left_shift_of}
use Rattle.hls_ints.specs.declared.fault.ArithmeticFault.{ArithmeticFault}
use Rattle.hls_ints.specs.declared.fault.ArithmeticFault.TheVariants.{Shift}

-- a width has at least 8 bits and at most 64
pub bits-at_most : (w : types.Width) → bits w ≤ 64
bits-at_most bits_8 = omega arith
bits-at_most bits_16 = omega arith
bits-at_most bits_32 = omega arith
bits-at_most bits_64 = omega arith

pub bits-at_least : (w : types.Width) → 8 ≤ bits w
bits-at_least bits_8 = omega arith
bits-at_least bits_16 = omega arith
bits-at_least bits_32 = omega arith
bits-at_least bits_64 = omega arith

-- the sizes of the ranges
signed_abs : (h : ℕ) (z : ℤ) → IsTrue (in_signed_range h z) → unsigned_abs z ≤ h
signed_abs h (pos n) t = grind arith
signed_abs h (negsuc n) t = grind arith

half_power : (w : ℕ) → w ≤ 64 → 2 ^ (w - 1) ≤ 2 ^ 63
half_power w h = pow_mono {i = w - 1} {j = 63} (omega arith)

signed_range : (ty : IntegerType) (z : ℤ) → ty.signed ≡ true → HasType ty z → IsTrue (in_signed_range (2 ^ (width_of ty - 1)) z)
signed_range ty z s h = rw s at h

unsigned_range : (ty : IntegerType) (z : ℤ) → ty.signed ≡ false → HasType ty z → IsTrue (in_unsigned_range (2 ^ width_of ty) z)
unsigned_range ty z s h = rw s at h

abs_at_most : (ty : IntegerType) (z : ℤ) → ty.signed ≡ true → HasType ty z → unsigned_abs z ≤ 2 ^ 63
abs_at_most ty z s h =
    let half = half_power (width_of ty) (bits-at_most ty.width) in
    let below = signed_abs (2 ^ (width_of ty - 1)) z (signed_range ty z s h) in
    omega arith

-- the product of two values of a signed type fits 128 bits
pub fits_product : (ty : IntegerType) (a b : ℤ) → ty.signed ≡ true → HasType ty a → HasType ty b → FitsSigned w128 (a *ℤ b)
fits_product ty a b s p q =
    fits_signed_mul w128 a b (2 ^ 63) (2 ^ 63) (abs_at_most ty a s p) (abs_at_most ty b s q) (lit< tt)

-- modulo 2 ^ w, the product taken without a sign is the product
product_bits : (w : ℕ) (a b : ℤ) → w ≤ 64 → IsTrue (in_unsigned_range (2 ^ w) a) → IsTrue (in_unsigned_range (2 ^ w) b)
    → to_z w128 (unsigned_abs a * unsigned_abs b % (1 * 2 ^ w % 2 ^ 128)) ≡ pos (residue_of w (a *ℤ b))
unfolding residue_of
product_bits w (pos a) (pos b) h p q =
    let le = pow_mono h in
    let z = pow_pos w in
    let m : 1 * 2 ^ w % 2 ^ 128 ≡ 2 ^ w = omega arith in
    let lt : a * b % 2 ^ w < 2 ^ 127 = omega arith in
    rw m (to_z_pos w128 _ lt)
product_bits w (pos a) (negsuc b) h p q = cc
product_bits w (negsuc a) b h p q = cc

-- the product of two values of an unsigned type, computed without a sign
pub unsigned_product : (fault : ArithmeticFault) (ty : IntegerType) (a b : ℤ) → ty.signed ≡ false → HasType ty a → HasType ty b
    → Ok (to_z w128 (unsigned_abs a * unsigned_abs b % (1 * 2 ^ width_of ty % 2 ^ 128))) ≡ result_of fault ty (a *ℤ b)
unfolding result_of wrapped
unsigned_product fault ty a b s p q =
    rw s
    (ap Ok (product_bits (width_of ty) a b (bits-at_most ty.width) (unsigned_range ty a s p) (unsigned_range ty b s q)))

-- a value that is not negative has at most 64 bits
value_at_most : (ty : IntegerType) (n : ℕ) → HasType ty (pos n) → n < 2 ^ 64
value_at_most ty n h =
    let w = bits-at_most ty.width in
    let half = half_power (width_of ty) w in
    let all = pow_mono w in
    grind (arith, half, all, h)

pub rem_fits : (w : Width) (a d : ℤ) → FitsSigned w a → FitsSigned w (int_rem a d)
rem_fits w a d f = record { sfits = lt_of_le_of_lt (mag_rem a d) f.sfits }

rem_range_pos : (ty : IntegerType) (n : ℕ) (d : ℤ) → HasType ty (pos n) → HasType ty (pos (n % unsigned_abs d))
rem_range_pos ty n d h = let le = mod-le n (unsigned_abs d) in grind (arith, le, h)

rem_range_negsuc : (ty : IntegerType) (n : ℕ) (d : ℤ) → HasType ty (negsuc n) → HasType ty (neg_ℤ (pos (suc n % unsigned_abs d)))
rem_range_negsuc ty n d h = let le = mod-le (suc n) (unsigned_abs d) in grind (arith, le, h)

-- a remainder is no further from 0 than its dividend, on the same side
pub rem_range : (ty : IntegerType) (a d : ℤ) → HasType ty a → HasType ty (int_rem a d)
rem_range ty (pos n) d h = rem_range_pos ty n d h
rem_range ty (negsuc n) d h = rem_range_negsuc ty n d h

-- a left shift of a value that is not negative loses nothing in 128 bits
pub shifted : (ty : IntegerType) (a b : ℤ) → HasType ty a → IsTrue (is_count (width_of ty) b) → int_lt a (pos 0) ≡ false
    → to_z w128 (of_z w128 a * 2 ^ unsigned_abs b % 2 ^ 128) ≡ a *ℤ pos (2 ^ unsigned_abs b)
shifted ty (pos m) (pos n) h count p =
    let w = bits-at_most ty.width in
    let v = value_at_most ty m h in
    let few : n ≤ 63 = grind arith in
    let power : 2 ^ n ≤ 2 ^ 63 = pow_mono {i = n} {j = 63} few in
    let lt : m * 2 ^ n < 2 ^ 127 = omega (arith, mul-le-mul_left m power) in
    let same : m * 2 ^ n % 2 ^ 128 ≡ m * 2 ^ n = omega arith in
    rw same (to_z_pos w128 _ lt)
shifted ty (pos m) (negsuc n) h count p = cc
shifted ty (negsuc m) b h count p = cc

-- a left shift of such a value by a count that is allowed
pub left_shift_at : (ty : IntegerType) (a b : ℤ) → is_count (width_of ty) b ≡ true → int_lt a (pos 0) ≡ false → left_shift_of ty a b ≡ result_of Shift ty (a *ℤ pos (2 ^ unsigned_abs b))
left_shift_at ty a b count at_least_0 = rw (count, at_least_0)
