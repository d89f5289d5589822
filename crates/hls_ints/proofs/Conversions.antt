-- Conversion to a type gives a value of it, keeps the values that it has, and keeps the bits.
use Rattle.std.proofs.Common.{◌≡◌, ℕ, zero, suc, ◌+◌, ◌-◌, ◌%◌, ◌^◌, ◌<◌, ◌≤◌, Bool, true, false, ℤ, pos, negsuc, ◌-ℤ◌, ap, ◌∙◌, refl, arith, IsTrue, nat_lt}
use Rattle.std.proofs.Math.Nat.{mod-eq_of_lt, two-pow-succ}
use Rattle.std.proofs.lemmas.Nat.{pow_pos}
use Rattle.std.proofs.lemmas.Int.{ints}
use Rattle.std.proofs.lemmas.Bool.{lt-ltb}
use Rattle.hls_ints.specs.Residues.{residue_of, signed_value_of}
use Rattle.hls_ints.specs.Types.{Width, IntegerType, HasType, bits, width_of, in_signed_range, wrapped}
use Rattle.hls_ints.proofs.Ranges.{bits-at_least}

pub double : (w : ℕ) → 1 ≤ w → 2 ^ w ≡ 2 ^ (w - 1) + 2 ^ (w - 1)
double zero h = absurd (omega arith)
double (suc w) h = let e : suc w - 1 ≡ w = omega arith in rw e (two-pow-succ w)

-- a residue is a word
pub residue_of-below : (w : ℕ) (z : ℤ) → residue_of w z < 2 ^ w
unfolding residue_of
residue_of-below w (pos n) = let z = pow_pos w in omega arith
residue_of-below w (negsuc n) = let z = pow_pos w in omega arith

difference : (a n : ℕ) → pos a -ℤ pos (a + suc n) ≡ negsuc n
difference a n = grind (arith, ints)

-- a number that w bits spell has those bits
signed_same : (w : ℕ) (z : ℤ) → 1 ≤ w → IsTrue (in_signed_range (2 ^ (w - 1)) z) → signed_value_of w (residue_of w z) ≡ z
unfolding signed_value_of residue_of
signed_same w (pos n) h t =
    let half : 2 ^ w ≡ 2 ^ (w - 1) + 2 ^ (w - 1) = double w h in
    let below : n < 2 ^ (w - 1) = grind arith in
    let same : n % 2 ^ w ≡ n = mod-eq_of_lt (omega arith) in
    let test : nat_lt n (2 ^ (w - 1)) ≡ true = grind arith in
    rw (same, test)
signed_same w (negsuc n) h t =
    let half : 2 ^ w ≡ 2 ^ (w - 1) + 2 ^ (w - 1) = double w h in
    let below : n < 2 ^ (w - 1) = grind arith in
    let same : n % 2 ^ w ≡ n = mod-eq_of_lt (omega arith) in
    let test : nat_lt (2 ^ w - 1 - n) (2 ^ (w - 1)) ≡ false = grind arith in
    let all : 2 ^ w ≡ 2 ^ w - 1 - n + suc n = omega arith in
    rw (same, test) (ap (λ b. pos (2 ^ w - 1 - n) -ℤ pos b) all ∙ difference (2 ^ w - 1 - n) n)

-- a word in the lower half spells itself, one in the upper half a negative number
low_word : (w n : ℕ) → nat_lt n (2 ^ (w - 1)) ≡ true → signed_value_of w n ≡ pos n
unfolding signed_value_of
low_word w n test = rw test

high_word : (w n : ℕ) → n < 2 ^ w → nat_lt n (2 ^ (w - 1)) ≡ false → signed_value_of w n ≡ negsuc (2 ^ w - 1 - n)
unfolding signed_value_of
high_word w n below test =
    let all : 2 ^ w ≡ n + suc (2 ^ w - 1 - n) = omega arith in
    rw test (ap (λ b. pos n -ℤ pos b) all ∙ difference n (2 ^ w - 1 - n))

residue_of-pos : (w n : ℕ) → n < 2 ^ w → residue_of w (pos n) ≡ n
unfolding residue_of
residue_of-pos w n below = mod-eq_of_lt below

residue_of-negsuc : (w n : ℕ) → n < 2 ^ w → residue_of w (negsuc (2 ^ w - 1 - n)) ≡ n
unfolding residue_of
residue_of-negsuc w n below =
    let same : (2 ^ w - 1 - n) % 2 ^ w ≡ 2 ^ w - 1 - n = mod-eq_of_lt (omega arith) in
    rw same (omega arith)

-- the number that a word spells is within the signed range, and has the word's bits
range_by_half : (test : Bool) (w n : ℕ) → 1 ≤ w → n < 2 ^ w → nat_lt n (2 ^ (w - 1)) ≡ test → IsTrue (in_signed_range (2 ^ (w - 1)) (signed_value_of w n))
range_by_half true w n h below test = rw (low_word w n test) test
range_by_half false w n h below test =
    let half : 2 ^ w ≡ 2 ^ (w - 1) + 2 ^ (w - 1) = double w h in
    let back : 2 ^ w - 1 - n < 2 ^ (w - 1) = grind arith in
    rw (high_word w n below test) (lt-ltb (2 ^ w - 1 - n) (2 ^ (w - 1)) back)

bits_by_half : (test : Bool) (w n : ℕ) → n < 2 ^ w → nat_lt n (2 ^ (w - 1)) ≡ test → residue_of w (signed_value_of w n) ≡ n
bits_by_half true w n below test = rw (low_word w n test) (residue_of-pos w n below)
bits_by_half false w n below test = rw (high_word w n below test) (residue_of-negsuc w n below)

pub residue_of-signed_value_of : (w n : ℕ) → n < 2 ^ w → residue_of w (signed_value_of w n) ≡ n
residue_of-signed_value_of w n below = bits_by_half (nat_lt n (2 ^ (w - 1))) w n below refl

pub at_least_1 : (w : Width) → 1 ≤ bits w
at_least_1 w = let least = bits-at_least w in omega arith

range_at : (signed : Bool) (w : Width) (z : ℤ) → HasType (record { width = w; signed = signed }) (wrapped (record { width = w; signed = signed }) z)
unfolding wrapped
range_at true w z =
    let word = residue_of (bits w) z in
    range_by_half (nat_lt word (2 ^ (bits w - 1))) (bits w) word (at_least_1 w) (residue_of-below (bits w) z) refl
range_at false w z = lt-ltb (residue_of (bits w) z) (2 ^ bits w) (residue_of-below (bits w) z)

same_at : (signed : Bool) (w : Width) (z : ℤ) → HasType (record { width = w; signed = signed }) z → wrapped (record { width = w; signed = signed }) z ≡ z
unfolding wrapped residue_of
same_at true w z h = signed_same (bits w) z (at_least_1 w) h
same_at false w (pos n) h = let below : n < 2 ^ bits w = grind arith in ap pos (mod-eq_of_lt below)
same_at false w (negsuc n) h = cc

bits_at : (signed : Bool) (w : Width) (z : ℤ) → residue_of (bits w) (wrapped (record { width = w; signed = signed }) z) ≡ residue_of (bits w) z
unfolding wrapped
bits_at true w z = residue_of-signed_value_of (bits w) (residue_of (bits w) z) (residue_of-below (bits w) z)
bits_at false w z = residue_of-pos (bits w) (residue_of (bits w) z) (residue_of-below (bits w) z)

-- conversion gives a value of the type
pub wrapped-range : (ty : IntegerType) (z : ℤ) → HasType ty (wrapped ty z)
wrapped-range ty z = range_at ty.signed ty.width z

-- it keeps a value that the type has
pub wrapped-same : (ty : IntegerType) (z : ℤ) → HasType ty z → wrapped ty z ≡ z
wrapped-same ty z h = same_at ty.signed ty.width z h

-- it keeps the low bits
pub residue_of-wrapped : (ty : IntegerType) (z : ℤ) → residue_of (width_of ty) (wrapped ty z) ≡ residue_of (width_of ty) z
residue_of-wrapped ty z = bits_at ty.signed ty.width z
