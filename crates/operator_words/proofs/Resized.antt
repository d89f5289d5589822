-- Conversions by wires: low bits, zeros above, copies of the sign above.
use Rattle.std.proofs.Common.{◌≡◌, ℕ, zero, suc, ◌+◌, ◌-◌, ◌*◌, ◌/◌, ◌%◌, ◌^◌, ◌<◌, ◌≤◌, Bool, true, false, ℤ, pos, negsuc, ap, sym, subst, ◌∙◌, refl, arith, mul_comm}
use Rattle.std.proofs.Math.Nat.{mod-eq_of_lt, div-eq_of_lt, mul-add-mod_self_left, div-add-mod, div-lt_iff_lt-mul, add-div_left, two-pow-succ}
use Rattle.std.proofs.lemmas.Nat.{pow_pos, pow-add}
use Rattle.std.proofs.Math.Pow.{pow_mono}
use Rattle.hls_ints.specs.Residues.{residue_of}
use Rattle.hls_ints.specs.Types.{Width, HasType, bits}
use Rattle.hls_ints.proofs.Conversions.{at_least_1, double}
use Rattle.verilog_meaning.specs.Readings.{repeated}
use Rattle.operator_words.specs.Shown.{LowBitsShow, ZerosShow, SignShows}
use Rattle.operator_words.proofs.Typed.{signed_type, unsigned_type}

-- ---- low bits

factor : (t f : ℕ) → t ≤ f → 2 ^ f ≡ 2 ^ t * 2 ^ (f - t)
factor t f h = let e : f ≡ t + (f - t) = omega arith in ap (λ x. 2 ^ x) e ∙ pow-add 2 t (f - t)

-- the low bits of a number below a * k, and of its complement
low_of_low : (a k x : ℕ) → 0 < a → 0 < k → (x % (a * k)) % a ≡ x % a
low_of_low a k x h j =
    let q = x / (a * k) in
    let r = x % (a * k) in
    let whole : x ≡ a * (k * q) + r = omega (arith, div-add-mod x (a * k)) in
    sym (ap (λ y. y % a) whole ∙ mul-add-mod_self_left a (k * q) r)

turned : (a k x : ℕ) → 0 < a → x < a * k → (a * k - 1 - x) % a ≡ a - 1 - x % a
turned a k x h below =
    let q = x / a in
    let s = x % a in
    let whole : x ≡ a * q + s = omega (arith, div-add-mod x a) in
    let small : s < a = omega arith in
    let other : x < k * a = omega (arith, mul_comm k a) in
    let fits : q < k = (div-lt_iff_lt-mul {k = a} {x = x} {y = k} h).1 other in
    let d = k - 1 - q in
    let parts : k ≡ q + 1 + d = omega arith in
    let product : a * k ≡ a * (q + 1 + d) = ap (λ y. a * y) parts in
    let rest : a * k - 1 - x ≡ a * d + (a - 1 - s) = omega arith in
    ap (λ y. y % a) rest ∙ mul-add-mod_self_left a (k - 1 - q) (a - 1 - s) ∙ mod-eq_of_lt (omega arith)

low_bits_at : (t k : ℕ) (v : ℤ) (f : ℕ) → 2 ^ f ≡ 2 ^ t * 2 ^ k → residue_of f v % 2 ^ t ≡ residue_of t v
unfolding residue_of
low_bits_at t k (pos n) f e =
    let p = pow_pos t in
    let q = pow_pos k in
    ap (λ m. (n % m) % 2 ^ t) e ∙ low_of_low (2 ^ t) (2 ^ k) n p q
low_bits_at t k (negsuc n) f e =
    let p = pow_pos t in
    let q = pow_pos k in
    let below : n % (2 ^ t * 2 ^ k) < 2 ^ t * 2 ^ k = let whole : 0 < 2 ^ t * 2 ^ k = let z = pow_pos f in subst (λ x. 0 < x) e z in omega arith in
    ap (λ m. (m - 1 - n % m) % 2 ^ t) e
    ∙ turned (2 ^ t) (2 ^ k) (n % (2 ^ t * 2 ^ k)) p below
    ∙ ap (λ x. 2 ^ t - 1 - x) (low_of_low (2 ^ t) (2 ^ k) n p q)

-- the low bits of a word show the value at the narrower width
pub low_bits_are : (from to : ℕ) (v : ℤ) → to ≤ from → residue_of from v % 2 ^ to ≡ residue_of to v
low_bits_are from to v h = low_bits_at to (from - to) v from (factor to from h)

-- ---- zeros and copies of the sign above

-- all bits of n copies of a bit
pub repeated-zero : (n : ℕ) → repeated n 1 0 ≡ 0
repeated-zero zero = refl
repeated-zero (suc n) = let e = repeated-zero n in omega arith

repeated-one : (n : ℕ) → repeated n 1 1 + 1 ≡ 2 ^ n
repeated-one zero = refl
repeated-one (suc n) = let e = repeated-one n in omega (arith, two-pow-succ n)

pub with_zeros_are : (W : Width) (to : ℕ) (v : ℤ) → bits W ≤ to → HasType (unsigned_type W) v → residue_of (bits W) v ≡ residue_of to v
unfolding residue_of
with_zeros_are W to (pos n) h t =
    let below : n < 2 ^ bits W = grind arith in
    let up = factor (bits W) to h in
    let more : n < 2 ^ to = let wider = pow_mono h in omega arith in
    mod-eq_of_lt below ∙ sym (mod-eq_of_lt more)
with_zeros_are W to (negsuc n) h t = absurd cc

one_half : (h y : ℕ) → y < h → (h + y) / h ≡ 1
one_half h y below =
    let some : 0 < h = omega arith in
    let none : y / h ≡ 0 = div-eq_of_lt below in
    add-div_left y some ∙ ap (λ x. x + 1) none

-- copies of the sign above a signed word
with_sign_pos : (w to n : ℕ) → 1 ≤ w → w ≤ to → n < 2 ^ (w - 1) →
    repeated (to - w) 1 (((n % 2 ^ w) / 2 ^ (w - 1)) % 2 ^ 1) * 2 ^ w + n % 2 ^ w ≡ n % 2 ^ to
with_sign_pos w to n one h below =
    let two = double w one in
    let wider = pow_mono h in
    let small : n % 2 ^ w ≡ n = mod-eq_of_lt (omega arith) in
    let same : n % 2 ^ to ≡ n = mod-eq_of_lt (omega arith) in
    let sign : n / 2 ^ (w - 1) ≡ 0 = div-eq_of_lt below in
    rw (small, same, sign) (ap (λ x. x * 2 ^ w + n) (repeated-zero (to - w)) ∙ (let e : 0 * 2 ^ w + n ≡ n = omega arith in e))

with_sign_neg : (w to n : ℕ) → 1 ≤ w → w ≤ to → n < 2 ^ (w - 1) →
    repeated (to - w) 1 (((2 ^ w - 1 - n % 2 ^ w) / 2 ^ (w - 1)) % 2 ^ 1) * 2 ^ w + (2 ^ w - 1 - n % 2 ^ w) ≡ 2 ^ to - 1 - n % 2 ^ to
with_sign_neg w to n one h below =
    let two = double w one in
    let wider = pow_mono h in
    let small : n % 2 ^ w ≡ n = mod-eq_of_lt (omega arith) in
    let same : n % 2 ^ to ≡ n = mod-eq_of_lt (omega arith) in
    let upper : 2 ^ w - 1 - n ≡ 2 ^ (w - 1) + (2 ^ (w - 1) - 1 - n) = omega arith in
    let sign : (2 ^ w - 1 - n) / 2 ^ (w - 1) ≡ 1 = ap (λ x. x / 2 ^ (w - 1)) upper ∙ one_half (2 ^ (w - 1)) (2 ^ (w - 1) - 1 - n) (omega arith) in
    let ones = repeated-one (to - w) in
    let whole : 2 ^ to ≡ (repeated (to - w) 1 1 + 1) * 2 ^ w = factor w to h ∙ mul_comm (2 ^ w) (2 ^ (to - w)) ∙ ap (λ x. x * 2 ^ w) (sym ones) in
    rw (small, same, sign) (omega arith)

pub with_sign_are : (W : Width) (to : ℕ) (v : ℤ) → bits W ≤ to → HasType (signed_type W) v →
    repeated (to - bits W) 1 ((residue_of (bits W) v / 2 ^ (bits W - 1)) % 2 ^ 1) * 2 ^ bits W + residue_of (bits W) v ≡ residue_of to v
unfolding residue_of
with_sign_are W to (pos n) h t =
    let below : n < 2 ^ (bits W - 1) = grind arith in
    with_sign_pos (bits W) to n (at_least_1 W) h below
with_sign_are W to (negsuc n) h t =
    let below : n < 2 ^ (bits W - 1) = grind arith in
    with_sign_neg (bits W) to n (at_least_1 W) h below

zeros_at : (signed : Bool) (W : Width) (to : ℕ) (v : ℤ) → signed ≡ false → bits W ≤ to → HasType (record { width = W; signed = signed }) v → residue_of (bits W) v ≡ residue_of to v
zeros_at true W to v e h t = absurd cc
zeros_at false W to v e h t = with_zeros_are W to v h t

sign_at : (signed : Bool) (W : Width) (to : ℕ) (v : ℤ) → signed ≡ true → bits W ≤ to → HasType (record { width = W; signed = signed }) v →
    repeated (to - bits W) 1 ((residue_of (bits W) v / 2 ^ (bits W - 1)) % 2 ^ 1) * 2 ^ bits W + residue_of (bits W) v ≡ residue_of to v
sign_at true W to v e h t = with_sign_are W to v h t
sign_at false W to v e h t = absurd cc

pub low_bits_show : LowBitsShow
low_bits_show = low_bits_are

pub zeros_show : ZerosShow
zeros_show ty to v e h t = zeros_at ty.signed ty.width to v e h t

pub sign_shows : SignShows
sign_shows ty to v e h t = sign_at ty.signed ty.width to v e h t
