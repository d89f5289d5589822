-- The bank and the address of an element are those of the number of 64 bits of its index.
use Rattle.std.proofs.Common.{◌≡◌, ℕ, suc, ◌+◌, ◌-◌, ◌*◌, ◌/◌, ◌%◌, ◌^◌, ◌<◌, ◌≤◌, ◌⊎◌, nat_lt, Bool, true, false}
use Rattle.std.proofs.Common.{if◌then◌else◌, List, slice_get, Option, Some, ℤ, pos, negsuc, refl, sym, ap, subst, ◌∙◌}
use Rattle.std.proofs.Common.{arith, ⊎_elim}
use Rattle.std.proofs.lemmas.Bool.{cases_lt}
use Rattle.std.proofs.lemmas.Bool.Decides.{nat_tests}
use Rattle.std.proofs.Math.Nat.{mod-eq_of_lt}
use Rattle.std.proofs.Math.Pow.{pow_mono}
use Rattle.std.proofs.lemmas.Nat.{div-add-mod'}
use Rattle.hls_ints.specs.Residues.{residue_of}
use Rattle.hls_ints.specs.Types.{IntegerType, HasType, bits}
use Rattle.hls_ints.specs.Types as types
use Rattle.hls_ints.proofs.Ranges.{bits-at_most}
use Rattle.bank_partition.specs.declared.banks.Spread.{Spread}
use Rattle.bank_partition.specs.Counts.{words_of}
use Rattle.bank_partition.proofs.BankCount.{has_element}
use Rattle.block_ir.specs.Run.{global_read, global_written}
use Rattle.planned_block.specs.Block.{element}
use Rattle.thread_promise.specs.Globals.{IsSmallPower, bank_total, bank_at, bank_of, IsAddress}

by_power : (P : ℕ → Type 0) (K : ℕ) → IsSmallPower K → P 1 → P 2 → P 4 → P 8 → P K
by_power P K power one two four eight =
    ⊎_elim (λ (e : K ≡ 1). subst P (sym e) one)
    (λ (other : (K ≡ 2) ⊎ ((K ≡ 4) ⊎ (K ≡ 8))).
    ⊎_elim (λ (e : K ≡ 2). subst P (sym e) two)
    (λ (more : (K ≡ 4) ⊎ (K ≡ 8)). ⊎_elim (λ (e : K ≡ 4). subst P (sym e) four) (λ (e : K ≡ 8). subst P (sym e) eight) more)
    other)
    power

-- ---- residues

positive : (w n : ℕ) → residue_of w (pos n) ≡ n % 2 ^ w
unfolding residue_of
positive w n = refl

negative : (w n : ℕ) → residue_of w (negsuc n) ≡ 2 ^ w - 1 - n % 2 ^ w
unfolding residue_of
negative w n = refl

-- the last bits of an index, of its number, and of a place outside
wide_bits : (j K : ℕ) → IsSmallPower K → (j % 2 ^ 64) % K ≡ j % K
wide_bits j K power =
    by_power (λ k. (j % 2 ^ 64) % k ≡ j % k) K power (let e : (j % 2 ^ 64) % 1 ≡ j % 1 = omega arith in e) (let e : (j % 2 ^ 64) % 2 ≡ j % 2 = omega arith in e)
    (let e : (j % 2 ^ 64) % 4 ≡ j % 4 = omega arith in e) (let e : (j % 2 ^ 64) % 8 ≡ j % 8 = omega arith in e)

outside_bits : (a j K : ℕ) → IsSmallPower K → (16 * a + j % 8) % K ≡ j % K
outside_bits a j K power =
    by_power (λ k. (16 * a + j % 8) % k ≡ j % k) K power (let e : (16 * a + j % 8) % 1 ≡ j % 1 = omega arith in e) (let e : (16 * a + j % 8) % 2 ≡ j % 2 = omega arith in e)
    (let e : (16 * a + j % 8) % 4 ≡ j % 4 = omega arith in e) (let e : (16 * a + j % 8) % 8 ≡ j % 8 = omega arith in e)

behind_bits : (a j K : ℕ) → IsSmallPower K → (16 * a + 8 + j % 8) % K ≡ j % K
behind_bits a j K power =
    by_power (λ k. (16 * a + 8 + j % 8) % k ≡ j % k) K power (let e : (16 * a + 8 + j % 8) % 1 ≡ j % 1 = omega arith in e)
    (let e : (16 * a + 8 + j % 8) % 2 ≡ j % 2 = omega arith in e) (let e : (16 * a + 8 + j % 8) % 4 ≡ j % 4 = omega arith in e)
    (let e : (16 * a + 8 + j % 8) % 8 ≡ j % 8 = omega arith in e)

-- of a negative index
turned_bits : (j K : ℕ) → IsSmallPower K → (8 - 1 - j % 8) % K ≡ (2 ^ 64 - 1 - j % 2 ^ 64) % K
turned_bits j K power =
    by_power (λ k. (8 - 1 - j % 8) % k ≡ (2 ^ 64 - 1 - j % 2 ^ 64) % k) K power (let e : (8 - 1 - j % 8) % 1 ≡ (2 ^ 64 - 1 - j % 2 ^ 64) % 1 = omega arith in e)
    (let e : (8 - 1 - j % 8) % 2 ≡ (2 ^ 64 - 1 - j % 2 ^ 64) % 2 = omega arith in e) (let e : (8 - 1 - j % 8) % 4 ≡ (2 ^ 64 - 1 - j % 2 ^ 64) % 4 = omega arith in e)
    (let e : (8 - 1 - j % 8) % 8 ≡ (2 ^ 64 - 1 - j % 2 ^ 64) % 8 = omega arith in e)

shifted_bits : (a c K : ℕ) → IsSmallPower K → (16 * a + c) % K ≡ c % K
shifted_bits a c K power =
    by_power (λ k. (16 * a + c) % k ≡ c % k) K power (let e : (16 * a + c) % 1 ≡ c % 1 = omega arith in e) (let e : (16 * a + c) % 2 ≡ c % 2 = omega arith in e)
    (let e : (16 * a + c) % 4 ≡ c % 4 = omega arith in e) (let e : (16 * a + c) % 8 ≡ c % 8 = omega arith in e)

-- ---- the bank

read_inside : (n j K : ℕ) (t : Bool) → IsSmallPower K → (if t then j else 16 * suc n + residue_of 3 (pos j)) % K ≡ residue_of 64 (pos j) % K
read_inside n j K true power = sym (wide_bits j K power) ∙ ap (λ c. c % K) (sym (positive 64 j))
read_inside n j K false power =
    ap (λ c. (16 * suc n + c) % K) (positive 3 j) ∙ outside_bits (suc n) j K power ∙ sym (wide_bits j K power) ∙ ap (λ c. c % K) (sym (positive 64 j))

pub same_read : (n : ℕ) (v : ℤ) (K : ℕ) → IsSmallPower K → global_read n v % K ≡ residue_of 64 v % K
same_read n (pos j) K power = read_inside n j K (nat_lt j n) power
same_read n (negsuc j) K power =
    ap (λ c. (16 * suc n + c) % K) (negative 3 j) ∙ shifted_bits (suc n) (8 - 1 - j % 8) K power ∙ turned_bits j K power ∙ ap (λ c. c % K) (sym (negative 64 j))

written_inside : (n j K : ℕ) (t : Bool) → IsSmallPower K → (if t then j else 16 * suc n + 8 + residue_of 3 (pos j)) % K ≡ residue_of 64 (pos j) % K
written_inside n j K true power = sym (wide_bits j K power) ∙ ap (λ c. c % K) (sym (positive 64 j))
written_inside n j K false power =
    ap (λ c. (16 * suc n + 8 + c) % K) (positive 3 j) ∙ behind_bits (suc n) j K power ∙ sym (wide_bits j K power) ∙ ap (λ c. c % K) (sym (positive 64 j))

eight_more : (a c K : ℕ) → IsSmallPower K → (16 * a + 8 + c) % K ≡ c % K
eight_more a c K power =
    by_power (λ k. (16 * a + 8 + c) % k ≡ c % k) K power (let e : (16 * a + 8 + c) % 1 ≡ c % 1 = omega arith in e) (let e : (16 * a + 8 + c) % 2 ≡ c % 2 = omega arith in e)
    (let e : (16 * a + 8 + c) % 4 ≡ c % 4 = omega arith in e) (let e : (16 * a + 8 + c) % 8 ≡ c % 8 = omega arith in e)

pub same_written : (n : ℕ) (v : ℤ) (K : ℕ) → IsSmallPower K → global_written n v % K ≡ residue_of 64 v % K
same_written n (pos j) K power = written_inside n j K (nat_lt j n) power
same_written n (negsuc j) K power =
    ap (λ c. (16 * suc n + 8 + c) % K) (negative 3 j) ∙ eight_more (suc n) (8 - 1 - j % 8) K power ∙ turned_bits j K power ∙ ap (λ c. c % K) (sym (negative 64 j))

module _ (spreads : List Spread) (x : ℕ) (s : Spread) (listed : slice_get spreads x ≡ Some s) (power : IsSmallPower s.count) where
  at_bank : (k : ℕ) → bank_of spreads (element x (pos k)) ≡ s.first + k % s.count
  at_bank k = ap (λ (o : Option Spread). bank_at (bank_total spreads) o (element x (pos k))) listed

  -- THE BANK OF AN ACCESS is that of its index's last bits
  pub bank_read : (n : ℕ) (v : ℤ) → bank_of spreads (element x (pos (global_read n v))) ≡ s.first + residue_of 64 v % s.count
  bank_read n v = at_bank (global_read n v) ∙ ap (λ k. s.first + k) (same_read n v s.count power)

  pub bank_written : (n : ℕ) (v : ℤ) → bank_of spreads (element x (pos (global_written n v))) ≡ s.first + residue_of 64 v % s.count
  bank_written n v = at_bank (global_written n v) ∙ ap (λ k. s.first + k) (same_written n v s.count power)

-- ---- the address

-- a number that is none of n has an address behind the last word of its bank
past_words : (K n N : ℕ) → IsSmallPower K → n ≤ N → words_of K (N % K) n ≤ N / K
past_words K n N power le =
    ⊎_elim
    (λ (less : N / K < words_of K (N % K) n).
    absurd (let within = has_element K (N % K) n (N / K) below less in let whole = (div-add-mod' N K) in omega arith))
    (λ (done : words_of K (N % K) n ≤ N / K). done)
    (cases_lt (N / K) (words_of K (N % K) n))
  where
    below : N % K < K
    below = by_power (λ k. N % k < k) K power (let e : N % 1 < 1 = omega arith in e) (let e : N % 2 < 2 = omega arith in e) (let e : N % 4 < 4 = omega arith in e)
        (let e : N % 8 < 8 = omega arith in e)

positive_fits : (signed : Bool) (W : types.Width) (n : ℕ) → HasType (record { width = W; signed = signed }) (pos n) → n < 2 ^ 64
positive_fits true W n h =
    let most = bits-at_most W in
    let below : n < 2 ^ (bits W - 1) = grind arith in
    let power = pow_mono {i = bits W - 1} {j = 64} (omega arith) in
    omega arith
positive_fits false W n h =
    let most = bits-at_most W in
    let below : n < 2 ^ bits W = grind arith in
    let power = pow_mono {i = bits W} {j = 64} (omega arith) in
    omega arith

negative_fits : (signed : Bool) (W : types.Width) (n : ℕ) → HasType (record { width = W; signed = signed }) (negsuc n) → n < 2 ^ 63
negative_fits true W n h =
    let most = bits-at_most W in
    let below : n < 2 ^ (bits W - 1) = grind arith in
    let power = pow_mono {i = bits W - 1} {j = 63} (omega arith) in
    omega arith
negative_fits false W n h = absurd cc

-- an access at place p, whose index has the number N: inside the place is the number, outside the last bits are the same
address_is : (s : Spread) (p N : ℕ) → IsSmallPower s.count → p % s.count ≡ N % s.count → (p < s.length → p ≡ N) → (s.length ≤ p → s.length ≤ N) → IsAddress s p (N / s.count)
address_is s p N power bits_ same past = record {
  inside = λ less. ap (λ k. k / s.count) (sym (same less));
  outside = λ le. subst (λ k. words_of s.count k s.length ≤ N / s.count) (sym bits_) (past_words s.count s.length N power (past le));
}

module _ (s : Spread) (power : IsSmallPower s.count) (short : s.length ≤ 2 ^ 63) where
  positive_place : (p j : ℕ) (t : Bool) → nat_lt j s.length ≡ t → j < 2 ^ 64 → p % s.count ≡ residue_of 64 (pos j) % s.count → (out : ℕ) → s.length ≤ out →
      p ≡ (if t then j else out) →
      IsAddress s p (residue_of 64 (pos j) / s.count)
  positive_place p j true e small last out le is =
      let number : residue_of 64 (pos j) ≡ j = positive 64 j ∙ mod-eq_of_lt small in
      let less : j < s.length = grind (arith, nat_tests) in
      address_is s p (residue_of 64 (pos j)) power last (λ l. is ∙ sym number) (λ l. absurd (omega arith))
  positive_place p j false e small last out le is =
      let number : residue_of 64 (pos j) ≡ j = positive 64 j ∙ mod-eq_of_lt small in
      let past : s.length ≤ j = grind (arith, nat_tests) in
      address_is s p (residue_of 64 (pos j)) power last (λ l. absurd (omega arith)) (λ l. omega arith)

  negative_place : (p j : ℕ) → j < 2 ^ 63 → p % s.count ≡ residue_of 64 (negsuc j) % s.count → s.length ≤ p → IsAddress s p (residue_of 64 (negsuc j) / s.count)
  negative_place p j small last le =
      let number : residue_of 64 (negsuc j) ≡ 2 ^ 64 - 1 - j % 2 ^ 64 = negative 64 j in
      let same : j % 2 ^ 64 ≡ j = mod-eq_of_lt (omega arith) in
      address_is s p (residue_of 64 (negsuc j)) power last (λ l. absurd (omega arith)) (λ l. omega arith)

  -- THE ADDRESS OF AN ACCESS is that of its index's number
  pub address_read : (ty : IntegerType) (v : ℤ) → HasType ty v → IsAddress s (global_read s.length v) (residue_of 64 v / s.count)
  address_read ty (pos j) typed =
      positive_place (global_read s.length (pos j)) j (nat_lt j s.length) refl (positive_fits ty.signed ty.width j typed) (same_read s.length (pos j) s.count power)
      (16 * suc s.length + residue_of 3 (pos j)) (omega arith) refl
  address_read ty (negsuc j) typed =
      negative_place (global_read s.length (negsuc j)) j (negative_fits ty.signed ty.width j typed) (same_read s.length (negsuc j) s.count power)
      (let e : s.length ≤ 16 * suc s.length + residue_of 3 (negsuc j) = omega arith in e)

  pub address_written : (ty : IntegerType) (v : ℤ) → HasType ty v → IsAddress s (global_written s.length v) (residue_of 64 v / s.count)
  address_written ty (pos j) typed =
      positive_place (global_written s.length (pos j)) j (nat_lt j s.length) refl (positive_fits ty.signed ty.width j typed) (same_written s.length (pos j) s.count power)
      (16 * suc s.length + 8 + residue_of 3 (pos j)) (omega arith) refl
  address_written ty (negsuc j) typed =
      negative_place (global_written s.length (negsuc j)) j (negative_fits ty.signed ty.width j typed) (same_written s.length (negsuc j) s.count power)
      (let e : s.length ≤ 16 * suc s.length + 8 + residue_of 3 (negsuc j) = omega arith in e)
