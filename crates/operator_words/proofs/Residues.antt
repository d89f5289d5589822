-- Sums, differences and products of words are those of the numbers, modulo 2 to the width.
use Rattle.std.proofs.Common.{◌≡◌, ℕ, ◌-◌, ◌%◌, ◌^◌, ◌<◌, ℤ, pos, negsuc, ◌+ℤ◌, ◌-ℤ◌, ◌*ℤ◌, neg_ℤ, ap, sym, ◌∙◌, refl, arith, bit_and, bit_or, bit_xor}
use Rattle.std.proofs.Math.Nat.{mod-eq_of_lt}
use Rattle.std.proofs.lemmas.Nat.{pow_pos, and_le_l, or_lt, xor_lt}
use Rattle.std.proofs.lemmas.Int.{ints, of_z-to_z, wrapping_add-bits, wrapping_mul-bits, int_wrap-add_left, int_wrap-add_right, int_wrap-sub_right, int_wrap-mul_left}
use Rattle.std.proofs.lemmas.Int.{int_wrap-mul_right, int_wrap-add_same}
use Rattle.std.specs.Int.{cast_signed, cast_unsigned, int_wrap}
use mir.Syntax.{w8, w16, w32, w64, Width as MachineWidth}
use mir.Val.{bits as machine_bits}
use Rattle.hls_ints.specs.Residues.{residue_of}
use Rattle.hls_ints.specs.Types.{Width, bits_8, bits_16, bits_32, bits_64, bits}
use Rattle.hls_ints.specs.Words.{word, word_sum, word_difference, word_product, word_complement, word_and, word_exclusive_or, word_inclusive_or}
use Rattle.hls_ints.proofs.Conversions.{residue_of-below}

-- a word is its own residue
pub word-residue_of : (w : ℕ) (z : ℤ) → word w (residue_of w z) ≡ residue_of w z
word-residue_of w z = mod-eq_of_lt (residue_of-below w z)

pub residue_of-word : (w n : ℕ) → residue_of w (pos n) ≡ word w n
unfolding residue_of
residue_of-word w n = refl

pub residue_of-residue_of : (w : ℕ) (z : ℤ) → residue_of w (pos (residue_of w z)) ≡ residue_of w z
residue_of-residue_of w z = residue_of-word w (residue_of w z) ∙ word-residue_of w z

module _ (W : MachineWidth) where
  abbrev w : ℕ
  w = machine_bits W

  wrap_is : (z : ℤ) → int_wrap W z ≡ cast_signed W (residue_of w z)
  unfolding int_wrap residue_of
  wrap_is (pos n) = refl
  wrap_is (negsuc n) = refl

  back : (z : ℤ) (n : ℕ) → n < 2 ^ w → cast_signed W n ≡ int_wrap W z → n ≡ residue_of w z
  back z n below e =
      sym (of_z-to_z W n below) ∙ ap (cast_unsigned W) (e ∙ wrap_is z) ∙ of_z-to_z W (residue_of w z) (residue_of-below w z)

  from_wrap : (y z : ℤ) → int_wrap W y ≡ int_wrap W z → residue_of w y ≡ residue_of w z
  from_wrap y z e = back z (residue_of w y) (residue_of-below w y) (sym (wrap_is y) ∙ e)

  wrap_residue : (z : ℤ) → int_wrap W (pos (residue_of w z)) ≡ int_wrap W z
  wrap_residue z = wrap_is (pos (residue_of w z)) ∙ ap (cast_signed W) (residue_of-residue_of w z) ∙ sym (wrap_is z)

  sum_at : (a b : ℤ) → word_sum w (residue_of w a) (residue_of w b) ≡ residue_of w (a +ℤ b)
  sum_at a b =
      let below : word_sum w (residue_of w a) (residue_of w b) < 2 ^ w = let z = pow_pos w in omega arith in
      back (a +ℤ b) (word_sum w (residue_of w a) (residue_of w b)) below
      (wrapping_add-bits W (residue_of w a) (residue_of w b) (residue_of-below w a) (residue_of-below w b)
      ∙ ap (λ x. int_wrap W (x +ℤ cast_signed W (residue_of w b))) (sym (wrap_is a))
      ∙ ap (λ x. int_wrap W (int_wrap W a +ℤ x)) (sym (wrap_is b))
      ∙ int_wrap-add_left W a (int_wrap W b) ∙ int_wrap-add_right W a b)

  product_at : (a b : ℤ) → word_product w (residue_of w a) (residue_of w b) ≡ residue_of w (a *ℤ b)
  product_at a b =
      let below : word_product w (residue_of w a) (residue_of w b) < 2 ^ w = let z = pow_pos w in omega arith in
      back (a *ℤ b) (word_product w (residue_of w a) (residue_of w b)) below
      (wrapping_mul-bits W (residue_of w a) (residue_of w b) (residue_of-below w a) (residue_of-below w b)
      ∙ ap (λ x. int_wrap W (x *ℤ cast_signed W (residue_of w b))) (sym (wrap_is a))
      ∙ ap (λ x. int_wrap W (int_wrap W a *ℤ x)) (sym (wrap_is b))
      ∙ int_wrap-mul_left W a (int_wrap W b) ∙ int_wrap-mul_right W a b)

  difference_at : (a b : ℤ) → word_difference w (residue_of w a) (residue_of w b) ≡ residue_of w (a -ℤ b)
  difference_at a b =
      let A = pos (residue_of w a) in
      let B = pos (residue_of w b) in
      from_wrap (A -ℤ B) (a -ℤ b)
      (int_wrap-add_same W A a (neg_ℤ B) (wrap_residue a)
      ∙ sym (int_wrap-sub_right W a B) ∙ ap (λ x. int_wrap W (a -ℤ x)) (wrap_residue b) ∙ int_wrap-sub_right W a b)

-- at the widths of C
pub sum_is : (W : Width) (a b : ℤ) → word_sum (bits W) (residue_of (bits W) a) (residue_of (bits W) b) ≡ residue_of (bits W) (a +ℤ b)
sum_is bits_8 a b = sum_at w8 a b
sum_is bits_16 a b = sum_at w16 a b
sum_is bits_32 a b = sum_at w32 a b
sum_is bits_64 a b = sum_at w64 a b

pub difference_is : (W : Width) (a b : ℤ) → word_difference (bits W) (residue_of (bits W) a) (residue_of (bits W) b) ≡ residue_of (bits W) (a -ℤ b)
difference_is bits_8 a b = difference_at w8 a b
difference_is bits_16 a b = difference_at w16 a b
difference_is bits_32 a b = difference_at w32 a b
difference_is bits_64 a b = difference_at w64 a b

pub product_is : (W : Width) (a b : ℤ) → word_product (bits W) (residue_of (bits W) a) (residue_of (bits W) b) ≡ residue_of (bits W) (a *ℤ b)
product_is bits_8 a b = product_at w8 a b
product_is bits_16 a b = product_at w16 a b
product_is bits_32 a b = product_at w32 a b
product_is bits_64 a b = product_at w64 a b

zero_minus : (a : ℤ) → pos 0 -ℤ a ≡ neg_ℤ a
zero_minus a = omega (arith, ints)

pub residue_of-zero : (w : ℕ) → residue_of w (pos 0) ≡ 0
residue_of-zero w = let z = pow_pos w in residue_of-word w 0 ∙ mod-eq_of_lt z

pub negation_is : (W : Width) (a : ℤ) → word_difference (bits W) 0 (residue_of (bits W) a) ≡ residue_of (bits W) (neg_ℤ a)
negation_is W a =
    ap (λ x. word_difference (bits W) x (residue_of (bits W) a)) (sym (residue_of-zero (bits W))) ∙ difference_is W (pos 0) a ∙ ap (residue_of (bits W)) (zero_minus a)

minus_one : (n : ℕ) → negsuc 0 -ℤ pos n ≡ negsuc n
minus_one n = omega (arith, ints)

minus_one_more : (n : ℕ) → negsuc 0 -ℤ negsuc n ≡ pos n
minus_one_more n = omega (arith, ints)

complement_residue : (w : ℕ) (a : ℤ) → 2 ^ w - 1 - residue_of w a ≡ residue_of w (negsuc 0 -ℤ a)
unfolding residue_of
complement_residue w (pos n) = ap (residue_of w) (sym (minus_one n))
complement_residue w (negsuc n) =
    let z = pow_pos w in
    let twice : 2 ^ w - 1 - (2 ^ w - 1 - n % 2 ^ w) ≡ n % 2 ^ w = omega arith in
    twice ∙ ap (residue_of w) (sym (minus_one_more n))

-- each bit turned
pub complement_is : (w : ℕ) (a : ℤ) → word_complement w (residue_of w a) ≡ residue_of w (negsuc 0 -ℤ a)
complement_is w a = ap (λ x. 2 ^ w - 1 - x) (word-residue_of w a) ∙ complement_residue w a

both_words : (f : ℕ → ℕ → ℕ) (w : ℕ) (a b : ℤ) → f (word w (residue_of w a)) (word w (residue_of w b)) ≡ f (residue_of w a) (residue_of w b)
both_words f w a b = ap (λ x. f x (word w (residue_of w b))) (word-residue_of w a) ∙ ap (f (residue_of w a)) (word-residue_of w b)

-- bit by bit
pub and_is : (w : ℕ) (a b : ℤ) → word_and w (residue_of w a) (residue_of w b) ≡ residue_of w (pos (bit_and (residue_of w a) (residue_of w b)))
and_is w a b =
    let less = and_le_l (residue_of w a) (residue_of w b) in
    let left = residue_of-below w a in
    let below : bit_and (residue_of w a) (residue_of w b) < 2 ^ w = omega arith in
    both_words bit_and w a b ∙ sym (residue_of-word w (bit_and (residue_of w a) (residue_of w b)) ∙ mod-eq_of_lt below)

pub exclusive_or_is : (w : ℕ) (a b : ℤ) → word_exclusive_or w (residue_of w a) (residue_of w b) ≡ residue_of w (pos (bit_xor (residue_of w a) (residue_of w b)))
exclusive_or_is w a b =
    let below = xor_lt w (residue_of w a) (residue_of w b) (residue_of-below w a) (residue_of-below w b) in
    both_words bit_xor w a b ∙ sym (residue_of-word w (bit_xor (residue_of w a) (residue_of w b)) ∙ mod-eq_of_lt below)

pub inclusive_or_is : (w : ℕ) (a b : ℤ) → word_inclusive_or w (residue_of w a) (residue_of w b) ≡ residue_of w (pos (bit_or (residue_of w a) (residue_of w b)))
inclusive_or_is w a b =
    let below = or_lt w (residue_of w a) (residue_of w b) (residue_of-below w a) (residue_of-below w b) in
    both_words bit_or w a b ∙ sym (residue_of-word w (bit_or (residue_of w a) (residue_of w b)) ∙ mod-eq_of_lt below)
