-- The number of banks is the greatest power of two that is allowed, and the words of a bank are counted.
use Rattle.std.proofs.Common.{◌≡◌, ℕ, zero, suc, ◌+◌, ◌*◌, ◌/◌, ◌%◌, ◌^◌, ◌<◌, ◌≤◌, ◌⊎◌, min, nat_eq, nat_lt, refl, sym, ap, ◌∙◌, subst, inl, inr, ⊎_elim, arith}
use Rattle.std.specs.Prelude.{Bool, true, false, nat_le, if◌then◌else◌}
use Rattle.std.proofs.lemmas.Bool.Decides.{nat_tests}
use Rattle.std.proofs.lemmas.Nat.{div-mul-add, mod-mul-add, div-add-mod', pow_pos}
use Rattle.std.proofs.Math.Nat.{pow-suc, suc-mul}
use Rattle.bank_partition.specs.Counts.{power_from, power_within, bank_count, one_if, words_of, IsPower, IsBankCount}

-- ---- powers of two

large : (e : ℕ) → 16 ≤ 2 ^ suc (suc (suc (suc e)))
large e =
    let a : 2 ^ suc (suc (suc (suc e))) ≡ 2 ^ suc (suc (suc e)) * 2 = pow-suc 2 (suc (suc (suc e))) in
    let b : 2 ^ suc (suc (suc e)) ≡ 2 ^ suc (suc e) * 2 = pow-suc 2 (suc (suc e)) in
    let c : 2 ^ suc (suc e) ≡ 2 ^ suc e * 2 = pow-suc 2 (suc e) in
    let d : 2 ^ suc e ≡ 2 ^ e * 2 = pow-suc 2 e in
    let p : 0 < 2 ^ e = pow_pos e in
    omega arith

-- a power of two is 1, 2, 4 or 8, or at least 16
abbrev IsNear : ℕ → Type 0
IsNear n = (n ≡ 1) ⊎ ((n ≡ 2) ⊎ ((n ≡ 4) ⊎ ((n ≡ 8) ⊎ (16 ≤ n))))

near : (e n : ℕ) → n ≡ 2 ^ e → IsNear n
near zero n q = inl q
near (suc zero) n q = inr (inl q)
near (suc (suc zero)) n q = inr (inr (inl q))
near (suc (suc (suc zero))) n q = inr (inr (inr (inl q)))
near (suc (suc (suc (suc e)))) n q = let l = large e in inr (inr (inr (inr (omega arith))))

-- what is said of these holds of each power
at_powers : (n : ℕ) (P : Type 0) → IsPower n → (n ≡ 1 → P) → (n ≡ 2 → P) → (n ≡ 4 → P) → (n ≡ 8 → P) → (16 ≤ n → P) → P
at_powers n P p a b c d e =
    ⊎_elim a (λ (r : (n ≡ 2) ⊎ ((n ≡ 4) ⊎ ((n ≡ 8) ⊎ (16 ≤ n)))). ⊎_elim b (λ (s : (n ≡ 4) ⊎ ((n ≡ 8) ⊎ (16 ≤ n))). ⊎_elim c (λ (t : (n ≡ 8) ⊎ (16 ≤ n)). ⊎_elim d e t) s) r)
    (near p.exponent n p.is)

from_below : (n k : ℕ) → (k ≡ 1) ⊎ ((k ≡ 2) ⊎ ((k ≡ 4) ⊎ (8 ≤ k))) → n ≤ k → power_from n ≤ k
from_below n k c l = grind (arith, nat_tests)

from_least : (n k : ℕ) → IsPower k → n ≤ k → power_from n ≤ k
from_least n k p l =
    at_powers k (power_from n ≤ k) p
    (λ e. from_below n k (inl e) l)
    (λ e. from_below n k (inr (inl e)) l)
    (λ e. from_below n k (inr (inr (inl e))) l)
    (λ e. from_below n k (inr (inr (inr (omega arith)))) l)
    (λ e. from_below n k (inr (inr (inr (omega arith)))) l)

one_is : IsPower 1
one_is = record { exponent = 0; is = refl }

two_is : IsPower 2
two_is = record { exponent = 1; is = refl }

four_is : IsPower 4
four_is = record { exponent = 2; is = refl }

eight_is : IsPower 8
eight_is = record { exponent = 3; is = refl }

chosen : (P : ℕ → Type 0) (b : Bool) (x y : ℕ) → P x → P y → P (if b then x else y)
chosen P true x y p q = p
chosen P false x y p q = q

from_power : (n : ℕ) → IsPower (power_from n)
from_power n = chosen IsPower (nat_le n 1) 1 _ one_is (chosen IsPower (nat_le n 2) 2 _ two_is (chosen IsPower (nat_le n 4) 4 8 four_is eight_is))

within_power : (n : ℕ) → IsPower (power_within n)
within_power n = chosen IsPower (nat_le 8 n) 8 _ eight_is (chosen IsPower (nat_le 4 n) 4 _ four_is (chosen IsPower (nat_le 2 n) 2 1 two_is one_is))

from_covers : (n : ℕ) → (n ≤ power_from n) ⊎ (power_from n ≡ 8)
from_covers n = grind (arith, nat_tests)

within_below : (n : ℕ) → 0 < n → power_within n ≤ n
within_below n l = grind (arith, nat_tests)

within_most : (n : ℕ) → power_within n ≤ 8
within_most n = grind (arith, nat_tests)

pub within_some : (n : ℕ) → 0 < power_within n
within_some n = grind (arith, nat_tests)

from_some : (n : ℕ) → 0 < power_from n
from_some n = grind (arith, nat_tests)

within_above : (n k : ℕ) → (k ≡ 1) ⊎ ((k ≡ 2) ⊎ ((k ≡ 4) ⊎ (k ≡ 8))) → k ≤ n → k ≤ power_within n
within_above n k c l = grind (arith, nat_tests)

within_greatest : (n k : ℕ) → IsPower k → k ≤ 8 → k ≤ n → k ≤ power_within n
within_greatest n k p most l =
    at_powers k (k ≤ power_within n) p
    (λ e. within_above n k (inl e) l)
    (λ e. within_above n k (inr (inl e)) l)
    (λ e. within_above n k (inr (inr (inl e))) l)
    (λ e. within_above n k (inr (inr (inr e))) l)
    (λ e. absurd (omega arith))

pub count_is : (threads long : ℕ) → 0 < long → IsBankCount threads long (bank_count threads long)
count_is threads long l =
    let p = power_from threads in
    let some : 0 < p = from_some threads in
    let room : 0 < min p long = omega arith in
    let below : bank_count threads long ≤ min p long = within_below (min p long) room in
    let most : bank_count threads long ≤ 8 = within_most (min p long) in
    record {
      power = within_power (min p long);
      allowed = record {
        most = most;
        filled = omega arith;
        wanted = λ power q t. let least : p ≤ power = from_least threads power q t in omega arith;
      };
      greatest = λ other q a.
          let o : other ≤ 8 = a.most in
          let f : other ≤ long = a.filled in
          let w : other ≤ p =
          ⊎_elim (λ (t : threads ≤ p). a.wanted p (from_power threads) t) (λ (e : p ≡ 8). omega arith) (from_covers threads) in
          within_greatest (min p long) other q o (omega arith);
    }

-- ---- words

divided : (count q r n : ℕ) → r < count → n ≡ q * count + r → n / count ≡ q
divided count q r n l e = ap (λ x. x / count) e ∙ div-mul-add q count r l

rest : (count q r n : ℕ) → r < count → n ≡ q * count + r → n % count ≡ r
rest count q r n l e = ap (λ x. x % count) e ∙ mod-mul-add q count r l

-- one element more, in a row that goes on and in one that ends
going_on : (k q r words : ℕ) → words ≡ q + one_if (nat_lt k r) → words + one_if (nat_eq r k) ≡ q + one_if (nat_lt k (suc r))
going_on k q r words e = grind (arith, nat_tests)

ending : (count k q r words : ℕ) → k < count → suc r ≡ count → words ≡ q + one_if (nat_lt k r) → words + one_if (nat_eq r k) ≡ suc q + one_if (nat_lt k 0)
ending count k q r words l s e = grind (arith, nat_tests)

next_row : (q count r : ℕ) → suc r ≡ count → suc (q * count + r) ≡ suc q * count + 0
next_row q count r e = let s : suc q * count ≡ q * count + count = suc-mul q count in omega arith

pub words_are : (count k n : ℕ) → k < count → words_of count k n ≡ n / count + one_if (nat_lt k (n % count))
words_are count k zero l =
    let z : zero ≡ zero * count + zero = omega arith in
    let some : zero < count = omega arith in
    let a : 0 ≡ zero + one_if (nat_lt k zero) = grind (arith, nat_tests) in
    a ∙ sym (ap (λ x. x + one_if (nat_lt k (zero % count))) (divided count zero zero zero some z) ∙ ap (λ x. zero + one_if (nat_lt k x)) (rest count zero zero zero some z))
words_are count k (suc n) l =
    let q = n / count in let r = n % count in
    let whole : q * count + r ≡ n = div-add-mod' n count in
    let short : r < count = omega arith in
    let before : words_of count k n ≡ q + one_if (nat_lt k r) = words_are count k n l in
    ⊎_elim
    (λ (more : suc r < count).
    let e : suc n ≡ q * count + suc r = omega arith in
    going_on k q r (words_of count k n) before
    ∙ sym (ap (λ x. x + one_if (nat_lt k (suc n % count))) (divided count q (suc r) (suc n) more e) ∙ ap (λ x. q + one_if (nat_lt k x)) (rest count q (suc r) (suc n) more e)))
    (λ (end : suc r ≡ count).
    let some : 0 < count = omega arith in
    let row : suc (q * count + r) ≡ suc q * count + 0 = next_row q count r end in
    let e : suc n ≡ suc q * count + 0 = omega arith in
    ending count k q r (words_of count k n) l end before
    ∙ sym (ap (λ x. x + one_if (nat_lt k (suc n % count))) (divided count (suc q) 0 (suc n) some e) ∙ ap (λ x. suc q + one_if (nat_lt k x)) (rest count (suc q) 0 (suc n) some e)))
    (let c : (suc r < count) ⊎ (suc r ≡ count) = grind (arith, nat_tests) in c)

-- the bank of element n has n / count words before it
own_words : (count n : ℕ) → 0 < count → words_of count (n % count) n ≡ n / count
own_words count n l =
    let short : n % count < count = omega arith in
    let none : one_if (nat_lt (n % count) (n % count)) ≡ 0 = grind (arith, nat_tests) in
    words_are count (n % count) n short ∙ (let z : n / count + one_if (nat_lt (n % count) (n % count)) ≡ n / count = omega arith in z)

same_or_less : (j n : ℕ) → j < suc n → (j < n) ⊎ (j ≡ n)
same_or_less j n l = grind (arith, nat_tests)

own_is : (a b : ℕ) → a ≡ b → one_if (nat_eq a b) ≡ 1
own_is a b e = grind (arith, nat_tests)

-- each element has a word in its bank
pub has_word : (count n j : ℕ) → 0 < count → j < n → j / count < words_of count (j % count) n
has_word count zero j c l = absurd (omega arith)
has_word count (suc n) j c l =
    ⊎_elim
    (λ (before : j < n). let h = has_word count n j c before in omega arith)
    (λ (e : j ≡ n).
    let own : words_of count (n % count) n ≡ n / count = own_words count n c in
    let one : one_if (nat_eq (n % count) (n % count)) ≡ 1 = own_is (n % count) (n % count) refl in
    let here : n / count < words_of count (n % count) (suc n) = omega arith in
    subst (λ x. x / count < words_of count (x % count) (suc n)) (sym e) here)
    (same_or_less j n l)

word_case : (a words : ℕ) (b : Bool) → a < words + one_if b → (a < words) ⊎ ((a ≡ words) × (b ≡ true))
word_case a words true l = ⊎_elim (λ (x : a < words). inl x) (λ (e : a ≡ words). inr (e, refl)) (let c : (a < words) ⊎ (a ≡ words) = grind (arith, nat_tests) in c)
word_case a words false l = inl (omega arith)

-- each word has an element
pub has_element : (count k n a : ℕ) → k < count → a < words_of count k n → a * count + k < n
has_element count k zero a c l = absurd (omega arith)
has_element count k (suc n) a c l =
    ⊎_elim
    (λ (before : a < words_of count k n). let h = has_element count k n a c before in omega arith)
    (λ (last : (a ≡ words_of count k n) × (nat_eq (n % count) k ≡ true)).
    let same : n % count ≡ k = let t = last.1 in grind (arith, nat_tests) in
    let own : words_of count k n ≡ n / count = ap (λ x. words_of count x n) (sym same) ∙ own_words count n (omega arith) in
    let whole : n / count * count + n % count ≡ n = div-add-mod' n count in
    let row : a * count + k ≡ n = ap (λ x. x * count + k) (last.0 ∙ own) ∙ ap (λ x. n / count * count + x) (sym same) ∙ whole in
    omega arith)
    (word_case a (words_of count k n) (nat_eq (n % count) k) l)

-- the first element of a bank is the one of its number
pub some_word : (count k n : ℕ) → k < count → count ≤ n → 1 ≤ words_of count k n
some_word count k n c l =
    let z : k ≡ 0 * count + k = omega arith in
    let own : k % count ≡ k = rest count 0 k k c z in
    let h : k / count < words_of count (k % count) n = has_word count n k (omega arith) (omega arith) in
    let e : words_of count (k % count) n ≡ words_of count k n = ap (λ x. words_of count x n) own in
    omega arith
