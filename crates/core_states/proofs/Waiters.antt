-- The bits of a barrier count its waiters.
use Rattle.std.specs.Prelude.{Bool, false, nat_eq, ◌||◌, slice_index}
use Rattle.std.specs.List.{AllByRecursion, IsDistinct, list_any}
use Rattle.std.proofs.Common.{◌≡◌, ◌≢◌, ℕ, zero, suc, ◌+◌, ◌<◌, List, [], ◌∷◌, length, refl, ap, ap₂, sym, ◌∙◌, subst, ⊎_elim, arith}
use Rattle.std.proofs.lemmas.Bool.{cases_eq, ne_eqb, eq-eqb}
use Rattle.hls_ints.specs.Residues.{bit_of}
use Rattle.core_states.specs.Machines.{total_of}
use Rattle.core_states.specs.Laws.{WaitersCount}

-- the sum of the first n values
sum_below : ℕ → (ℕ → ℕ) → ℕ
sum_below zero f = 0
sum_below (suc n) f = sum_below n f + f n

total_is : (n : ℕ) (xs : List ℕ) (f : ℕ → ℕ) → ((j : ℕ) → j < n → slice_index xs j ≡ f j) → total_of n xs ≡ sum_below n f
unfolding sum_below
total_is zero xs f each = refl
total_is (suc n) xs f each = ap₂ (λ (a b : ℕ). a + b) (total_is n xs f (λ j lt. each j (omega arith))) (each n (omega arith))

sum_same : (n : ℕ) (f g : ℕ → ℕ) → ((j : ℕ) → j < n → g j ≡ f j) → sum_below n g ≡ sum_below n f
unfolding sum_below
sum_same zero f g each = refl
sum_same (suc n) f g each = ap₂ (λ (a b : ℕ). a + b) (sum_same n f g (λ j lt. each j (omega arith))) (each n (omega arith))

sum_zero : (n : ℕ) → sum_below n (λ j. 0) ≡ 0
unfolding sum_below
sum_zero zero = refl
sum_zero (suc n) = ap (λ (a : ℕ). a + 0) (sum_zero n)

one_more : (n : ℕ) (f g : ℕ → ℕ) (w : ℕ) → w < n → g w ≡ suc (f w) → ((j : ℕ) → j < n → j ≢ w → g j ≡ f j) → sum_below n g ≡ suc (sum_below n f)
unfolding sum_below
one_more zero f g w lt here others = absurd (omega arith)
one_more (suc n) f g w lt here others =
    ⊎_elim
    (λ same.
    let rest = sum_same n f g (λ j l. others j (omega arith) (λ e. absurd (omega arith))) in
    let last : g n ≡ suc (f n) = subst (λ k. g k ≡ suc (f k)) same here in
    omega arith)
    (λ ne.
    let rest = one_more n f g w (omega arith) here (λ j l o. others j (omega arith) o) in
    let last = others n (omega arith) (λ e. ne (sym e)) in
    omega arith)
    (cases_eq w n)

none_same : (w : ℕ) (ws : List ℕ) → AllByRecursion (λ x. nat_eq w x ≡ false) ws → list_any (nat_eq w) ws ≡ false
none_same w [] all = refl
none_same w (x ∷ ws) all = ap₂ (λ (a b : Bool). a || b) all.0 (none_same w ws all.1)

counted : (n : ℕ) (ws : List ℕ) → IsDistinct nat_eq ws → AllByRecursion (λ w. w < n) ws → sum_below n (λ j. bit_of (list_any (nat_eq j) ws)) ≡ length ws
unfolding IsDistinct
counted n [] distinct below = sum_zero n
counted n (w ∷ ws) distinct below =
    one_more n (λ j. bit_of (list_any (nat_eq j) ws)) (λ j. bit_of (list_any (nat_eq j) (w ∷ ws))) w below.0
    (ap (λ (b : Bool). bit_of (b || list_any (nat_eq w) ws)) (eq-eqb w w refl) ∙ sym (ap (λ (b : Bool). suc (bit_of b)) (none_same w ws distinct.0)))
    (λ j lt ne. ap (λ (b : Bool). bit_of (b || list_any (nat_eq j) ws)) (ne_eqb j w ne))
    ∙ ap suc (counted n ws distinct.1 below.1)

pub waiters_count : WaitersCount
waiters_count n bits waiters distinct below each = total_is n bits (λ j. bit_of (list_any (nat_eq j) waiters)) each ∙ counted n waiters distinct below
