-- What a granted request does to the bits and to the count of a barrier.
use Rattle.std.proofs.Common.{◌≡◌, ℕ, zero, suc, ◌+◌, ◌^◌, ◌<◌, ◌≤◌, List, length, replicate, Bool, true}
use Rattle.std.proofs.Common.{false, nat_eq, nat_lt, if◌then◌else◌, refl, sym, ap, ◌∙◌, ⊎_elim, arith, get_or-set_other}
use Rattle.std.specs.Prelude.{not, ◌&&◌, slice_index, slice_set}
use Rattle.std.proofs.lemmas.Bool.Decides.{nat_tests}
use Rattle.std.proofs.lemmas.Grind.{get_or-set_at}
use Rattle.std.proofs.lemmas.List.{length-replicate}
use Rattle.std.proofs.Math.ListN.{length-set}
use Rattle.std.proofs.Math.Nat.{mod-eq_of_lt}
use Rattle.std.proofs.lemmas.Bool.{cases_eq}
use Rattle.lists.proofs.Places.{zeros_at}
use Rattle.hls_ints.specs.Residues.{bit_of}
use Rattle.hls_ints.specs.Words.{word}
use Rattle.core_states.specs.Machines.{CoreBarrier, total_of}

-- ---- the offer

pub offered : (b : Bool) (x y : ℕ) → x ≡ bit_of (nat_lt 0 x) → y ≡ 0 → (if b then y else x) ≡ bit_of (nat_lt 0 x && not b)
offered true x y e f = f ∙ none (nat_lt 0 x)
  where
    none : (c : Bool) → 0 ≡ bit_of (c && false)
    none true = refl
    none false = refl
offered false x y e f = e ∙ same (nat_lt 0 x)
  where
    same : (c : Bool) → bit_of c ≡ bit_of (c && true)
    same true = refl
    same false = refl

-- ---- the sum

pub own_number : (a : ℕ) → a < 2 → (if nat_eq a 0 then 0 else 1) ≡ a
own_number zero l = refl
own_number (suc zero) l = refl
own_number (suc (suc a)) l = absurd (omega arith)

total_below : (xs : List ℕ) (j : ℕ) → ((k : ℕ) → k < j → slice_index xs k < 2) → total_of j xs ≤ j
total_below xs zero h = omega arith
total_below xs (suc j) h =
    let a = total_below xs j (λ k l. h k (omega arith)) in let b = h j (omega arith) in omega arith

pub summed : (n : ℕ) (v : ℕ → ℕ) (xs : List ℕ) → n ≤ 64 → v 0 ≡ 0 → ((k : ℕ) → k < n → v (suc k) ≡ word 64 (v k + slice_index xs k)) → ((k : ℕ) → k < n → slice_index xs k < 2)
    → (j : ℕ) → j ≤ n → v j ≡ total_of j xs
summed n v xs few z step low zero l = z
summed n v xs few z step low (suc j) l =
    let q = total_below xs (suc j) (λ k b. low k (omega arith)) in
    let below : total_of (suc j) xs < 2 ^ 64 = omega arith in
    step j (omega arith) ∙ ap (λ x. word 64 (x + slice_index xs j)) (summed n v xs few z step low j (omega arith)) ∙ mod-eq_of_lt below

-- ---- the bits

-- a thread's bit with the granted one's own
pub bit_joined : (xs : List ℕ) (w k x y one : ℕ) → w < length xs → one ≡ 1 → x ≡ bit_of (nat_eq w k) → y ≡ slice_index xs k
    → (if nat_eq x 0 then y else one) ≡ slice_index (slice_set xs w 1) k
bit_joined xs w k x y one l o e f =
    ⊎_elim
    (λ (q : k ≡ w). let t : nat_eq w k ≡ true = grind (arith, nat_tests) in ap (λ a. if nat_eq a 0 then y else one) (e ∙ ap bit_of t) ∙ o ∙ sym (get_or-set_at xs w k 1 0 q l))
    (λ (q : k ≡ w → ⊥). let t : nat_eq w k ≡ false = grind (arith, nat_tests) in ap (λ a. if nat_eq a 0 then y else one) (e ∙ ap bit_of t) ∙ f ∙ sym
    (get_or-set_other xs w k 1 0 q))
    (cases_eq k w)

-- after a wait, nothing, an init or a destroy of thread w, with a count
abbrev after : ℕ → Bool → Bool → Bool → Bool → CoreBarrier → ℕ → ℕ → CoreBarrier
after n b1 b3 b0 sh s w c =
    if b1 then record { count = s.count; waiting = if sh then slice_set s.waiting w 1 else replicate n 0 }
    else (if b3 then s else record { count = if b0 then c else 0; waiting = replicate n 0 })

pub after_bit : (n : ℕ) (b1 b3 b0 sh : Bool) (s : CoreBarrier) (w c i : ℕ)
    → (if b1 then (if sh then slice_index (slice_set s.waiting w 1) i else 0) else (if b3 then slice_index s.waiting i else 0)) ≡ slice_index (after n b1 b3 b0 sh s w c).waiting i
after_bit n true b3 b0 true s w c i = refl
after_bit n true b3 b0 false s w c i = sym (zeros_at n i)
after_bit n false true b0 sh s w c i = refl
after_bit n false false b0 sh s w c i = sym (zeros_at n i)

pub after_count : (n : ℕ) (b1 b3 b0 sh : Bool) (s : CoreBarrier) (w c : ℕ) → (if b1 then s.count else (if b3 then s.count else (if b0 then c else 0))) ≡ (after n b1 b3 b0 sh s w c).count
after_count n true b3 b0 sh s w c = refl
after_count n false true b0 sh s w c = refl
after_count n false false b0 sh s w c = refl

pub after_sized : (n : ℕ) (b1 b3 b0 sh : Bool) (s : CoreBarrier) (w c : ℕ) → length s.waiting ≡ n → length (after n b1 b3 b0 sh s w c).waiting ≡ n
after_sized n true b3 b0 true s w c e = length-set s.waiting w 1 ∙ e
after_sized n true b3 b0 false s w c e = length-replicate {A = ℕ} n 0
after_sized n false true b0 sh s w c e = e
after_sized n false false b0 sh s w c e = length-replicate {A = ℕ} n 0
