-- Counts of requests to come.
use Rattle.std.specs.Prelude.{nat_eq, nat_lt, ◌&&◌, Bool, true, false, ◌||◌, not, if◌then◌else◌}
use Rattle.std.proofs.Common.{◌≡◌, ◌≢◌, ℕ, zero, suc, ◌<◌, ◌≤◌, refl, sym, ap, ◌∙◌, ⊎_elim, arith}
use Rattle.std.proofs.lemmas.Bool.{cases_eq}
use Rattle.planned_block.specs.Hardware.{count_below}
use Rattle.planned_block.proofs.Bits.{both_true, is_same, less_is, not_less_is, less_or_not}

one_more : (a c : Bool) → (a ≡ true → c ≡ true) → (if a then 1 else 0) ≤ (if c then 1 else 0)
one_more true true t = omega arith
one_more true false t = absurd (cc (t refl))
one_more false true t = omega arith
one_more false false t = omega arith

pub count_le : (f g : ℕ → Bool) (n : ℕ) → ((k : ℕ) → k < n → f k ≡ true → g k ≡ true) → count_below f n ≤ count_below g n
count_le f g zero each = omega arith
count_le f g (suc n) each =
    let rest = count_le f g n (λ k lt t. each k (omega arith) t) in
    let one = one_more (f n) (g n) (each n (omega arith)) in
    omega arith

pub count_less : (f g : ℕ → Bool) (k n : ℕ) → k < n → f k ≡ false → g k ≡ true → ((k : ℕ) → k < n → f k ≡ true → g k ≡ true) → count_below f n < count_below g n
count_less f g k zero lt e t each = absurd (omega arith)
count_less f g k (suc n) lt e t each = ⊎_elim here (λ ne. there ne (count_less f g k n (omega arith) e t (λ j l z. each j (omega arith) z))) (cases_eq k n)
  where
    rest : count_below f n ≤ count_below g n
    rest = count_le f g n (λ j l z. each j (omega arith) z)

    here : k ≡ n → count_below f (suc n) < count_below g (suc n)
    here s =
        let off : ◌≡◌ {A = ℕ} (if f n then 1 else 0) 0 = ap (λ (c : Bool). if c then 1 else 0) (ap f (sym s) ∙ e) in
        let on : ◌≡◌ {A = ℕ} (if g n then 1 else 0) 1 = ap (λ (c : Bool). if c then 1 else 0) (ap g (sym s) ∙ t) in
        let below = rest in
        omega arith

    there : k ≢ n → count_below f n < count_below g n → count_below f (suc n) < count_below g (suc n)
    there ne less =
        let one = one_more (f n) (g n) (each n (omega arith)) in
        omega arith

-- who is open after is open before
pub open_before : (r a c : Bool) → (a ≡ true → c ≡ true) → (r && not c) ≡ true → (r && not a) ≡ true
open_before true true true t e = absurd cc
open_before true true false t e = absurd (cc (t refl))
open_before true false c t e = refl
open_before false a c t e = absurd cc

pub granted_stays : (l e g h : Bool) → (l || (e && g)) ≡ true → (l || (e && (g || h))) ≡ true
granted_stays true e g h t = refl
granted_stays false true true h t = refl
granted_stays false true false h t = absurd cc
granted_stays false false g h t = absurd cc

pub granted_goes : (a s : ℕ) (g c : Bool) → (nat_lt a s || (nat_eq a s && g)) ≡ true → (nat_lt a (suc s) || c) ≡ true
granted_goes a s g c t = ⊎_elim (λ lt. ap (λ x. x || c) (less_is a (suc s) (omega arith))) (λ le. ap (λ x. x || c) (less_is a (suc s) (here le))) (less_or_not a s)
  where
    here : s ≤ a → a < suc s
    here le =
        let now : (nat_eq a s && g) ≡ true = sym (ap (λ x. x || (nat_eq a s && g)) (not_less_is a s le)) ∙ t in
        let e = is_same a s (both_true (nat_eq a s) g now).0 in
        omega arith
