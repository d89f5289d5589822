-- The first that asks, and the one that is granted.
use Rattle.std.proofs.Common.{◌≡◌, ℕ, zero, suc, ◌+◌, ◌<◌, ◌≤◌, ◌⊎◌, Bool, true, false, Option, Some, None, nat_eq, nat_lt, if◌then◌else◌, refl, sym, ap, ◌∙◌, subst, ⊎_elim, arith, zero-add}
use Rattle.std.specs.Prelude.{not, ◌&&◌, ◌||◌}
use Rattle.std.proofs.lemmas.Bool.Decides.{nat_tests}
use Rattle.std.proofs.lemmas.Bool.{and_parts}
use Rattle.std.proofs.Math.Bool.{and-false, or-true}
use Rattle.circuit.specs.Arbitration.{first_from, at_or_after, or_else, granted_to, is_granted}
use Rattle.circuit.proofs.Chains.{any_below}

-- the first of the threads from k up to an end that asks, or none
abbrev pub IsFirst : (ℕ → Bool) → ℕ → ℕ → Option ℕ → Type 0
IsFirst f k end None = (j : ℕ) → k ≤ j → j < end → f j ≡ false
IsFirst f k end (Some w) = (k ≤ w) × (w < end) × (f w ≡ true) × ((j : ℕ) → k ≤ j → j < w → f j ≡ false)

from_next : (f : ℕ → Bool) (k n : ℕ) (o : Option ℕ) → f k ≡ false → IsFirst f (k + 1) (k + 1 + n) o → IsFirst f k (k + suc n) o
from_next f k n None e h =
    λ j a b. ⊎_elim (λ (s : j ≡ k). ap f s ∙ e) (λ (l : k + 1 ≤ j). h j l (omega arith)) (let c : (j ≡ k) ⊎ (k + 1 ≤ j) = grind (arith, nat_tests) in c)
from_next f k n (Some w) e h =
    let a = h.0 in let b = h.1 in (
      (omega arith),
      (omega arith),
      h.2,
      (λ j l m. ⊎_elim (λ (s : j ≡ k). ap f s ∙ e) (λ (l : k + 1 ≤ j). h.3 j l m) (let c : (j ≡ k) ⊎ (k + 1 ≤ j) = grind (arith, nat_tests) in c)),
    )

first_step : (f : ℕ → Bool) (k n : ℕ) (b : Bool) (o : Option ℕ) → f k ≡ b → IsFirst f (k + 1) (k + 1 + n) o → IsFirst f k (k + suc n) (if b then Some k else o)
first_step f k n true o e h = ((omega arith), (omega arith), e, (λ j l m. absurd (omega arith)))
first_step f k n false o e h = from_next f k n o e h

pub first_is : (f : ℕ → Bool) (k n : ℕ) → IsFirst f k (k + n) (first_from f k n)
first_is f k zero = λ j a b. absurd (omega arith)
first_is f k (suc n) = first_step f k n (f k) (first_from f (k + 1) n) refl (first_is f (k + 1) n)

pub first_same : (f g : ℕ → Bool) (k n : ℕ) → ((j : ℕ) → k ≤ j → j < k + n → f j ≡ g j) → first_from f k n ≡ first_from g k n
first_same f g k zero h = refl
first_same f g k (suc n) h =
    ap (λ b. if b then Some k else first_from f (k + 1) n) (h k (omega arith) (omega arith))
    ∙ ap (λ o. if g k then Some k else o) (first_same f g (k + 1) n (λ j a b. h j (omega arith) (omega arith)))

-- ---- any below

pub none_below : (f : ℕ → Bool) (i : ℕ) → ((j : ℕ) → j < i → f j ≡ false) → any_below f i ≡ false
none_below f zero h = refl
none_below f (suc i) h = ap (λ b. b || any_below f i) (h i (omega arith)) ∙ none_below f i (λ j l. h j (omega arith))

pub one_below : (f : ℕ → Bool) (w i : ℕ) → w < i → f w ≡ true → any_below f i ≡ true
one_below f w zero l e = absurd (omega arith)
one_below f w (suc i) l e =
    ⊎_elim (λ (s : w ≡ i). ap (λ b. b || any_below f i) (ap f (sym s) ∙ e))
    (λ (m : w < i). ap (λ b. f i || b) (one_below f w i m e) ∙ or-true (f i))
    (let c : (w ≡ i) ⊎ (w < i) = grind (arith, nat_tests) in c)

-- ---- the granted one is the first candidate

granted_at : (f : ℕ → Bool) (n i w : ℕ) → IsFirst f 0 n (Some w) → i < n → nat_eq w i ≡ (f i && not (any_below f i))
granted_at f n i w h l =
    ⊎_elim
    (λ (e : w ≡ i).
    (let t : nat_eq w i ≡ true = grind (arith, nat_tests) in t)
    ∙ sym (ap (λ b. b && not (any_below f i)) (ap f (sym e) ∙ h.2) ∙ ap not (none_below f i (λ j m. h.3 j (omega arith) (omega arith)))))
    (λ (c : (i < w) ⊎ (w < i)). ⊎_elim
    (λ (m : i < w). (let t : nat_eq w i ≡ false = grind (arith, nat_tests) in t) ∙ sym (ap (λ b. b && not (any_below f i)) (h.3 i (omega arith) m)))
    (λ (m : w < i). (let t : nat_eq w i ≡ false = grind (arith, nat_tests) in t) ∙ sym (ap (λ b. f i && not b) (one_below f w i m h.2) ∙ and-false (f i))) c)
    (let c : (w ≡ i) ⊎ ((i < w) ⊎ (w < i)) = grind (arith, nat_tests) in c)

granted_by : (f : ℕ → Bool) (n i : ℕ) (o : Option ℕ) → IsFirst f 0 n o → i < n → is_granted o i ≡ (f i && not (any_below f i))
granted_by f n i None h l = sym (ap (λ b. b && not (any_below f i)) (h i (omega arith) l))
granted_by f n i (Some w) h l = granted_at f n i w h l

pub granted_first : (f : ℕ → Bool) (n i : ℕ) → i < n → is_granted (first_from f 0 n) i ≡ (f i && not (any_below f i))
granted_first f n i l = granted_by f n i (first_from f 0 n) (subst (λ e. IsFirst f 0 e (first_from f 0 n)) (zero-add n) (first_is f 0 n)) l

-- the candidates: those at or after the preferred thread, if any, else all that ask
abbrev pub candidate : ℕ → ℕ → (ℕ → Bool) → ℕ → Bool
candidate n preferred asks k = if any_below (at_or_after preferred asks) n then at_or_after preferred asks k else asks k

chosen_by : (f g : ℕ → Bool) (n : ℕ) (o : Option ℕ) → IsFirst f 0 n o → first_from f 0 n ≡ o → or_else o (first_from g 0 n) ≡ first_from (λ k. if any_below f n then f k else g k) 0 n
chosen_by f g n None h e =
    first_same g (λ k. if any_below f n then f k else g k) 0 n
    (λ j a b. sym (ap (λ t. if t then f j else g j) (none_below f n (λ k l. h k (omega arith) l))))
chosen_by f g n (Some w) h e =
    sym e ∙ first_same f (λ k. if any_below f n then f k else g k) 0 n
    (λ j a b. sym (ap (λ t. if t then f j else g j) (one_below f w n h.1 h.2)))

pub granted_candidate : (n preferred : ℕ) (asks : ℕ → Bool) → granted_to n preferred asks ≡ first_from (candidate n preferred asks) 0 n
granted_candidate n preferred asks =
    chosen_by (at_or_after preferred asks) asks n (first_from (at_or_after preferred asks) 0 n)
    (subst (λ e. IsFirst (at_or_after preferred asks) 0 e (first_from (at_or_after preferred asks) 0 n)) (zero-add n) (first_is (at_or_after preferred asks) 0 n)) refl

-- ---- laws: the granted thread asks and is one of the n; none is granted exactly where none asks

first_below : (f : ℕ → Bool) (n : ℕ) (o : Option ℕ) → IsFirst f 0 n o → (w : ℕ) → o ≡ Some w → (w < n) × (f w ≡ true)
first_below f n None h w e = absurd cc
first_below f n (Some v) h w e = let s : v ≡ w = cc in ((let l = h.1 in omega arith), ap f (sym s) ∙ h.2)

candidate_asks : (b : Bool) (x y : Bool) → (if b then x && y else x) ≡ true → x ≡ true
candidate_asks true x y e = (and_parts x y e).0
candidate_asks false x y e = e

pub granted_below : (n preferred : ℕ) (asks : ℕ → Bool) (w : ℕ) → granted_to n preferred asks ≡ Some w → (w < n) × (asks w ≡ true)
granted_below n preferred asks w e =
    let f = candidate n preferred asks in
    let p = first_below f n (first_from f 0 n) (subst (λ x. IsFirst f 0 x (first_from f 0 n)) (zero-add n) (first_is f 0 n)) w (sym (granted_candidate n preferred asks) ∙ e) in
    (p.0, candidate_asks (any_below (at_or_after preferred asks) n) (asks w) (not (nat_lt w preferred)) p.1)

pub granted_same : (n preferred : ℕ) (f g : ℕ → Bool) → ((j : ℕ) → j < n → f j ≡ g j) → granted_to n preferred f ≡ granted_to n preferred g
granted_same n preferred f g h =
    ap (λ o. or_else o (first_from f 0 n)) (first_same (at_or_after preferred f) (at_or_after preferred g) 0 n (λ j a b. ap (λ x. x && not (nat_lt j preferred)) (h j (omega arith))))
    ∙ ap (or_else (first_from (at_or_after preferred g) 0 n)) (first_same f g 0 n (λ j a b. h j (omega arith)))

-- ---- where nobody is granted, nobody may be

second : (a b : Option ℕ) → or_else a b ≡ None → b ≡ None
second None b e = e
second (Some k) b e = absurd (let s : Some k ≡ None = e in cc)

pub none_may : (n preferred : ℕ) (f : ℕ → Bool) → granted_to n preferred f ≡ None → (j : ℕ) → j < n → f j ≡ false
none_may n preferred f e j l =
    subst (IsFirst f 0 (0 + n)) (second (first_from (at_or_after preferred f) 0 n) (first_from f 0 n) e) (first_is f 0 n) j (omega arith) (omega arith)
