-- Words that are read where they are, or under a guard.
use Rattle.std.proofs.Common.{◌≡◌, ℕ, zero, suc, ◌<◌, ◌≤◌, ◌⊎◌, List, [], ◌∷◌, length, slice_get, Bool, true, false, nat_lt, if◌then◌else◌, refl, sym, ap, ◌∙◌, ⊎_elim, arith}
use Rattle.std.specs.Prelude.{slice_index}
use Rattle.std.proofs.lemmas.Bool.Decides.{nat_tests}
use Rattle.std.proofs.lemmas.List.{get_or_past}
use Rattle.verilog_meaning.specs.Readings.{or_zero}

-- a word that is not there is 0
pub first_word : (xs : List ℕ) (k : ℕ) → or_zero (slice_get xs k) ≡ slice_index xs k
first_word [] k = refl
first_word (x ∷ xs) zero = refl
first_word (x ∷ xs) (suc k) = first_word xs k

-- a guarded read
pub read_is : (size x y : ℕ) (words : List ℕ) → length words ≡ size → (x < size → y ≡ slice_index words x) → (if nat_lt x size then y else 0) ≡ slice_index words x
read_is size x y words e h =
    ⊎_elim (λ (l : x < size). let t : nat_lt x size ≡ true = grind (arith, nat_tests) in ap (λ b. if b then y else 0) t ∙ h l)
    (λ (l : size ≤ x). let t : nat_lt x size ≡ false = grind (arith, nat_tests) in ap (λ b. if b then y else 0) t ∙ sym (get_or_past words x 0 (omega arith)))
    (let c : (x < size) ⊎ (size ≤ x) = grind (arith, nat_tests) in c)

-- a guard that changes nothing
pub if_same : (b : Bool) (x : ℕ) → (if b then x else x) ≡ x
if_same true x = refl
if_same false x = refl
