-- Names that differ wherever their places differ.
use Rattle.std.proofs.Common.{◌≡◌, refl, ℕ, suc, Bool, true, false, List, [], ◌∷◌, map, Some, sym}
use Rattle.std.specs.Prelude.{slice_get, nat_eq}
use Rattle.std.specs.List.{AllByRecursion, IsDistinct}
use Rattle.std.specs.Str.{bytes_eq}
use Rattle.std.specs.Cmp.Lexicographic.{pointwise}
use Rattle.std.proofs.lemmas.Map.Keys.{IsDistinct-cons}
use Rattle.std.proofs.lemmas.Slice.Eq.{bytes_eq-Decides}
use Rattle.std.proofs.Math.Nat.{suc_inj, suc-ne-zero}

-- what holds at each place holds of all
pub all_from : {A : Type 0} (Is : A → Type 0) (list : List A) → ((k : ℕ) (a : A) → slice_get list k ≡ Some a → Is a) → AllByRecursion Is list
all_from Is [] h = tt
all_from Is (x ∷ list) h = (h 0 x refl, all_from Is list (λ k a at. h (suc k) a at))

unlike : (x z : List ℕ) → (x ≡ z → ⊥) → bytes_eq x z ≡ false
unlike x z apart = by (bytes_eq x z) refl
  where
    by : (b : Bool) → bytes_eq x z ≡ b → b ≡ false
    by false is = refl
    by true is = absurd (apart ((bytes_eq-Decides x z).0 is))

unlike_all : {A : Type 0} (name : A → List ℕ) (x : List ℕ) (list : List A) → ((k : ℕ) (a : A) → slice_get list k ≡ Some a → x ≡ name a → ⊥) →
    AllByRecursion (λ z. pointwise nat_eq x z ≡ false) (map name list)
unlike_all name x [] h = tt
unlike_all name x (a ∷ list) h = (unlike x (name a) (h 0 a refl), unlike_all name x list (λ k b at. h (suc k) b at))

pub distinct : {A : Type 0} (name : A → List ℕ) (list : List A) →
    ((i j : ℕ) (a b : A) → slice_get list i ≡ Some a → slice_get list j ≡ Some b → name a ≡ name b → i ≡ j) → IsDistinct (pointwise nat_eq) (map name list)
unfolding IsDistinct
distinct name [] h = tt
distinct name (x ∷ list) h =
    IsDistinct-cons (pointwise nat_eq) (name x) (map name list)
    (unlike_all name (name x) list (λ k a at same. suc-ne-zero k (sym (h 0 (suc k) x a refl at same))))
    (distinct name list (λ i j a b at_i at_j same. suc_inj (h (suc i) (suc j) a b at_i at_j same)))
