-- Lists by number.
use Rattle.std.proofs.Common.{◌≡◌, ℕ, zero, suc, ◌+◌, List, [], ◌∷◌, ◌++◌, length, map, Some, refl, sym, ap, ◌∙◌, subst, ⊎_elim, arith}
use Rattle.std.specs.Prelude.{slice_get}
use Rattle.std.proofs.lemmas.Option.{same_Some, none-some}
use Rattle.circuit.specs.Rows.{EachOf}
use Rattle.top_wiring.proofs.Lists.{IsBehind, get_either}

pub map_back : {A B : Type 0} (f : A → B) (xs : List A) (k : ℕ) (y : B) → slice_get (map f xs) k ≡ Some y → (x : A) × (slice_get xs k ≡ Some x) × (y ≡ f x)
map_back f [] k y e = absurd (none-some y e)
map_back f (x ∷ xs) zero y e = (x, refl, sym (same_Some (f x) y e))
map_back f (x ∷ xs) (suc k) y e = map_back f xs k y e

pub map_get : {A B : Type 0} (f : A → B) (xs : List A) (k : ℕ) (x : A) → slice_get xs k ≡ Some x → slice_get (map f xs) k ≡ Some (f x)
map_get f [] k x e = absurd (none-some x e)
map_get f (y ∷ xs) zero x e = ap (λ z. Some (f z)) (same_Some y x e)
map_get f (y ∷ xs) (suc k) x e = map_get f xs k x e

pub there : {A : Type 0} (P : A → Type 0) (xs : List A) → EachOf P xs → (k : ℕ) (x : A) → slice_get xs k ≡ Some x → P x
there P [] e k x h = absurd (none-some x h)
there P (y ∷ ys) e zero x h = subst P (same_Some y x h) e.0
there P (y ∷ ys) e (suc k) x h = there P ys e.1 k x h

pub each_of : {A : Type 0} (P : A → Type 0) (xs : List A) → ((k : ℕ) (x : A) → slice_get xs k ≡ Some x → P x) → EachOf P xs
each_of P [] h = tt
each_of P (x ∷ xs) h = (h 0 x refl, each_of P xs (λ k y e. h (suc k) y e))

pub behind_one : {A : Type 0} (xs : List A) (y : A) (ys : List A) (k : ℕ) → slice_get (xs ++ y ∷ ys) (length xs + 1 + k) ≡ slice_get ys k
behind_one [] y ys k = ap (slice_get (y ∷ ys)) (let e : 0 + 1 + k ≡ suc k = omega arith in e)
behind_one (x ∷ xs) y ys k =
    ap (slice_get (x ∷ (xs ++ y ∷ ys))) (let e : length (x ∷ xs) + 1 + k ≡ suc (length xs + 1 + k) = omega arith in e) ∙ behind_one xs y ys k

-- a list with one in its middle
pub data InMiddle {A : Type 0} (xs : List A) (y : A) (ys : List A) (k : ℕ) (x : A) : Type 0 where
  InFront : (listed : slice_get xs k ≡ Some x) → InMiddle xs y ys k x
  TheOne : (at : k ≡ length xs) (is : x ≡ y) → InMiddle xs y ys k x
  Behind : (j : ℕ) (at : k ≡ length xs + 1 + j) (listed : slice_get ys j ≡ Some x) → InMiddle xs y ys k x

pub in_middle : {A : Type 0} (xs : List A) (y : A) (ys : List A) (k : ℕ) (x : A) → slice_get (xs ++ y ∷ ys) k ≡ Some x → InMiddle xs y ys k x
in_middle xs y ys k x e = ⊎_elim (λ (f : slice_get xs k ≡ Some x). InFront f) (λ (b : IsBehind (length xs) (y ∷ ys) k x). back b.at b.is b.found) (get_either xs (y ∷ ys) k x e)
  where
    back : (j : ℕ) → k ≡ length xs + j → slice_get (y ∷ ys) j ≡ Some x → InMiddle xs y ys k x
    back zero at f = TheOne (omega (arith, at)) (sym (same_Some y x f))
    back (suc j) at f = Behind j (omega (arith, at)) f
