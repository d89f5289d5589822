-- Names find their places; elements of lists at their places.
use Rattle.std.proofs.Common.{◌≡◌, ℕ, zero, suc, ◌+◌, ◌⊎◌, List, [], ◌∷◌, ◌++◌, Bool, true, false, cond, Some, refl, sym, ap, ◌∙◌, subst, inl, inr, length, map, arith}
use Rattle.std.specs.Prelude.{not, filter, slice_get}
use Rattle.std.specs.Str.{bytes_eq}
use Rattle.std.proofs.lemmas.Slice.Eq.{bytes_eq-Decides}
use Rattle.std.proofs.lemmas.Option.{same_Some, none-some}
use Rattle.std.proofs.lemmas.Bool.{false_from_ne_true}
use Rattle.lists.proofs.Places.{get_front, get_back}
use Rattle.netlist.specs.NetlistOf.{Name, place}
use Rattle.netlist.specs.Laid.{AreApart}

-- ---- elements

pub record IsBehind {A : Type 0} (xs ys : List A) (i : ℕ) (x : A) : Type 0 where
  pub at : ℕ
  pub is : i ≡ length xs + at
  pub found : slice_get ys at ≡ Some x

pub get_either : {A : Type 0} (xs ys : List A) (i : ℕ) (x : A) → slice_get (xs ++ ys) i ≡ Some x → (slice_get xs i ≡ Some x) ⊎ IsBehind xs ys i x
get_either [] ys i x h = inr (record { at = i; is = omega arith; found = h })
get_either (y ∷ xs) ys zero x h = inl h
get_either (y ∷ xs) ys (suc i) x h = elim (get_either xs ys i x h) [
  | inl p ↦ inl p
  | inr p ↦ inr (let e : i ≡ length xs + p.at = p.is in record { at = p.at; is = omega arith; found = p.found })
]

filtered_step : {A : Type 0} (p : A → Bool) (y : A) (xs : List A) (x : A) → ((j : ℕ) → slice_get xs j ≡ Some x → p x ≡ true) → (b : Bool) (k : ℕ) → p y ≡ b
    → slice_get (cond b (y ∷ xs) xs) k ≡ Some x → p x ≡ true
filtered_step p y xs x next true zero e q = ap p (sym (same_Some y x q)) ∙ e
filtered_step p y xs x next true (suc k) e q = next k q
filtered_step p y xs x next false k e q = next k q

-- what a test lets through passes it
pub get_filtered : {A : Type 0} (p : A → Bool) (xs : List A) (k : ℕ) (x : A) → slice_get (filter p xs) k ≡ Some x → p x ≡ true
get_filtered p [] k x h = absurd (none-some x h)
get_filtered p (y ∷ xs) k x h = filtered_step p y (filter p xs) x (λ j q. get_filtered p xs j x q) (p y) k refl h

pub map_back : {A B : Type 0} (f : B → A) (g : A → B) (xs : List A) → ((k : ℕ) (x : A) → slice_get xs k ≡ Some x → f (g x) ≡ x) → map f (map g xs) ≡ xs
map_back f g [] h = refl
map_back f g (x ∷ xs) h = ap (λ y. y ∷ map f (map g xs)) (h 0 x refl) ∙ ap (λ l. x ∷ l) (map_back f g xs (λ k y q. h (suc k) y q))

pub map_against : {A B : Type 0} (f : A → B) (xs : List A) (ys : List B) → length xs ≡ length ys
    → ((k : ℕ) (x : A) (y : B) → slice_get xs k ≡ Some x → slice_get ys k ≡ Some y → f x ≡ y) → map f xs ≡ ys
map_against f [] [] e h = refl
map_against f [] (y ∷ ys) e h = absurd (omega arith)
map_against f (x ∷ xs) [] e h = absurd (omega arith)
map_against f (x ∷ xs) (y ∷ ys) e h =
    ap (λ z. z ∷ map f xs) (h 0 x y refl refl) ∙ ap (λ l. y ∷ l) (map_against f xs ys (omega arith) (λ k a b p q. h (suc k) a b p q))

-- ---- names

pub other_name : (x n : Name) → (x ≡ n → ⊥) → bytes_eq x n ≡ false
other_name x n h = false_from_ne_true (bytes_eq x n) (λ e. h ((bytes_eq-Decides x n).0 e))

pub apart_rest : (n : Name) (names : List Name) → AreApart (n ∷ names) → AreApart names
apart_rest n names apart = λ i j x p q. let e : suc i ≡ suc j = apart (suc i) (suc j) x p q in omega arith

pub apart_front : (xs ys : List Name) → AreApart (xs ++ ys) → AreApart xs
apart_front xs ys apart = λ i j x p q. apart i j x (get_front xs ys i x p) (get_front xs ys j x q)

pub apart_back : (xs ys : List Name) → AreApart (xs ++ ys) → AreApart ys
apart_back xs ys apart = λ i j x p q.
    let e : length xs + i ≡ length xs + j = apart (length xs + i) (length xs + j) x (get_back xs ys i x p) (get_back xs ys j x q) in omega arith

-- the first of names that stand apart is none of the others
pub head_other : (n : Name) (names : List Name) (k : ℕ) (x : Name) → AreApart (n ∷ names) → slice_get names k ≡ Some x → bytes_eq x n ≡ false
head_other n names k x apart h = other_name x n (λ e. let z : 0 ≡ suc k = apart 0 (suc k) x (ap Some (sym e)) h in absurd (omega arith))

pub place_at : (names : List Name) (k : ℕ) (x : Name) → AreApart names → slice_get names k ≡ Some x → place names x ≡ k
place_at [] k x apart h = absurd (none-some x h)
place_at (n ∷ names) zero x apart h =
    ap (λ b. cond (not b) (1 + place names x) 0) (subst (λ (y : Name). bytes_eq x y ≡ true) (sym (same_Some n x h)) ((bytes_eq-Decides x x).1 refl))
place_at (n ∷ names) (suc k) x apart h =
    let e : place names x ≡ k = place_at names k x (apart_rest n names apart) h in
    let f : 1 + place names x ≡ suc k = omega arith in
    ap (λ b. cond (not b) (1 + place names x) 0) (head_other n names k x apart h) ∙ f
