-- Elements of lists by their places.
use Rattle.std.proofs.Common.{◌≡◌, ◌≢◌, ℕ, zero, suc, ◌+◌, ◌<◌, List, [], ◌∷◌, ◌++◌, false, Option, Some, None, refl, sym, ap, ◌∙◌, subst, inl, inr, ⊎_elim, length, map, take, replicate, arith}
use Rattle.std.specs.Prelude.{◌⊎◌, is_some, slice_get, slice_index, slice_set, option_map}
use Rattle.std.specs.List.{AllByRecursion, Contains}
use Rattle.std.proofs.lemmas.Option.{slice_get-map, same_Some, none-some}

pub get_there : {A : Type 0} (xs : List A) (k : ℕ) → k < length xs → (x : A) × (slice_get xs k ≡ Some x)
get_there [] k lt = absurd (omega arith)
get_there (y ∷ xs) zero lt = (y, refl)
get_there (y ∷ xs) (suc k) lt = get_there xs k (omega arith)

pub get_front : {A : Type 0} (xs ys : List A) (i : ℕ) (x : A) → slice_get xs i ≡ Some x → slice_get (xs ++ ys) i ≡ Some x
get_front [] ys i x h = absurd (none-some x h)
get_front (y ∷ xs) ys zero x h = h
get_front (y ∷ xs) ys (suc i) x h = get_front xs ys i x h

pub get_back : {A : Type 0} (xs ys : List A) (i : ℕ) (x : A) → slice_get ys i ≡ Some x → slice_get (xs ++ ys) (length xs + i) ≡ Some x
get_back [] ys i x h = let e : i ≡ 0 + i = omega arith in subst (λ (k : ℕ). slice_get ys k ≡ Some x) e h
get_back (y ∷ xs) ys i x h =
    let e : suc (length xs + i) ≡ suc (length xs) + i = omega arith in
    subst (λ (k : ℕ). slice_get (y ∷ (xs ++ ys)) k ≡ Some x) e (get_back xs ys i x h)

pub get_last : {A : Type 0} (xs : List A) (x : A) → slice_get (xs ++ x ∷ []) (length xs) ≡ Some x
get_last [] x = refl
get_last (y ∷ xs) x = get_last xs x

pub get_mapped : {A B : Type 0} (f : A → B) (xs : List A) (k : ℕ) (x : A) → slice_get xs k ≡ Some x → slice_get (map f xs) k ≡ Some (f x)
get_mapped f xs k x h = slice_get-map f xs k ∙ ap (option_map f) h

pub get_unmapped : {A B : Type 0} (f : A → B) (xs : List A) (k : ℕ) (y : B) → slice_get (map f xs) k ≡ Some y → (x : A) × (slice_get xs k ≡ Some x) × (f x ≡ y)
get_unmapped f [] k y h = absurd (none-some y h)
get_unmapped f (x ∷ xs) zero y h = (x, refl, same_Some (f x) y h)
get_unmapped f (x ∷ xs) (suc k) y h = get_unmapped f xs k y h

pub none_of : {A : Type 0} (o : Option A) → is_some o ≡ false → o ≡ None
none_of None e = refl
none_of (Some x) e = absurd cc

-- ---- parts

pub get_left : {A : Type 0} (xs ys : List A) (k : ℕ) → k < length xs → slice_get (xs ++ ys) k ≡ slice_get xs k
get_left [] ys k h = absurd (omega arith)
get_left (x ∷ xs) ys zero h = refl
get_left (x ∷ xs) ys (suc k) h = get_left xs ys k (omega arith)

pub get_right : {A : Type 0} (xs ys : List A) (k : ℕ) → slice_get (xs ++ ys) (length xs + k) ≡ slice_get ys k
get_right [] ys k = let e : 0 + k ≡ k = omega arith in rw e refl
get_right (x ∷ xs) ys k = let e : suc (length xs) + k ≡ suc (length xs + k) = omega arith in rw e (get_right xs ys k)

pub get_either : {A : Type 0} (xs ys : List A) (k : ℕ) (x : A) → slice_get (xs ++ ys) k ≡ Some x → (slice_get xs k ≡ Some x) ⊎ ((j : ℕ) × (slice_get ys j ≡ Some x))
get_either [] ys k x e = inr (k, e)
get_either (y ∷ xs) ys zero x e = inl e
get_either (y ∷ xs) ys (suc k) x e = get_either xs ys k x e

pub get_middle : {A : Type 0} (xs ys : List A) (x : A) → slice_get (xs ++ x ∷ ys) (length xs) ≡ Some x
get_middle [] ys x = refl
get_middle (y ∷ xs) ys x = get_middle xs ys x

pub length_more : {A : Type 0} (xs : List A) (x : A) → length (xs ++ x ∷ []) ≡ suc (length xs)
length_more [] x = refl
length_more (y ∷ xs) x = ap suc (length_more xs x)

pub get_pushed : {A : Type 0} (xs : List A) (x : A) (k : ℕ) (y : A) → slice_get (xs ++ x ∷ []) k ≡ Some y → (slice_get xs k ≡ Some y) ⊎ ((k ≡ length xs) × (x ≡ y))
get_pushed [] x zero y e = inr (refl, same_Some x y e)
get_pushed [] x (suc k) y e = absurd (none-some y e)
get_pushed (z ∷ xs) x zero y e = inl e
get_pushed (z ∷ xs) x (suc k) y e = ⊎_elim (λ before. inl before) (λ last. inr (ap suc last.0, last.1)) (get_pushed xs x k y e)

pub get_earlier : {A : Type 0} (xs : List A) (x : A) (k : ℕ) (y : A) → k ≢ length xs → slice_get (xs ++ x ∷ []) k ≡ Some y → slice_get xs k ≡ Some y
get_earlier xs x k y ne e = ⊎_elim (λ before. before) (λ last. absurd (ne last.0)) (get_pushed xs x k y e)

pub get_nothing : {A : Type 0} (xs : List A) (k : ℕ) (x : A) → xs ≡ [] → slice_get xs k ≡ Some x → ⊥
get_nothing xs k x e h = none-some x (ap (λ l. slice_get l k) (sym e) ∙ h)

pub take_next : {A : Type 0} (xs : List A) (k : ℕ) (x : A) → slice_get xs k ≡ Some x → take (suc k) xs ≡ take k xs ++ x ∷ []
take_next [] k x e = absurd (none-some x e)
take_next (y ∷ xs) zero x e = ap (λ z. z ∷ []) (same_Some y x e)
take_next (y ∷ xs) (suc k) x e = ap (λ l. y ∷ l) (take_next xs k x e)

-- ---- after a write

pub set_same : {A : Type 0} (xs : List A) (k : ℕ) (x : A) → k < length xs → slice_get (slice_set xs k x) k ≡ Some x
set_same [] k x h = absurd (omega arith)
set_same (y ∷ xs) zero x h = refl
set_same (y ∷ xs) (suc k) x h = set_same xs k x (omega arith)

pub set_there : {A : Type 0} (xs : List A) (k : ℕ) (x y : A) → slice_get xs k ≡ Some x → slice_get (slice_set xs k y) k ≡ Some y
set_there [] k x y e = absurd (none-some x e)
set_there (z ∷ xs) zero x y e = refl
set_there (z ∷ xs) (suc k) x y e = set_there xs k x y e

pub set_other : {A : Type 0} (xs : List A) (i k : ℕ) (x : A) → k ≢ i → slice_get (slice_set xs i x) k ≡ slice_get xs k
set_other [] i k x h = refl
set_other (y ∷ xs) zero zero x h = absurd (h refl)
set_other (y ∷ xs) zero (suc k) x h = refl
set_other (y ∷ xs) (suc i) zero x h = refl
set_other (y ∷ xs) (suc i) (suc k) x h = set_other xs i k x (λ e. h (ap suc e))

pub set_elsewhere : {A : Type 0} (xs : List A) (i k : ℕ) (x : A) → i ≢ k → slice_get (slice_set xs i x) k ≡ slice_get xs k
set_elsewhere xs i k x h = set_other xs i k x (λ e. h (sym e))

pub set_element : {A : Type 0} (xs : List A) (i k : ℕ) (x y : A) → slice_get (slice_set xs i x) k ≡ Some y → ((k ≡ i) × (y ≡ x)) ⊎ ((k ≢ i) × (slice_get xs k ≡ Some y))
set_element [] i k x y e = absurd (none-some y e)
set_element (z ∷ xs) zero zero x y e = inl (refl, sym (same_Some x y e))
set_element (z ∷ xs) zero (suc k) x y e = inr (λ h. cc, e)
set_element (z ∷ xs) (suc i) zero x y e = inr (λ h. cc, e)
set_element (z ∷ xs) (suc i) (suc k) x y e = ⊎_elim (λ p. inl (ap suc p.0, p.1)) (λ p. inr (λ h. p.0 cc, p.1)) (set_element xs i k x y e)

-- ---- copies of one value

pub copies_there : {A : Type 0} (n : ℕ) (x : A) (k : ℕ) → k < n → slice_get (replicate n x) k ≡ Some x
copies_there zero x k h = absurd (omega arith)
copies_there (suc n) x zero h = refl
copies_there (suc n) x (suc k) h = copies_there n x k (omega arith)

pub copies_are : {A : Type 0} (n : ℕ) (x : A) (k : ℕ) (y : A) → slice_get (replicate n x) k ≡ Some y → y ≡ x
copies_are zero x k y e = absurd (none-some y e)
copies_are (suc n) x zero y e = sym (same_Some x y e)
copies_are (suc n) x (suc k) y e = copies_are n x k y e

pub copies_front : {A : Type 0} (n k : ℕ) (x : A) (xs : List A) → k < n → slice_get (replicate n x ++ xs) k ≡ Some x
copies_front zero k x xs h = absurd (omega arith)
copies_front (suc n) zero x xs h = refl
copies_front (suc n) (suc k) x xs h = copies_front n k x xs (omega arith)

pub zeros_at : (n k : ℕ) → slice_index (replicate n 0) k ≡ 0
zeros_at zero k = refl
zeros_at (suc n) zero = refl
zeros_at (suc n) (suc k) = zeros_at n k

-- ---- members

pub in_one : {A : Type 0} (x y : A) → Contains (x ∷ []) y → x ≡ y
in_one x y (zero, l, e) = e
in_one x y (suc k, l, e) = absurd (omega arith)

pub in_none : {A : Type 0} (x : A) → Contains {X = A} [] x → ⊥
in_none x h = omega (arith, h.1)

pub all_front : {A : Type 0} (P : A → Type 0) (xs ys : List A) → AllByRecursion P (xs ++ ys) → AllByRecursion P xs
all_front P [] ys all = tt
all_front P (x ∷ xs) ys all = (all.0, all_front P xs ys all.1)

pub all_back : {A : Type 0} (P : A → Type 0) (xs ys : List A) → AllByRecursion P (xs ++ ys) → AllByRecursion P ys
all_back P [] ys all = all
all_back P (x ∷ xs) ys all = all_back P xs ys all.1
