-- Elements of lists by their places.
use Rattle.std.proofs.Common.{◌≡◌, ℕ, zero, suc, ◌+◌, ◌*◌, ◌<◌, ◌⊎◌, List, [], ◌∷◌, ◌++◌, length, take}
use Rattle.std.proofs.Common.{replicate, Some, refl, sym, ap, ◌∙◌, subst, inl, inr, arith, add-zero, zero-add, length-append}
use Rattle.std.specs.Prelude.{slice_get, slice_index}
use Rattle.std.specs.List.{flat_map}
use Rattle.std.proofs.Math.Nat.{suc-mul}
use Rattle.std.proofs.lemmas.List.{length-replicate}
use Rattle.std.proofs.lemmas.Option.{slice_get_within, same_Some, none-some}
use Rattle.lists.proofs.Places.{get_front, get_back, copies_there}
use Rattle.netlist.specs.declared.netlist.Module.{Module}
use Rattle.netlist.specs.Laid.{EachAt}
use Rattle.circuit.specs.Rows.{spread}
use Rattle.circuit.proofs.Growth.{slice_get-spread}
use Rattle.top_parts.specs.declared.parts.Part.{Part}
use Rattle.top_parts.specs.Parts.{each_from, flat_from, flat_spread}
use Rattle.top_parts.specs.Wires.{ports, starts_from}
use Rattle.top_parts.proofs.GrownLists.{length-ports}

-- no place is listed
pub no_places : (P : ℕ → ℕ → Type 0) → EachAt [] P
no_places P k x e = absurd (none-some x e)

-- the same, where the length is known
pub get_behind : {A : Type 0} (n : ℕ) (xs ys : List A) (i : ℕ) (x : A) → length xs ≡ n → slice_get ys i ≡ Some x → slice_get (xs ++ ys) (n + i) ≡ Some x
get_behind n xs ys i x e h = subst (λ (k : ℕ). slice_get (xs ++ ys) (k + i) ≡ Some x) e (get_back xs ys i x h)

pub record IsBehind {A : Type 0} (n : ℕ) (ys : List A) (i : ℕ) (x : A) : Type 0 where
  pub at : ℕ
  pub is : i ≡ n + at
  pub found : slice_get ys at ≡ Some x

pub get_either : {A : Type 0} (xs ys : List A) (i : ℕ) (x : A) → slice_get (xs ++ ys) i ≡ Some x → (slice_get xs i ≡ Some x) ⊎ IsBehind (length xs) ys i x
get_either [] ys i x h = inr (record { at = i; is = omega arith; found = h })
get_either (y ∷ xs) ys zero x h = inl h
get_either (y ∷ xs) ys (suc i) x h = elim (get_either xs ys i x h) [
  | inl p ↦ inl p
  | inr p ↦ inr (let e : i ≡ length xs + p.at = p.is in record { at = p.at; is = omega arith; found = p.found })
]

-- ---- by number

pub get_each : {A B : Type 0} (f : ℕ → A → B) (i : ℕ) (xs : List A) (k : ℕ) (x : A) → slice_get xs k ≡ Some x → slice_get (each_from f i xs) k ≡ Some (f (i + k) x)
get_each f i [] k x h = absurd (none-some x h)
get_each f i (y ∷ xs) zero x h = ap (λ z. Some (f i z)) (same_Some y x h) ∙ ap (λ j. Some (f j x)) (sym (add-zero i))
get_each f i (y ∷ xs) (suc k) x h =
    let e : i + 1 + k ≡ i + suc k = omega arith in
    get_each f (i + 1) xs k x h ∙ ap (λ j. Some (f j x)) e

pub each_back : {A B : Type 0} (f : ℕ → A → B) (i : ℕ) (xs : List A) (k : ℕ) (y : B) → slice_get (each_from f i xs) k ≡ Some y → (x : A) × (slice_get xs k ≡ Some x) × (y ≡ f (i + k) x)
each_back f i [] k y h = absurd (none-some y h)
each_back f i (x ∷ xs) zero y h = (x, refl, (sym (same_Some (f i x) y h) ∙ ap (λ j. f j x) (sym (add-zero i))))
each_back f i (x ∷ xs) (suc k) y h =
    let e : i + 1 + k ≡ i + suc k = omega arith in
    let m = each_back f (i + 1) xs k y h in (m.0, m.1, m.2 ∙ ap (λ j. f j m.0) e)

pub get_spread : {X : Type 0} (f : ℕ → X) (n k : ℕ) → k < n → slice_get (spread f 0 n) k ≡ Some (f k)
get_spread f n k l = slice_get-spread f 0 n k l ∙ ap (λ j. Some (f j)) (zero-add k)

pub spread_back : {X : Type 0} (f : ℕ → X) (i n k : ℕ) (x : X) → slice_get (spread f i n) k ≡ Some x → (k < n) × (x ≡ f (i + k))
spread_back f i zero k x h = absurd (none-some x h)
spread_back f i (suc n) zero x h = (omega arith, sym (same_Some (f i) x h) ∙ ap f (sym (add-zero i)))
spread_back f i (suc n) (suc k) x h =
    let e : i + 1 + k ≡ i + suc k = omega arith in
    let m = spread_back f (i + 1) n k x h in (let l = m.0 in omega arith, m.1 ∙ ap f e)

pub get_flat_from : {A B : Type 0} (f : ℕ → A → List B) (i : ℕ) (xs : List A) (k r : ℕ) (x : A) (y : B) → slice_get xs k ≡ Some x → slice_get (f (i + k) x) r ≡ Some y
    → slice_get (flat_from f i xs) (length (flat_from f i (take k xs)) + r) ≡ Some y
get_flat_from f i [] k r x y h g = absurd (none-some x h)
get_flat_from f i (z ∷ xs) zero r x y h g =
    let there : slice_get (f i z) r ≡ Some y = ap (λ w. slice_get (f i w) r) (same_Some z x h) ∙ ap (λ j. slice_get (f j x) r) (sym (add-zero i)) ∙ g in
    let e : r ≡ 0 + r = omega arith in
    subst (λ (k : ℕ). slice_get (f i z ++ flat_from f (i + 1) xs) k ≡ Some y) e (get_front (f i z) (flat_from f (i + 1) xs) r y there)
get_flat_from f i (z ∷ xs) (suc k) r x y h g =
    let e : i + suc k ≡ i + 1 + k = omega arith in
    let m = get_flat_from f (i + 1) xs k r x y h (ap (λ j. slice_get (f j x) r) (sym e) ∙ g) in
    let n = length-append (f i z) (flat_from f (i + 1) (take k xs)) in
    let q : length (f i z) + (length (flat_from f (i + 1) (take k xs)) + r) ≡ length (f i z ++ flat_from f (i + 1) (take k xs)) + r = omega arith in
    subst (λ (k : ℕ). slice_get (f i z ++ flat_from f (i + 1) xs) k ≡ Some y) q (get_back (f i z) (flat_from f (i + 1) xs) (length (flat_from f (i + 1) (take k xs)) + r) y m)

-- an element of joined lists is one of some of them
pub record IsIn {A B : Type 0} (f : ℕ → A → List B) (i : ℕ) (xs : List A) (p : ℕ) (y : B) : Type 0 where
  pub number : ℕ
  pub item : A
  pub listed : slice_get xs number ≡ Some item
  pub rest : ℕ
  pub found : slice_get (f (i + number) item) rest ≡ Some y
  pub place : p ≡ length (flat_from f i (take number xs)) + rest

pub flat_from_back : {A B : Type 0} (f : ℕ → A → List B) (i : ℕ) (xs : List A) (p : ℕ) (y : B) → slice_get (flat_from f i xs) p ≡ Some y → IsIn f i xs p y
flat_from_back f i [] p y h = absurd (none-some y h)
flat_from_back f i (x ∷ xs) p y h = elim (get_either (f i x) (flat_from f (i + 1) xs) p y h) [
  | inl g ↦ record { number = 0; item = x; listed = refl; rest = p; found = ap (λ j. slice_get (f j x) p) (add-zero i) ∙ g; place = omega arith }
  | inr g ↦
      let m = flat_from_back f (i + 1) xs g.at y g.found in
      let e : i + suc m.number ≡ i + 1 + m.number = omega arith in
      let n = length-append (f i x) (flat_from f (i + 1) (take m.number xs)) in
      let a : p ≡ length (f i x) + g.at = g.is in
      let b : g.at ≡ length (flat_from f (i + 1) (take m.number xs)) + m.rest = m.place in
      record { number = suc m.number; item = m.item; listed = m.listed; rest = m.rest; found = ap (λ j. slice_get (f j m.item) m.rest) e ∙ m.found; place = omega arith }
]

-- lists of one length, one after another
pub get_flat_spread : {B : Type 0} (f : ℕ → List B) (c i n k r : ℕ) (y : B) → ((j : ℕ) → length (f j) ≡ c) → k < n → slice_get (f (i + k)) r ≡ Some y
    → slice_get (flat_spread f i n) (k * c + r) ≡ Some y
get_flat_spread f c i zero k r y all l h = absurd (omega arith)
get_flat_spread f c i (suc n) zero r y all l h =
    let there : slice_get (f i) r ≡ Some y = ap (λ j. slice_get (f j) r) (sym (add-zero i)) ∙ h in
    let e : r ≡ 0 * c + r = omega arith in
    subst (λ (p : ℕ). slice_get (f i ++ flat_spread f (i + 1) n) p ≡ Some y) e (get_front (f i) (flat_spread f (i + 1) n) r y there)
get_flat_spread f c i (suc n) (suc k) r y all l h =
    let e : i + suc k ≡ i + 1 + k = omega arith in
    let m = get_flat_spread f c (i + 1) n k r y all (omega arith) (ap (λ j. slice_get (f j) r) (sym e) ∙ h) in
    let s = suc-mul k c in
    let q : c + (k * c + r) ≡ suc k * c + r = omega arith in
    subst (λ (p : ℕ). slice_get (f i ++ flat_spread f (i + 1) n) p ≡ Some y) q (get_behind c (f i) (flat_spread f (i + 1) n) (k * c + r) y (all i) m)

pub length-flat_spread : {B : Type 0} (f : ℕ → List B) (c i n : ℕ) → ((j : ℕ) → length (f j) ≡ c) → length (flat_spread f i n) ≡ n * c
length-flat_spread f c i zero all = omega arith
length-flat_spread f c i (suc n) all =
    let m = length-flat_spread f c (i + 1) n all in
    let a = length-append (f i) (flat_spread f (i + 1) n) in
    let b = all i in
    let s = suc-mul n c in
    omega arith

-- ---- where the wires of an instance begin

pub starts_at : (at : ℕ) (ps : List Part) (modules : List Module) (i j : ℕ) (p : Part) → slice_get ps j ≡ Some p
    → slice_index (starts_from at ps) j ≡ at + length (flat_from (ports modules) i (take j ps))
starts_at at [] modules i j p h = absurd (none-some p h)
starts_at at (q ∷ ps) modules i zero p h = sym (add-zero at)
starts_at at (q ∷ ps) modules i (suc j) p h =
    let m = starts_at (at + length q.outputs) ps modules (i + 1) j p h in
    let a = length-ports modules i q in
    let b = length-append (ports modules i q) (flat_from (ports modules) (i + 1) (take j ps)) in
    m ∙ (omega arith)

-- ---- joined lists, by number of the list

pub get_flat_map : {A B : Type 0} (f : A → List B) (xs : List A) (k r : ℕ) (x : A) (y : B) → slice_get xs k ≡ Some x → slice_get (f x) r ≡ Some y
    → slice_get (flat_map f xs) (length (flat_map f (take k xs)) + r) ≡ Some y
get_flat_map f [] k r x y h g = absurd (none-some x h)
get_flat_map f (z ∷ xs) zero r x y h g =
    let there : slice_get (f z) r ≡ Some y = ap (λ w. slice_get (f w) r) (same_Some z x h) ∙ g in
    let e : r ≡ 0 + r = omega arith in
    subst (λ (k : ℕ). slice_get (f z ++ flat_map f xs) k ≡ Some y) e (get_front (f z) (flat_map f xs) r y there)
get_flat_map f (z ∷ xs) (suc k) r x y h g =
    let m = get_flat_map f xs k r x y h g in
    let n = length-append (f z) (flat_map f (take k xs)) in
    let q : length (f z) + (length (flat_map f (take k xs)) + r) ≡ length (f z ++ flat_map f (take k xs)) + r = omega arith in
    subst (λ (k : ℕ). slice_get (f z ++ flat_map f xs) k ≡ Some y) q (get_back (f z) (flat_map f xs) (length (flat_map f (take k xs)) + r) y m)

pub record IsJoined {A B : Type 0} (f : A → List B) (xs : List A) (p : ℕ) (y : B) : Type 0 where
  pub number : ℕ
  pub item : A
  pub listed : slice_get xs number ≡ Some item
  pub rest : ℕ
  pub found : slice_get (f item) rest ≡ Some y
  pub place : p ≡ length (flat_map f (take number xs)) + rest

pub flat_map_back : {A B : Type 0} (f : A → List B) (xs : List A) (p : ℕ) (y : B) → slice_get (flat_map f xs) p ≡ Some y → IsJoined f xs p y
flat_map_back f [] p y h = absurd (none-some y h)
flat_map_back f (x ∷ xs) p y h = elim (get_either (f x) (flat_map f xs) p y h) [
  | inl g ↦ record { number = 0; item = x; listed = refl; rest = p; found = g; place = omega arith }
  | inr g ↦
      let m = flat_map_back f xs g.at y g.found in
      let n = length-append (f x) (flat_map f (take m.number xs)) in
      let a : p ≡ length (f x) + g.at = g.is in
      let b : g.at ≡ length (flat_map f (take m.number xs)) + m.rest = m.place in
      record { number = suc m.number; item = m.item; listed = m.listed; rest = m.rest; found = m.found; place = omega arith }
]

pub copies_back : {A : Type 0} (n k : ℕ) (a x : A) → slice_get (replicate n a) k ≡ Some x → (k < n) × (x ≡ a)
copies_back n k a x h =
    let within = slice_get_within (replicate n a) k x h in
    let n-is = length-replicate n a in
    let l : k < n = omega arith in
    (l, same_Some x a (sym h ∙ copies_there n a k l))

-- n copies of each
pub get_each_copied : (n : ℕ) (xs : List ℕ) (k i w : ℕ) → slice_get xs k ≡ Some w → i < n → slice_get (flat_map (λ (x : ℕ). replicate n x) xs) (k * n + i) ≡ Some w
get_each_copied n xs k i w h l =
    let m = get_flat_map (λ (x : ℕ). replicate n x) xs k i w w h (copies_there n w i l) in
    let e = length-copied xs k h in
    let q : length (flat_map (λ (x : ℕ). replicate n x) (take k xs)) + i ≡ k * n + i = omega arith in
    subst (λ (p : ℕ). slice_get (flat_map (λ (x : ℕ). replicate n x) xs) p ≡ Some w) q m
  where
    length-copied : (xs : List ℕ) (k : ℕ) → slice_get xs k ≡ Some w → length (flat_map (λ (x : ℕ). replicate n x) (take k xs)) ≡ k * n
    length-copied [] k h = absurd (none-some w h)
    length-copied (x ∷ xs) zero h = omega arith
    length-copied (x ∷ xs) (suc k) h =
        let m = length-copied xs k h in
        let a = length-append (replicate n x) (flat_map (λ (x : ℕ). replicate n x) (take k xs)) in
        let b = length-replicate n x in
        let s = suc-mul k n in
        omega arith
