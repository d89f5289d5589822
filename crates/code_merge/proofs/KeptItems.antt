-- Items whose flags are set.
use Rattle.std.proofs.Common.{◌≡◌, ℕ, zero, suc, ◌+◌, ◌<◌, ◌≤◌, Bool, true, false, List, [], ◌∷◌, ◌++◌, length, map, reverse, Option, Some, None}
use Rattle.std.proofs.Common.{refl, sym, ap, ◌∙◌, arith, append_assoc, append-nil, length-append}
use Rattle.std.specs.Prelude.{if◌then◌else◌, slice_get, slice_index_or}
use Rattle.std.proofs.lemmas.List.{map-append, reverse-append}
use Rattle.code_merge.specs.Used.{kept, number}
use Rattle.code_merge.specs.Dropping.{number_or}

pub number_first : (us : List Bool) → number us 0 ≡ 0
number_first [] = refl
number_first (u ∷ us) = refl

-- an item that is kept
pub kept_get : {A : Type 0} (us : List Bool) (xs : List A) (l : ℕ) (x : A) → slice_get us l ≡ Some true → slice_get xs l ≡ Some x →
    slice_get (kept us xs) (number us l) ≡ Some x
kept_get [] xs l x u e = cc
kept_get (b ∷ us) [] l x u e = cc
kept_get (true ∷ us) (y ∷ xs) zero x u e = e
kept_get (false ∷ us) (y ∷ xs) zero x u e = cc
kept_get (true ∷ us) (y ∷ xs) (suc l) x u e = kept_get us xs l x u e
kept_get (false ∷ us) (y ∷ xs) (suc l) x u e = kept_get us xs l x u e

-- where a kept item was
pub kept_from : {A : Type 0} (us : List Bool) (xs : List A) (k : ℕ) (x : A) → slice_get (kept us xs) k ≡ Some x →
    (l : ℕ) × (slice_get us l ≡ Some true) × (slice_get xs l ≡ Some x) × (number us l ≡ k)
kept_from [] xs k x e = cc
kept_from (b ∷ us) [] k x e = cc
kept_from (true ∷ us) (y ∷ xs) zero x e = (0, refl, e, refl)
kept_from (true ∷ us) (y ∷ xs) (suc k) x e = let h = kept_from us xs k x e in (suc h.0, h.1, h.2, ap suc h.3)
kept_from (false ∷ us) (y ∷ xs) k x e = let h = kept_from us xs k x e in (suc h.0, h.1, h.2, h.3)

pub number_less : (us : List Bool) (l m : ℕ) → slice_get us l ≡ Some true → l < m → number us l < number us m
number_less [] l m u lt = cc
number_less (b ∷ us) l zero u lt = absurd (omega arith)
number_less (true ∷ us) zero (suc m) u lt = omega arith
number_less (false ∷ us) zero (suc m) u lt = cc
number_less (true ∷ us) (suc l) (suc m) u lt = let h = number_less us l m u (omega arith) in omega (arith, h)
number_less (false ∷ us) (suc l) (suc m) u lt = let h = number_less us l m u (omega arith) in omega (arith, h)

pub flag_at : (us : List Bool) (k : ℕ) (u : Bool) → k < length us → slice_index_or us k false ≡ u → slice_get us k ≡ Some u
flag_at [] k u lt e = absurd (omega arith)
flag_at (v ∷ us) zero u lt e = ap Some e
flag_at (v ∷ us) (suc k) u lt e = flag_at us k u (omega arith) e

-- ---- while numbers are counted

pub number_next : (us : List Bool) (l : ℕ) (u : Bool) → slice_get us l ≡ Some u → number us (suc l) ≡ number us l + (if u then 1 else 0)
number_next [] l u e = cc
number_next (true ∷ us) zero true e = let h = number_first us in omega (arith, h)
number_next (true ∷ us) zero false e = cc
number_next (false ∷ us) zero true e = cc
number_next (false ∷ us) zero false e = let h = number_first us in omega (arith, h)
number_next (true ∷ us) (suc l) u e = let h = number_next us l u e in omega (arith, h)
number_next (false ∷ us) (suc l) u e = let h = number_next us l u e in omega (arith, h)

pub number_past : (us : List Bool) (l m : ℕ) → length us ≤ l → length us ≤ m → number us l ≡ number us m
number_past [] l m h g = refl
number_past (u ∷ us) zero m h g = absurd (omega arith)
number_past (u ∷ us) (suc l) zero h g = absurd (omega arith)
number_past (true ∷ us) (suc l) (suc m) h g = ap suc (number_past us l m (omega arith) (omega arith))
number_past (false ∷ us) (suc l) (suc m) h g = number_past us l m (omega arith) (omega arith)

-- one more item
pub item_more : {A : Type 0} (F : ℕ → A) (xs : List A) (x : A) → x ≡ F (length xs) → ((k : ℕ) (y : A) → slice_get xs k ≡ Some y → y ≡ F k) →
    (k : ℕ) (y : A) → slice_get (xs ++ x ∷ []) k ≡ Some y → y ≡ F k
item_more F [] x last were zero y e = (let h : x ≡ y = cc in sym h) ∙ last
item_more F [] x last were (suc k) y e = cc
item_more F (z ∷ xs) x last were zero y e = were 0 y e
item_more F (z ∷ xs) x last were (suc k) y e = item_more (λ i. F (suc i)) xs x last (λ i v. were (suc i) v) k y e

pub number_step : (us : List Bool) (k n m : ℕ) (u : Bool) → k < length us → slice_index_or us k false ≡ u → n ≡ number us k → m ≡ n + (if u then 1 else 0) →
    m ≡ number us (k + 1)
number_step us k n m u lt e was is =
    let h = number_next us k u (flag_at us k u lt e) in
    let g : k + 1 ≡ suc k = omega arith in
    is ∙ ap (λ z. z + (if u then 1 else 0)) was ∙ sym h ∙ ap (number us) (sym g)

past : {A : Type 0} (xs : List A) (k : ℕ) → slice_get xs k ≡ None → length xs ≤ k
past [] k e = omega arith
past (x ∷ xs) zero e = cc
past (x ∷ xs) (suc k) e = let h = past xs k e in omega (arith, h)

pub numbers_all : (us : List Bool) (of : List ℕ) (n at : ℕ) → n ≡ number us at → length of ≡ at → length us ≤ at → ((k m : ℕ) → slice_get of k ≡ Some m → m ≡ number us k) →
    (l : ℕ) → number_or n (slice_get of l) ≡ number us l
numbers_all us of n at is size done were l = by (slice_get of l) refl
  where
    by : (o : Option ℕ) → slice_get of l ≡ o → number_or n o ≡ number us l
    by None e = is ∙ number_past us at l done (let h = past of l e in omega (arith, h, size, done))
    by (Some m) e = were l m e

-- ---- while items are kept, from the last one on

kept_none : {A : Type 0} (us : List Bool) (xs : List A) → xs ≡ [] → kept us xs ≡ []
kept_none [] xs e = refl
kept_none (u ∷ us) [] e = refl
kept_none (u ∷ us) (x ∷ xs) e = cc

pub kept_last : {A : Type 0} (us : List Bool) (xs : List A) (x : A) (u : Bool) → slice_get us (length xs) ≡ Some u →
    kept us (xs ++ x ∷ []) ≡ kept us xs ++ (if u then x ∷ [] else [])
kept_last [] xs x u e = cc
kept_last (true ∷ us) [] x true e = ap (λ z. x ∷ z) (kept_none us [] refl)
kept_last (true ∷ us) [] x false e = cc
kept_last (false ∷ us) [] x true e = cc
kept_last (false ∷ us) [] x false e = kept_none us [] refl
kept_last (true ∷ us) (y ∷ xs) x u e = ap (λ z. y ∷ z) (kept_last us xs x u e)
kept_last (false ∷ us) (y ∷ xs) x u e = kept_last us xs x u e

module _ {A B : Type 0} (f : A → B) (us : List Bool) (all : List B) (old new : List A) (x : A) (last : List B) (k : ℕ) (is : old ≡ new ++ x ∷ []) (at : k ≡ length new)
    (there : length old ≤ length us) (so_far : all ≡ map f (kept us old) ++ reverse last) where
  shorter : length new < length us
  shorter = let l = length-append new (x ∷ []) in let e = ap length is in omega (arith, l, e, there)

  last_flag : (u : Bool) → slice_index_or us k false ≡ u → kept us old ≡ kept us new ++ (if u then x ∷ [] else [])
  last_flag u e = ap (kept us) is ∙ kept_last us new x u (ap (slice_get us) (sym at) ∙ flag_at us k u (let h = shorter in omega (arith, h, at)) e)

  pub kept_in : (next : List B) (y : B) → slice_index_or us k false ≡ true → y ≡ f x → next ≡ last ++ y ∷ [] → all ≡ map f (kept us new) ++ reverse next
  kept_in next y e same n =
      so_far ∙ ap (λ z. map f z ++ reverse last) (last_flag true e) ∙ ap (λ z. z ++ reverse last) (map-append f (kept us new) (x ∷ []))
      ∙ append_assoc (map f (kept us new)) (f x ∷ []) (reverse last)
      ∙ ap (λ z. map f (kept us new) ++ z ∷ reverse last) (sym same)
      ∙ ap (λ z. map f (kept us new) ++ z) (sym (reverse-append last (y ∷ [])) ∙ ap reverse (sym n))

  pub kept_out : slice_index_or us k false ≡ false → all ≡ map f (kept us new) ++ reverse last
  kept_out e = so_far ∙ ap (λ z. map f z ++ reverse last) (last_flag false e ∙ append-nil (kept us new))

pub kept_empty : {A B : Type 0} (f : A → B) (us : List Bool) (xs : List A) (last : List B) → xs ≡ [] → map f (kept us xs) ++ last ≡ last
kept_empty f us xs last e = ap (λ z. map f z ++ last) (kept_none us xs e)
