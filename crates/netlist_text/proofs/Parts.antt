-- What a list of items tells, part by part.
use Rattle.std.proofs.Common.{◌≡◌, List, [], ◌∷◌, ◌++◌, Bool, true, false, cond, refl, sym, ap, ◌∙◌, map}
use Rattle.std.specs.Prelude.{filter, if◌then◌else◌}
use Rattle.std.specs.List.{flat_map}
use Rattle.std.proofs.lemmas.List.{append-nil}
use Rattle.std.proofs.lemmas.List.Concat.{flat_map-append}
use Rattle.netlist_text.specs.LaidOut.{block}

pub flat_flat : {A B C : Type 0} (g : B → List C) (f : A → List B) (xs : List A) → flat_map g (flat_map f xs) ≡ flat_map (λ x. flat_map g (f x)) xs
flat_flat g f [] = refl
flat_flat g f (x ∷ xs) = flat_map-append g (f x) (flat_map f xs) ∙ ap (λ l. flat_map g (f x) ++ l) (flat_flat g f xs)

pub flat_none : {A B : Type 0} (f : A → List B) → ((x : A) → f x ≡ []) → (xs : List A) → flat_map f xs ≡ []
flat_none f h [] = refl
flat_none f h (x ∷ xs) = ap (λ l. l ++ flat_map f xs) (h x) ∙ flat_none f h xs

filter_step : {A B : Type 0} (d : A → B) (b : Bool) (x : A) (l : List B) (xs : List A) → l ≡ map d xs → (if b then d x ∷ [] else []) ++ l ≡ map d (cond b (x ∷ xs) xs)
filter_step d true x l xs h = ap (λ k. d x ∷ k) h
filter_step d false x l xs h = h

-- one of each that passes
pub flat_filter : {A B : Type 0} (p : A → Bool) (d : A → B) (f : A → List B) → ((x : A) → f x ≡ (if p x then d x ∷ [] else [])) → (xs : List A)
    → flat_map f xs ≡ map d (filter p xs)
flat_filter p d f h [] = refl
flat_filter p d f h (x ∷ xs) = ap (λ l. l ++ flat_map f xs) (h x) ∙ filter_step d (p x) x (flat_map f xs) (filter p xs) (flat_filter p d f h xs)

module _ {I B : Type 0} (g : I → List B) where
  pub map_none : {A : Type 0} (f : A → I) → ((x : A) → g (f x) ≡ []) → (xs : List A) → flat_map g (map f xs) ≡ []
  map_none f h [] = refl
  map_none f h (x ∷ xs) = ap (λ l. l ++ flat_map g (map f xs)) (h x) ∙ map_none f h xs

  pub map_single : {A : Type 0} (f : A → I) (d : A → B) → ((x : A) → g (f x) ≡ d x ∷ []) → (xs : List A) → flat_map g (map f xs) ≡ map d xs
  map_single f d h [] = refl
  map_single f d h (x ∷ xs) = ap (λ l. l ++ flat_map g (map f xs)) (h x) ∙ ap (λ l. d x ∷ l) (map_single f d h xs)

  pub block_none : {A : Type 0} (f : List A → I) → ((xs : List A) → g (f xs) ≡ []) → (xs : List A) → flat_map g (block f xs) ≡ []
  block_none f h [] = refl
  block_none f h (x ∷ xs) = ap (λ l. l ++ []) (h (x ∷ xs))

  pub block_all : {A : Type 0} (f : List A → I) (d : List A → List B) → ((xs : List A) → g (f xs) ≡ d xs) → d [] ≡ [] → (xs : List A) → flat_map g (block f xs) ≡ d xs
  block_all f d h none [] = sym none
  block_all f d h none (x ∷ xs) = append-nil (g (f (x ∷ xs))) ∙ h (x ∷ xs)

  joined : (xs ys : List I) (rx ry : List B) → flat_map g xs ≡ rx → flat_map g ys ≡ ry → flat_map g (xs ++ ys) ≡ rx ++ ry
  joined xs ys rx ry p q = flat_map-append g xs ys ∙ ap (λ l. l ++ flat_map g ys) p ∙ ap (λ l. rx ++ l) q

  pub parts : (a b c d e f : List I) (ra rb rc rd re rf : List B) → flat_map g a ≡ ra → flat_map g b ≡ rb → flat_map g c ≡ rc → flat_map g d ≡ rd → flat_map g e ≡ re → flat_map g f ≡ rf
      → flat_map g (a ++ b ++ c ++ d ++ e ++ f) ≡ ra ++ rb ++ rc ++ rd ++ re ++ rf
  parts a b c d e f ra rb rc rd re rf pa pb pc pd pe pf =
      joined (a ++ b ++ c ++ d ++ e) f (ra ++ rb ++ rc ++ rd ++ re) rf
      (joined (a ++ b ++ c ++ d) e (ra ++ rb ++ rc ++ rd) re
      (joined (a ++ b ++ c) d (ra ++ rb ++ rc) rd (joined (a ++ b) c (ra ++ rb) rc (joined a b ra rb pa pb) pc) pd) pe) pf
