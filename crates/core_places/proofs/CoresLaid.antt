-- The cores that are laid one by one are those of the placed ones.
use Rattle.std.proofs.Common.{◌≡◌, ℕ, zero, suc, ◌+◌, Bool, true, false, if◌then◌else◌, List, [], ◌∷◌, ◌++◌, map, take, Some, add-one, refl, sym, ap, ◌∙◌, arith}
use Rattle.std.specs.Prelude.{slice_get}
use Rattle.std.proofs.lemmas.List.{map-append}
use Rattle.std.proofs.lemmas.Option.{same_Some, none-some}
use Rattle.lists.proofs.Places.{get_mapped}
use Rattle.top_parts.specs.declared.layout.Core.{Core}
use Rattle.top_wiring.specs.Parts.{each_from}
use Rattle.core_tables.specs.Family.{CoreKind, Bank, Mutex, Barrier, ThreadIds, Printer}
use Rattle.core_tables.specs.Fits.{core_of}
use Rattle.core_tables.specs.Tables.{core_name, laid_core}
use Rattle.core_family.specs.declared.cores.Cores.{Cores}
use Rattle.core_family.specs.declared.cores.CoreKind.{CoreKind as Held}
use Rattle.core_family.specs.View.{kind_of}
use Rattle.core_places.specs.declared.layout.Places.{Places}
use Rattle.core_places.specs.Laying.{place_in, places_of}
use Rattle.core_places.specs.Placing.{free_at, unset_at, place_of, number_of, placed_core}

-- one more
each_next : {A : Type 0} {B : Type 0} (f : ℕ → A → B) (n : ℕ) (xs : List A) (i : ℕ) (x : A) → slice_get xs i ≡ Some x →
    each_from f n (take (suc i) xs) ≡ each_from f n (take i xs) ++ f (n + i) x ∷ []
each_next f n [] i x e = absurd (none-some x e)
each_next f n (y ∷ xs) zero x e = ap (λ z. f n z ∷ []) (same_Some y x e) ∙ ap (λ k. f k x ∷ []) (let q : n ≡ n + 0 = omega arith in q)
each_next f n (y ∷ xs) (suc i) x e =
    ap (λ l. f n y ∷ l) (each_next f (n + 1) xs i x e) ∙ ap (λ k. f n y ∷ (each_from f (n + 1) (take i xs) ++ f k x ∷ [])) (let q : n + 1 + i ≡ n + suc i = omega arith in q)

module _ (w : Cores) (first : ℕ) where
  past : (b : Bool) → (if b then first + free_at w else first + unset_at w) ≡ first + (if b then free_at w else unset_at w)
  past true = refl
  past false = refl

  place_is : (k : ℕ) (s : CoreKind) → place_in (places_of first w) k s ≡ first + place_of w k s
  place_is k (Bank b) = refl
  place_is k (Mutex m) = past m.initialised
  place_is k (Barrier s) = refl
  place_is k (ThreadIds s) = refl
  place_is k (Printer s) = refl

  abbrev pub laid : List CoreKind → List Core
  laid kinds = map (laid_core first) (each_from (placed_core w) 0 kinds)

  pub one_laid : (held : List Held) (i : ℕ) (k : Held) (at : Places) (place number : ℕ) (core : Core) (before after : List Core) → slice_get held i ≡ Some k →
      at ≡ places_of first w → place ≡ place_in at i (kind_of k) → number ≡ number_of w i (kind_of k) → core ≡ core_of (kind_of k) place (core_name (kind_of k) number) →
      before ≡ laid (take i (map kind_of held)) → after ≡ before ++ core ∷ [] → after ≡ laid (take (i + 1) (map kind_of held))
  one_laid held i k at place number core before after listed is_at is_place is_number is_core so_far same =
      let s : CoreKind = kind_of k in
      let placed = is_place ∙ ap (λ (p : Places). place_in p i s) is_at ∙ place_is i s in
      let here : core ≡ laid_core first (placed_core w i s) =
      is_core ∙ ap (λ p. core_of s p (core_name s number)) placed ∙ ap (λ n. core_of s (first + place_of w i s) (core_name s n)) is_number in
      let next : laid (take (i + 1) (map kind_of held)) ≡ laid (take i (map kind_of held)) ++ laid_core first (placed_core w i s) ∷ [] =
      ap (λ n. laid (take n (map kind_of held))) (add-one i)
      ∙ ap (map (laid_core first)) (each_next (placed_core w) 0 (map kind_of held) i s (get_mapped kind_of held i k listed))
      ∙ map-append (laid_core first) (each_from (placed_core w) 0 (take i (map kind_of held))) (placed_core w (0 + i) s ∷ [])
      ∙ ap (λ n. laid (take i (map kind_of held)) ++ laid_core first (placed_core w n s) ∷ []) (let z : 0 + i ≡ i = omega arith in z) in
      same ∙ ap (λ (cs : List Core). cs ++ core ∷ []) so_far ∙ ap (λ (c : Core). laid (take i (map kind_of held)) ++ c ∷ []) here ∙ sym next
