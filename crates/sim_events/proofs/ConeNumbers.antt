-- A cone settled by itself gives its words what all steps give them, and changes no word that no step gives.
use Rattle.std.specs.Prelude.{◌≡◌, ℕ, suc, ◌<◌, Bool, true, false, if◌then◌else◌, List, [], ◌∷◌, length, Some, slice_get, slice_index, slice_index_or, slice_set, refl}
use Rattle.std.proofs.Common.{ap, sym, ◌∙◌, subst, ⊎_elim, arith}
use Rattle.std.proofs.lemmas.List.{get_or-set_same, get_or-set_other, get_or_past}
use Rattle.std.proofs.lemmas.Bool.{both_ways, cases_eq}
use Rattle.std.proofs.Math.ListN.{length-set}
use Rattle.netlist.specs.declared.netlist.Module.{Module}
use Rattle.verilog_meaning.specs.Cycles.{Choice}
use Rattle.sim_values.specs.declared.settle.Step.{Step}
use Rattle.sim_values.specs.Flat.{Flat, fed, with_numbers, stepped, settled}
use Rattle.sim_values.specs.Order.{reads, IsMarked}
use Rattle.sim_values.proofs.Settles.{each_from, same_fed}
use Rattle.sim_values.proofs.Trees.{front_or_back}
use Rattle.sim_events.specs.Cones.{cone_of, IsClosedAt, AreClosed}

by_mark : (P : List Step → Type 0) (b : Bool) (xs ys : List Step) → (b ≡ true → P xs) → (b ≡ false → P ys) → P (if b then xs else ys)
by_mark P true xs ys both one = both refl
by_mark P false xs ys both one = one refl

module _ (modules : List Module) (c : Choice) (marks : List Bool) where
  -- marked words are the same
  abbrev Alike : List ℕ → List ℕ → Type 0
  Alike ns qs = (y : ℕ) → IsMarked marks y → slice_index ns y ≡ slice_index qs y

  fed_alike : (f : Flat) (ns qs : List ℕ) (s : Step) → length ns ≡ length marks → length qs ≡ length marks → IsClosedAt modules marks s → IsMarked marks s.target → Alike ns qs
      → fed modules c (with_numbers f ns) s.feed ≡ fed modules c (with_numbers f qs) s.feed
  fed_alike f ns qs s n q closed is alike = same_fed modules c f ns qs s.feed
      (each_from (λ y. slice_index ns y ≡ slice_index qs y) (reads modules s.feed)
      (λ y among. ⊎_elim
      (λ (inside : y < length marks). alike y (closed is y among inside))
      (λ past.
      let d = past.1 in
      get_or_past ns y 0 (omega (arith, d, n)) ∙ sym (get_or_past qs y 0 (omega (arith, d, q))))
      (front_or_back y (length marks))))

  set_alike : (ns qs : List ℕ) (t v w : ℕ) → length ns ≡ length qs → v ≡ w → Alike ns qs → Alike (slice_set ns t v) (slice_set qs t w)
  set_alike ns qs t v w long same alike y is = ⊎_elim
      (λ (e : y ≡ t). ⊎_elim
      (λ (inside : t < length ns).
      ap (slice_index (slice_set ns t v)) e ∙ get_or-set_same ns t v 0 inside ∙ same ∙ sym (get_or-set_same qs t w 0 (subst (λ n. t < n) long inside)) ∙ ap (slice_index (slice_set qs t w)) (sym e))
      (λ past.
      let d = past.1 in
      let a = length-set ns t v in
      let b = length-set qs t w in
      get_or_past (slice_set ns t v) y 0 (omega (arith, a, d, e)) ∙ sym (get_or_past (slice_set qs t w) y 0 (omega (arith, b, d, e, long))))
      (front_or_back t (length ns)))
      (λ apart. get_or-set_other ns t y v 0 apart ∙ alike y is ∙ sym (get_or-set_other qs t y w 0 apart))
      (cases_eq y t)

  other_alike : (ns qs : List ℕ) (t w : ℕ) → slice_index_or marks t false ≡ false → Alike ns qs → Alike ns (slice_set qs t w)
  other_alike ns qs t w clear alike y is =
      alike y is ∙ sym (get_or-set_other qs t y w 0 (λ e. both_ways (slice_index_or marks t false) clear (subst (IsMarked marks) e is)))

  cone_alike : (steps : List Step) (f : Flat) (ns qs : List ℕ) → length ns ≡ length marks → length qs ≡ length marks → AreClosed modules marks steps → Alike ns qs
      → Alike (settled modules c (with_numbers f ns) (cone_of marks steps)) (settled modules c (with_numbers f qs) steps)
  cone_alike [] f ns qs n q closed alike = alike
  cone_alike (s ∷ steps) f ns qs n q closed alike =
      let v = fed modules c (with_numbers f ns) s.feed in
      let w = fed modules c (with_numbers f qs) s.feed in
      let rest : AreClosed modules marks steps = λ k t at. closed (suc k) t at in
      by_mark (λ (part : List Step). Alike (settled modules c (with_numbers f ns) part) (settled modules c (with_numbers f qs) (s ∷ steps)))
      (slice_index_or marks s.target false) (s ∷ cone_of marks steps) (cone_of marks steps)
      (λ e.
      cone_alike steps f (slice_set ns s.target v) (slice_set qs s.target w) (length-set ns s.target v ∙ n) (length-set qs s.target w ∙ q) rest
      (set_alike ns qs s.target v w (n ∙ sym q) (fed_alike f ns qs s n q (closed 0 s refl) e alike) alike))
      (λ e. cone_alike steps f ns (slice_set qs s.target w) n (length-set qs s.target w ∙ q) rest (other_alike ns qs s.target w e alike))

  pub cone_settles : (steps : List Step) (f : Flat) → length marks ≡ length f.numbers → AreClosed modules marks steps → (y : ℕ) → IsMarked marks y
      → slice_index (settled modules c f (cone_of marks steps)) y ≡ slice_index (settled modules c f steps) y
  cone_settles steps f long closed y is = cone_alike steps f f.numbers f.numbers (sym long) (sym long) closed (λ z m. refl) y is

  -- ---- a word that no step gives stays

  pub cone_leaves : (steps : List Step) (f : Flat) (y : ℕ) → ((k : ℕ) (s : Step) → slice_get steps k ≡ Some s → s.target ≡ y → ⊥)
      → slice_index (settled modules c f (cone_of marks steps)) y ≡ slice_index f.numbers y
  cone_leaves [] f y none = refl
  cone_leaves (s ∷ steps) f y none =
      let rest : (k : ℕ) (t : Step) → slice_get steps k ≡ Some t → t.target ≡ y → ⊥ = λ k t at. none (suc k) t at in
      by_mark (λ (part : List Step). slice_index (settled modules c f part) y ≡ slice_index f.numbers y)
      (slice_index_or marks s.target false) (s ∷ cone_of marks steps) (cone_of marks steps)
      (λ e. cone_leaves steps (with_numbers f (stepped modules c f s)) y rest ∙ get_or-set_other f.numbers s.target y (fed modules c f s.feed) 0 (λ e. none 0 s refl (sym e)))
      (λ e. cone_leaves steps f y rest)
