-- The first race, thread by thread.
use Rattle.std.proofs.Common.{◌≡◌, ◌≢◌, ℕ, zero, suc, ◌+◌, ◌<◌, ◌≤◌, List, [], ◌∷◌, ◌++◌, map, length, refl, ap, sym, subst, ◌∙◌, arith, Option, Some, None, ◌⊎◌, inl, inr}
use Rattle.std.specs.Prelude.{slice_get, Contains}
use Rattle.c_program.specs.Tree.{Program}
use Rattle.thread_semantics.specs.Memory.{Location}
use Rattle.thread_semantics.specs.State.{State}
use Rattle.thread_semantics.specs.Step.{slot_step}
use Rattle.thread_semantics.specs.Races.{Touch, Races, footprint, if_taken, thread_touched}
use Rattle.c_state.specs.declared.state.Slot.{Slot as SlotCode}
use Rattle.c_state.specs.View.{slot_of}
use Rattle.race_check.specs.declared.access.Access.{Access}
use Rattle.race_check.specs.declared.race.Race.{Race}
use Rattle.race_check.specs.Access.{touches_of, location_of}
use Rattle.race_check.specs.Conflict.{Conflict}
use Rattle.race_check.specs.First.{IsFirstRace, row, AreFootprints, NoneWith, NoneBelow, IsFirstWith, FirstOf}
use Rattle.race_check.proofs.Least.{conflict_turned}

at_most_or : (i k : ℕ) → (i ≤ k) ⊎ (k < i)
at_most_or zero k = inl (omega arith)
at_most_or (suc i) zero = inr (omega arith)
at_most_or (suc i) (suc k) = elim (at_most_or i k) [ inl h ↦ inl (omega arith) | inr h ↦ inr (omega arith) ]

apart_cases : (i j : ℕ) → i ≢ j → (i < j) ⊎ (j < i)
apart_cases i j apart =
    elim (at_most_or i j) [
      | inl h ↦ elim (at_most_or j i) [ inl g ↦ let same : i ≡ j = omega arith in absurd (apart same) | inr g ↦ inl g ]
      | inr h ↦ inr h
    ]

-- Footprints one by one.
row_before : (rows : List (List Access)) (x : List Access) (i : ℕ) → i < length rows → row (rows ++ x ∷ []) i ≡ row rows i
row_before [] x i h = absurd (omega arith)
row_before (r ∷ rs) x zero h = refl
row_before (r ∷ rs) x (suc i) h = row_before rs x i (omega arith)

row_last : (rows : List (List Access)) (x : List Access) → row (rows ++ x ∷ []) (length rows) ≡ touches_of x
row_last [] x = refl
row_last (r ∷ rs) x = row_last rs x

row_beyond : (rows : List (List Access)) (i : ℕ) → length rows ≤ i → row rows i ≡ []
row_beyond [] i h = refl
row_beyond (r ∷ rs) zero h = absurd (omega arith)
row_beyond (r ∷ rs) (suc i) h = row_beyond rs i (omega arith)

slot_beyond : (slots : List SlotCode) (i : ℕ) → length slots ≤ i → slice_get (map slot_of slots) i ≡ None
slot_beyond [] i h = refl
slot_beyond (x ∷ xs) zero h = absurd (omega arith)
slot_beyond (x ∷ xs) (suc i) h = slot_beyond xs i (omega arith)

footprint_beyond : (P : Program) (s : State) (i : ℕ) → slice_get s.slots i ≡ None → footprint P s i ≡ []
footprint_beyond P s i e = ap (λ slot. if_taken (slot_step P s i slot) (thread_touched P s slot)) e

pub footprints_more : (P : Program) (s : State) (rows : List (List Access)) (x : List Access) (n : ℕ) → length rows ≡ n → touches_of x ≡ footprint P s n →
    ((i : ℕ) → i < n → row rows i ≡ footprint P s i) → (i : ℕ) → i < n + 1 → row (rows ++ x ∷ []) i ≡ footprint P s i
footprints_more P s rows x n long new before i h =
    elim (at_most_or n i) [
      | inl g ↦
          let same : length rows ≡ i = omega arith in
          let there : n ≡ i = omega arith in
          subst (λ k. row (rows ++ x ∷ []) k ≡ touches_of x) same (row_last rows x) ∙ new ∙ ap (footprint P s) there
      | inr g ↦ row_before rows x i (omega arith) ∙ before i g
    ]

pub footprints_all : (P : Program) (s : State) (slots : List SlotCode) (rows : List (List Access)) → s.slots ≡ map slot_of slots → length rows ≡ length slots →
    ((i : ℕ) → i < length slots → row rows i ≡ footprint P s i) → AreFootprints P s (row rows)
footprints_all P s slots rows are long before i =
    elim (at_most_or (length slots) i) [
      | inl g ↦
          row_beyond rows i (omega arith)
          ∙ sym (footprint_beyond P s i (ap (λ xs. slice_get xs i) are ∙ slot_beyond slots i g))
      | inr g ↦ before i g
    ]

-- Races are conflicts of footprints.
module _ (P : Program) (s : State) (touched : ℕ → List Touch) (are : AreFootprints P s touched) where
  as_conflict : (k l : ℕ) (q : Location) → Races P s k l q → Conflict (touched k) (touched l) q
  as_conflict k l q r = record {
    first = r.first;
    second = r.second;
    first_in = subst (λ ts. Contains ts r.first) (sym (are k)) r.first_in;
    second_in = subst (λ ts. Contains ts r.second) (sym (are l)) r.second_in;
    first_place = r.first_place;
    second_place = r.second_place;
    written = r.written;
  }

  as_race : (k l : ℕ) (q : Location) → k ≢ l → Conflict (touched k) (touched l) q → Races P s k l q
  as_race k l q apart c = record {
    apart = apart;
    first = c.first;
    second = c.second;
    first_in = subst (λ ts. Contains ts c.first) (are k) c.first_in;
    second_in = subst (λ ts. Contains ts c.second) (are l) c.second_in;
    first_place = c.first_place;
    second_place = c.second_place;
    written = c.written;
  }

  -- no thread below i races
  not_below : (i k l : ℕ) (q : Location) → NoneBelow touched i → k < i → Races P s k l q → ⊥
  not_below i k l q none h r =
      elim (apart_cases k l r.apart) [
        | inl g ↦ none k l q h g (as_conflict k l q r)
        | inr g ↦ none l k q (omega arith) g (conflict_turned (touched k) (touched l) q (as_conflict k l q r))
      ]

  -- none below j races with thread i
  not_before : (i j l : ℕ) (q : Location) → NoneBelow touched i → NoneWith touched i j → l < j → Races P s i l q → ⊥
  not_before i j l q below clear h r =
      elim (apart_cases i l r.apart) [
        | inl g ↦ clear l q g h (as_conflict i l q r)
        | inr g ↦ below l i q g g (conflict_turned (touched i) (touched l) q (as_conflict i l q r))
      ]

  pub first_race_is : (race : Option Race) → FirstOf touched race → IsFirstRace P s race
  first_race_is None none = λ i j q r.
      elim (apart_cases i j r.apart) [
        | inl g ↦ none i j q g (as_conflict i j q r)
        | inr g ↦ none j i q g (conflict_turned (touched i) (touched j) q (as_conflict i j q r))
      ]
  first_race_is (Some race) f =
      let behind : race.first < race.second = f.1.behind in
      record {
        races = as_race race.first race.second (location_of race.location) (λ e. absurd (omega (arith, e))) f.1.conflict;
        least_first = λ k l q r. elim (at_most_or race.first k) [ inl h ↦ h | inr h ↦ absurd (not_below race.first k l q f.0 h r) ];
        least_second = λ l q r.
            elim (at_most_or race.second l)
            [ inl h ↦ h | inr h ↦ absurd (not_before race.first race.second l q f.0 f.1.none_before h r) ];
        least_place = λ q r. f.1.least q (as_conflict race.first race.second q r);
      }

pub none_with_more : (touched : ℕ → List Touch) (i j : ℕ) → NoneWith touched i j → ((q : Location) → Conflict (touched i) (touched j) q → ⊥) → NoneWith touched i (j + 1)
none_with_more touched i j before here l q h g c =
    elim (at_most_or j l) [
      | inl k ↦
          let same : l ≡ j = omega arith in
          here q (subst (λ n. Conflict (touched i) (touched n) q) same c)
      | inr k ↦ before l q h k c
    ]

pub none_with_all : (rows : List (List Access)) (i n : ℕ) → length rows ≤ n → NoneWith (row rows) i n → (l : ℕ) (q : Location) → i < l → Conflict (row rows i) (row rows l) q → ⊥
none_with_all rows i n long before l q h c =
    elim (at_most_or n l) [
      | inl k ↦
          let inside = subst (λ ts. Contains ts c.second) (row_beyond rows l (omega arith)) c.second_in in
          let low = inside.1 in absurd (omega arith)
      | inr k ↦ before l q h k c
    ]

pub none_below_more : (touched : ℕ → List Touch) (i : ℕ) → NoneBelow touched i → ((l : ℕ) (q : Location) → i < l → Conflict (touched i) (touched l) q → ⊥) →
    NoneBelow touched (i + 1)
none_below_more touched i before here k l q h g c =
    elim (at_most_or i k) [
      | inl m ↦
          let same : k ≡ i = omega arith in
          here l q (omega arith) (subst (λ n. Conflict (touched n) (touched l) q) same c)
      | inr m ↦ before k l q m g c
    ]

pub none_below_all : (rows : List (List Access)) (n : ℕ) → length rows ≤ n → NoneBelow (row rows) n → (k l : ℕ) (q : Location) → k < l → Conflict (row rows k) (row rows l) q → ⊥
none_below_all rows n long before k l q h c =
    elim (at_most_or n k) [
      | inl m ↦
          let inside = subst (λ ts. Contains ts c.first) (row_beyond rows k (omega arith)) c.first_in in
          let low = inside.1 in absurd (omega arith)
      | inr m ↦ before k l q m h c
    ]

pub first_found : (touched : ℕ → List Touch) (i : ℕ) (race : Race) → NoneBelow touched i → IsFirstWith touched i race → FirstOf touched (Some race)
first_found touched i race below f =
    subst (λ k. NoneBelow touched k × IsFirstWith touched k race) (sym f.first) (below, f)
