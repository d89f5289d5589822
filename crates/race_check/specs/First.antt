-- The first race in a state.
use Rattle.std.specs.Prelude.{◌≡◌, ◌≤◌, ◌<◌, ℕ, true, List, [], Option, Some, None, slice_index_or}
use Rattle.c_program.specs.Tree.{Program}
use Rattle.thread_semantics.specs.Memory.{Location}
use Rattle.thread_semantics.specs.State.{State}
use Rattle.thread_semantics.specs.Races.{Touch, Races, footprint}
use Rattle.race_check.specs.declared.access.Access.{Access}
use Rattle.race_check.specs.declared.race.Race.{Race}
use Rattle.race_check.specs.Access.{touches_of, location_of}
use Rattle.race_check.specs.Conflict.{Conflict, precedes}

-- these two threads race at the place; no thread below the first one races, none below the second one races with it, and
-- at no place before this one do they
pub record IsFirst (P : Program) (s : State) (i j : ℕ) (place : Location) : Type 0 where
  pub races : Races P s i j place
  pub least_first : (k l : ℕ) (q : Location) → Races P s k l q → i ≤ k
  pub least_second : (l : ℕ) (q : Location) → Races P s i l q → j ≤ l
  pub least_place : (q : Location) → Races P s i j q → precedes place q ≡ true

-- the first race in a state, or there is none
abbrev pub IsFirstRace : Program → State → Option Race → Type 0
IsFirstRace P s None = (i j : ℕ) (place : Location) → Races P s i j place → ⊥
IsFirstRace P s (Some race) = IsFirst P s race.first race.second (location_of race.location)

-- The same over a footprint for each thread number.

-- the touches at an index, none where nothing stands there
abbrev pub row : List (List Access) → ℕ → List Touch
row rows i = touches_of (slice_index_or rows i [])

abbrev pub AreFootprints : Program → State → (ℕ → List Touch) → Type 0
AreFootprints P s touched = (i : ℕ) → touched i ≡ footprint P s i

-- no thread from i + 1 to below j conflicts with thread i
abbrev pub NoneWith : (ℕ → List Touch) → ℕ → ℕ → Type 0
NoneWith touched i j = (l : ℕ) (q : Location) → i < l → l < j → Conflict (touched i) (touched l) q → ⊥

-- no thread below i conflicts with one behind it
abbrev pub NoneBelow : (ℕ → List Touch) → ℕ → Type 0
NoneBelow touched i = (k l : ℕ) (q : Location) → k < i → k < l → Conflict (touched k) (touched l) q → ⊥

-- thread i and the first one behind it with which it conflicts, at the least place
pub record IsFirstWith (touched : ℕ → List Touch) (i : ℕ) (race : Race) : Type 0 where
  pub first : race.first ≡ i
  pub behind : i < race.second
  pub conflict : Conflict (touched i) (touched race.second) (location_of race.location)
  pub none_before : NoneWith touched i race.second
  pub least :
      (q : Location) → Conflict (touched i) (touched race.second) q → precedes (location_of race.location) q ≡ true

abbrev pub FirstWith : (ℕ → List Touch) → ℕ → Option Race → Type 0
FirstWith touched i None = (l : ℕ) (q : Location) → i < l → Conflict (touched i) (touched l) q → ⊥
FirstWith touched i (Some race) = IsFirstWith touched i race

abbrev pub FirstOf : (ℕ → List Touch) → Option Race → Type 0
FirstOf touched None = (k l : ℕ) (q : Location) → k < l → Conflict (touched k) (touched l) q → ⊥
FirstOf touched (Some race) = NoneBelow touched race.first × IsFirstWith touched race.first race
