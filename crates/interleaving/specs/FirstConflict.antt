-- First conflict: two threads that could each go on alone and then touch one place are already at, or on the way to, a race.
-- The theorem behind "data-race-free programs are sequentially consistent": Adve and Hill 1990.
use Rattle.std.specs.Prelude.{◌≡◌, ◌≢◌, ℕ, zero, suc, List, [], ◌++◌}
use Rattle.interleaving.specs.Memory.{Access, Conflict}
use Rattle.interleaving.specs.Source.{StepsTo, Source, IsNoAct, view_at, footprint}
use Rattle.interleaving.specs.Interleaving.{Reached, Reachable, Races}

module _ {Value Local State : Type 0} (P : Source Value Local State) where
  -- thread i can take n steps by itself from s, none of them an act, and these touch es in order
  abbrev pub TakesAlone : State → ℕ → ℕ → List (Access Value) → Type 0
  TakesAlone s i zero es = es ≡ []
  TakesAlone s i (suc n) es =
      (t : State) × (fs : List (Access Value)) × (P.step s i ≡ StepsTo t) × IsNoAct (view_at P s i) × (es ≡ footprint P s i ++ fs) × TakesAlone t i n fs

  -- a state is reachable in which i and j race
  pub record RaceReached (i j : ℕ) : Type 0 where
    pub route : List ℕ
    pub state : State
    pub reached : Reached P route state
    pub races : Races P state i j

  -- FIRST CONFLICT: from a reachable state let i take some steps by itself, and j others, none of them an act.
  -- If a step of i and one of j touch one place, at least one of them writing it, then a race of i and j is reachable
  abbrev pub FirstConflict : Type 0
  FirstConflict =
      (s : State) (i j n m : ℕ) (es fs : List (Access Value)) → Reachable P s → i ≢ j → TakesAlone s i n es → TakesAlone s j m fs → Conflict es fs → RaceReached i j
