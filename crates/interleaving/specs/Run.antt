-- Whole runs of a machine under any choices, and the one interleaving that all moments of a run follow.
use Rattle.std.specs.Prelude.{◌≡◌, ℕ, suc, ◌+◌, ◌≤◌, List, [], ◌∷◌, ◌++◌, length, take, Bool, Some, slice_get, if◌then◌else◌}

module _ {Machine Choice : Type 0} (cycle : Machine → Choice → Machine) where
  -- the machine after these choices, a cycle for each
  abbrev pub machine_after : Machine → List Choice → Machine
  machine_after h [] = h
  machine_after h (c ∷ C) = machine_after (cycle h c) C

  -- how many of these choices count
  abbrev pub counted_choices : (Machine → Choice → Bool) → Machine → List Choice → ℕ
  counted_choices counts h [] = 0
  counted_choices counts h (c ∷ C) = (if counts h c then 1 else 0) + counted_choices counts (cycle h c) C

module _ {Machine Choice : Type 0} (cycle : Machine → Choice → Machine) (counts : Machine → Choice → Bool) (still : Machine → Choice → Type 0) (R : List ℕ → Machine → ℕ → Type 0) where
  -- there is one list of thread numbers of which each moment of the run has a beginning that R relates to it and to the cycles that have counted;
  -- from moment to moment the beginnings only grow, and not where the choice leaves all still
  pub record FollowsOne (h : Machine) (C : List Choice) : Type 0 where
    pub interleaving : List ℕ
    pub taken : ℕ → ℕ
    pub rises : (n : ℕ) → taken n ≤ taken (suc n)
    pub rests : (n : ℕ) (c : Choice) → slice_get C n ≡ Some c → still (machine_after cycle h (take n C)) c → taken (suc n) ≡ taken n
    pub each : (n : ℕ) → n ≤ length C → R (take (taken n) interleaving) (machine_after cycle h (take n C)) (counted_choices cycle counts h (take n C))

  -- each cycle keeps R and appends some steps to the interleaving, none where it leaves all still
  abbrev pub EachCycleKeeps : Type 0
  EachCycleKeeps =
      (L : List ℕ) (h : Machine) (m : ℕ) (c : Choice) → R L h m →
      (added : List ℕ) × R (L ++ added) (cycle h c) (m + (if counts h c then 1 else 0)) × (still h c → added ≡ [])

  -- ONE INTERLEAVING: what each cycle keeps so, every run follows, whatever the choices
  abbrev pub RunsFollowOne : Type 0
  RunsFollowOne = EachCycleKeeps → (h : Machine) → R [] h 0 → (C : List Choice) → FollowsOne h C
