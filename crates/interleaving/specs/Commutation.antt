-- Commutation: runs of two threads that are apart may be merged in any way. (Lipton 1975, movers.)
use Rattle.std.specs.Prelude.{◌≡◌, ◌≢◌, ℕ, List, [], ◌∷◌, Bool, true, false, Some}
use Rattle.interleaving.specs.Memory.{Location, memory_after, AreApart}
use Rattle.interleaving.specs.Source.{Source, Move, accesses_of, end_of, RunsAlone}
use Rattle.interleaving.specs.Interleaving.{after_from, Reachable}

-- the merge says, step by step, whether the next step is from the first list
abbrev pub Merges : {A : Type 0} → List Bool → List A → List A → Type 0
Merges [] hs fs = (hs ≡ []) × (fs ≡ [])
Merges (true ∷ merge) [] fs = ⊥
Merges (true ∷ merge) (h ∷ hs) fs = Merges merge hs fs
Merges (false ∷ merge) hs [] = ⊥
Merges (false ∷ merge) hs (f ∷ fs) = Merges merge hs fs

-- the interleaving of a merge of steps of i and j
abbrev pub threads_of : ℕ → ℕ → List Bool → List ℕ
threads_of i j [] = []
threads_of i j (true ∷ merge) = i ∷ threads_of i j merge
threads_of i j (false ∷ merge) = j ∷ threads_of i j merge

module _ {Value Local State : Type 0} (P : Source Value Local State) where
  -- t is what both runs leave of s
  pub record BothRan (s : State) (i j : ℕ) (hs fs : List (Move Value Local)) (t : State) : Type 0 where
    pub first : P.local t i ≡ end_of (P.local s i) hs
    pub second : P.local t j ≡ end_of (P.local s j) fs
    pub others : (k : ℕ) → k ≢ i → k ≢ j → P.local t k ≡ P.local s k
    pub memory : (p : Location) → P.memory t p ≡ memory_after (accesses_of fs) (memory_after (accesses_of hs) (P.memory s)) p

  -- COMMUTATION: every merge of two runs that are apart leads somewhere, and all leave the same
  abbrev pub RunsCommute : Type 0
  RunsCommute =
      (merge : List Bool) (s : State) (i j : ℕ) (hs fs : List (Move Value Local)) → Reachable P s → i ≢ j → Merges merge hs fs →
      RunsAlone P (P.local s i) (P.memory s) hs → RunsAlone P (P.local s j) (P.memory s) fs → AreApart (accesses_of hs) (accesses_of fs) →
      (t : State) × (after_from P s (threads_of i j merge) ≡ Some t) × BothRan s i j hs fs t
