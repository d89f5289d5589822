-- Progress by a count: the steps of the interleaving pay for the changes of the slots.
use Rattle.std.specs.Prelude.{◌≡◌, ℕ, zero, suc, ◌+◌, ◌*◌, ◌<◌, ◌≤◌, List, [], ◌++◌, length, ◌⊎◌, Bool, true}
use Rattle.interleaving.specs.Source.{Blocked, Source}
use Rattle.interleaving.specs.Hardware.{World, Hardware, Lag}
use Rattle.interleaving.specs.Cycle.{Chain}

-- what the slots of the first n threads have left, all together
abbrev pub total_left : {Value Slot Cores : Type 0} → ℕ → (Slot → ℕ) → World Value Slot Cores → ℕ
total_left zero left w = 0
total_left (suc n) left w = total_left n left w + left (w.slots n)

-- less is left with each change, and at most B more for each step
pub record IsTimed {Value Local State Slot Cores : Type 0} (H : Hardware Value Local State Slot Cores) (B : ℕ) (left : Slot → ℕ) : Type 0 where
  pub spends : (q r : Slot) (k : ℕ) → H.Spends q r k → left r < left q + B * k

-- no thread can take a step: the program is ended or deadlocked
abbrev pub IsStuck : {Value Local State : Type 0} → Source Value Local State → State → Type 0
IsStuck P s = (i : ℕ) → P.step s i ≡ Blocked

module _ {Value Local State Slot Cores : Type 0} (P : Source Value Local State) (H : Hardware Value Local State Slot Cores) where
  -- a cycle is a chain of moves: of none where no slot changes; and where one that counts moves nobody, the state is stuck
  pub record IsClocked {Machine Choice : Type 0} (T : ℕ) (look : Machine → World Value Slot Cores) (counts : Machine → Choice → Bool) (cycle : Machine → Choice → Machine) : Type 0 where
    pub chain : (L : List ℕ) (h : Machine) (c : Choice) → Lag P H L (look h) → (is : List ℕ) × Chain P H T is (look h) (look (cycle h c))
    pub still : (L : List ℕ) (h : Machine) (c : Choice) (l : Lag P H L (look h)) → ((i : ℕ) → (look (cycle h c)).slots i ≡ (look h).slots i) → (chain L h c l).0 ≡ []
    pub lively : (L : List ℕ) (h : Machine) (c : Choice) (l : Lag P H L (look h)) → counts h c ≡ true → (chain L h c l).0 ≡ [] → IsStuck P l.state

  -- a moment of a run: the hardware lags behind L, which has steps enough for the m cycles that have counted
  pub record Moment (T B : ℕ) (left : Slot → ℕ) (L : List ℕ) (w : World Value Slot Cores) (m : ℕ) : Type 0 where
    pub lag : Lag P H L w
    pub paid : IsStuck P lag.state ⊎ (m + total_left T left w ≤ B * (length L + T))

  -- PROGRESS BY A COUNT: along a chain the lag is kept, and each move is paid for: by what was left, or by a step, which is worth B moves
  abbrev pub PaysForMoves : ℕ → ℕ → (Slot → ℕ) → Type 0
  PaysForMoves T B left =
      (is L : List ℕ) (w v : World Value Slot Cores) → Lag P H L w → Chain P H T is w v →
      (added : List ℕ) × Lag P H (L ++ added) v × (length is + total_left T left v ≤ total_left T left w + B * length added)
