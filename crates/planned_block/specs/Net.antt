-- One cycle of a net of planned threads, as a chain of their moves by thread number.
use Rattle.std.specs.Prelude.{◌≡◌, ◌≢◌, ℕ, ◌<◌, ◌≤◌, ℤ, [], Bool, true, false, ◌&&◌, ◌||◌, ◌⊎◌, if◌then◌else◌}
use Rattle.interleaving.specs.Memory.{Location, memory_after, Touches}
use Rattle.interleaving.specs.Hardware.{World}
use Rattle.interleaving.specs.Cycle.{movers, Chain, TurnsInCycle, ActsInCycle}
use Rattle.planned_block.specs.Block.{size}
use Rattle.planned_block.specs.Slot.{Slot, bank_access_now}
use Rattle.planned_block.specs.Advance.{accesses_of_cycle, requests, answered, is_ready, is_answered, Advances}
use Rattle.planned_block.specs.Hardware.{block_of, plan_of, PlannedThreads, hardware_of}

-- what one cycle of the net was given: who is enabled; who moves outside blocks; which requests are granted, by thread and operation;
-- what the wires show; and to which thread each bank and each core is granted, with as many as there are threads, or more, for nobody
pub record Grants : Type 0 where
  pub enabled : ℕ → Bool
  pub outside : ℕ → Bool
  pub grant : ℕ → ℕ → Bool
  pub wire : ℕ → ℕ → ℤ
  pub bank_owner : ℕ → ℕ
  pub core_owner : ℕ → ℕ

module _ (M : PlannedThreads) (w v : World ℤ Slot (ℕ → M.Core)) (g : Grants) where
  abbrev pub place_owner : Location → ℕ
  place_owner l = g.bank_owner (M.bank l)

  -- thread n is in a block
  pub record RunsInCycle (n : ℕ) : Type 0 where
    -- enabled it advances by its grants, else it stays
    pub on : g.enabled n ≡ true → Advances M.bank (block_of M.code (w.slots n)) (plan_of M.code (w.slots n)) (w.slots n) w.memory (g.grant n) (g.wire n) (v.slots n)
    pub inside : g.enabled n ≡ true → (w.slots n).state < (plan_of M.code (w.slots n)).states
    pub off : g.enabled n ≡ false → v.slots n ≡ w.slots n
    pub within : (k : ℕ) → g.grant n k ≡ true → k < size (block_of M.code (w.slots n))
    -- a request is granted by the bank of its place
    pub owned : (k : ℕ) (l : Location) → g.enabled n ≡ true → answered (block_of M.code (w.slots n)) (plan_of M.code (w.slots n)) (w.slots n) (g.grant n) k ≡ true →
        Touches l (bank_access_now (block_of M.code (w.slots n)) (plan_of M.code (w.slots n)) (w.slots n) (g.wire n) k) → place_owner l ≡ n
    -- places of its banks have its accesses, its cores stay
    pub memory : (l : Location) → place_owner l ≡ n →
        v.memory l ≡ memory_after
        (if g.enabled n then accesses_of_cycle (block_of M.code (w.slots n)) (plan_of M.code (w.slots n)) (w.slots n) (g.grant n) (g.wire n) else []) w.memory l
    pub cores : (k : ℕ) → g.core_owner k ≡ n → v.cores k ≡ w.cores k

  pub record NetCycle (T : ℕ) : Type 0 where
    pub runs : (n : ℕ) → n < T → g.outside n ≡ false → RunsInCycle n
    -- who is in no block acts, or wakes
    pub acts : (n : ℕ) → n < T → g.outside n ≡ true →
        TurnsInCycle M.source (hardware_of M) w v place_owner g.core_owner n ⊎ ActsInCycle M.source (hardware_of M) w v place_owner g.core_owner n
    pub beyond : (n : ℕ) → T ≤ n → v.slots n ≡ w.slots n
    pub unowned : (l : Location) → T ≤ place_owner l → v.memory l ≡ w.memory l
    pub idle : (k : ℕ) → T ≤ g.core_owner k → v.cores k ≡ w.cores k

  -- who moves: the slot changes
  abbrev pub moves_in_block : ℕ → Bool
  moves_in_block n =
      g.enabled n && (is_ready (block_of M.code (w.slots n)) (plan_of M.code (w.slots n)) (w.slots n) (g.grant n)
      || is_answered (block_of M.code (w.slots n)) (plan_of M.code (w.slots n)) (w.slots n) (g.grant n))

  abbrev pub moves : ℕ → Bool
  moves n = g.outside n || moves_in_block n

  -- where a request waits, one is answered, of this thread or of another
  abbrev pub Serves : ℕ → Type 0
  Serves T =
      (n k : ℕ) → n < T → g.enabled n ≡ true → k < size (block_of M.code (w.slots n)) →
      requests (block_of M.code (w.slots n)) (plan_of M.code (w.slots n)) (w.slots n) k ≡ true →
      (i : ℕ) × (j : ℕ) × (i < T) × (g.enabled i ≡ true) × (j < size (block_of M.code (w.slots i)))
      × (answered (block_of M.code (w.slots i)) (plan_of M.code (w.slots i)) (w.slots i) (g.grant i) j ≡ true)

-- ORDER IN A CYCLE, for planned threads: the cycle is a chain of the moves of its threads
abbrev pub IsChain : PlannedThreads → Type 0
IsChain M =
    (w v : World ℤ Slot (ℕ → M.Core)) (g : Grants) (T : ℕ) → NetCycle M w v g T → Chain M.source (hardware_of M) T (movers (moves M w v g) T 0) w v

-- SOMEBODY MOVES: where the banks serve, an enabled thread that is in a block makes some thread move
abbrev pub SomebodyMoves : PlannedThreads → Type 0
SomebodyMoves M =
    (w v : World ℤ Slot (ℕ → M.Core)) (g : Grants) (T : ℕ) → Serves M w v g T → (n : ℕ) → n < T → g.enabled n ≡ true → (i : ℕ) × (i < T) × (moves M w v g i ≡ true)

-- EACH MOVE CHANGES A SLOT
abbrev pub MovesChange : PlannedThreads → Type 0
MovesChange M =
    (w v : World ℤ Slot (ℕ → M.Core)) (g : Grants) (n : ℕ) → RunsInCycle M w v g n → moves_in_block M w v g n ≡ true → v.slots n ≢ w.slots n
