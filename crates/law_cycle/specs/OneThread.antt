-- What is proved of one thread in one cycle.
use Rattle.std.specs.Prelude.{◌≡◌, ◌≢◌, ℕ, Bool, not, ◌⊎◌, ℤ, Some}
use Rattle.interleaving.specs.Memory.{Memory}
use Rattle.planned_block.specs.Slot.{Slot}
use Rattle.verilog_meaning.specs.Readings.{Reading, initial_reading}
use Rattle.leaf_machine.specs.Leaves.{leaf_thread}
use Rattle.thread_promise.specs.Moves.{first_slot}
use Rattle.law_cycle.specs.Thread.{Thread, rest, Through, IsThread, Stands, IsNews}
use Rattle.law_cycle.specs.Moved.{Moved}
use Rattle.law_cycle.specs.Asks.{Asks}

-- THREAD STARTS
abbrev pub ThreadStarts : Type 0
ThreadStarts = (t : Thread) → IsThread t → Stands t (initial_reading (Some t.body)) (first_slot t.main t.routine (rest t))

-- the move of a thread: the slot that follows, where its next reading stands
pub record Move (t : Thread) (s : Reading) (enabled : Bool) (granted : ℕ → Bool) (news : ℕ → ℕ → ℕ) (memory : Memory ℤ) (q : Slot) : Type 0 where
  pub next : Slot
  pub moved : Moved t enabled granted news memory q next
  pub stands : Stands t ((leaf_thread t.body t.leaf).advance enabled granted news s) next

-- THREAD MOVES: whatever it hears
abbrev pub ThreadMoves : Type 0
ThreadMoves =
    (t : Thread) (s r : Reading) (enabled : Bool) (granted : ℕ → Bool) (news : ℕ → ℕ → ℕ) (memory : Memory ℤ) (q : Slot) → IsThread t →
    Through t s enabled granted news r → IsNews t news q → Stands t s q → Move t s enabled granted news memory q

-- BEATS: the beat turns exactly where the slot moves
abbrev pub Beats : Type 0
Beats =
    (t : Thread) (enabled : Bool) (granted : ℕ → Bool) (news : ℕ → ℕ → ℕ) (memory : Memory ℤ) (q r : Slot) → Moved t enabled granted news memory q r →
    ((r.beat ≡ not q.beat) × (r ≢ q)) ⊎ (r ≡ q)

-- THREAD ASKS: the bank of each access that is still to be granted, the core of its act, and nobody else
abbrev pub ThreadAsks : Type 0
ThreadAsks =
    (t : Thread) (s r : Reading) (enabled : Bool) (granted : ℕ → Bool) (news : ℕ → ℕ → ℕ) (q : Slot) → IsThread t → Through t s enabled granted news r → Stands t s q →
    Asks t enabled q (λ k j. (leaf_thread t.body t.leaf).asks enabled s k j)
