-- A step of the machine's thread from a state of its module, whatever reaches it.
use Rattle.std.specs.Prelude.{◌≡◌, ℕ, Bool, nat_eq, ℤ}
use Rattle.interleaving.specs.Memory.{Memory}
use Rattle.planned_block.specs.Slot.{Slot}
use Rattle.verilog_meaning.specs.Readings.{Reading}
use Rattle.leaf_machine.specs.Settled.{IsSlot}
use Rattle.leaf_machine.specs.Leaves.{FitsPorts, IsSlotBit, IsThreadLeaf, leaf_thread}
use Rattle.law_cycle.specs.Thread.{Thread, rest, cores, IsThread, Stands, IsNews}
use Rattle.law_cycle.specs.Moved.{Moved}
use Rattle.law_cycle.specs.Asks.{Asks}

module _ (t : Thread) where
  -- its module has the ports of a thread
  abbrev pub IsLeaf : ℕ → Type 0
  IsLeaf inputs = IsThreadLeaf t.body inputs t.leaf (cores t) t.parts t.told

  abbrev pub Fits : (ℕ → ℕ → ℕ) → Type 0
  Fits news = FitsPorts t.body t.leaf (cores t) t.parts t.told news

  pub record Step (s : Reading) (enabled : Bool) (granted : ℕ → Bool) (news : ℕ → ℕ → ℕ) (memory : Memory ℤ) (q : Slot) : Type 0 where
    pub next : Slot
    pub asks : Asks t enabled q (λ k j. (leaf_thread t.body t.leaf).asks enabled s k j)
    pub moved : Moved t enabled granted news memory q next
    pub fits : IsSlot t.body ((leaf_thread t.body t.leaf).advance enabled granted news s)
    pub stands : Stands t ((leaf_thread t.body t.leaf).advance enabled granted news s) next

-- THREAD STEPS: from a state that stands at a slot to one that stands at the next
abbrev pub ThreadSteps : Type 0
ThreadSteps =
    (t : Thread) (inputs : ℕ) (s : Reading) (enabled : Bool) (granted : ℕ → Bool) (news : ℕ → ℕ → ℕ) (memory : Memory ℤ) (q : Slot) → IsThread t → IsLeaf t inputs →
    IsSlot t.body s → Fits t news → IsNews t news q → Stands t s q → Step t s enabled granted news memory q

-- THREAD IS DONE: where it rests
abbrev pub ThreadIsDone : Type 0
ThreadIsDone =
    (t : Thread) (inputs : ℕ) (s : Reading) (news : ℕ → ℕ → ℕ) (q : Slot) → IsThread t → IsLeaf t inputs → IsSlotBit t.body inputs t.leaf (cores t) t.parts t.told t.leaf.done →
    IsSlot t.body s → Fits t news → Stands t s q → (leaf_thread t.body t.leaf).is_done s ≡ nat_eq q.stage (rest t)
