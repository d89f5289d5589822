-- What the slot of a thread holds in a moment of a pipelined loop.
use Rattle.std.specs.Prelude.{◌≡◌, ℕ, suc, ◌+◌, ◌-◌, ◌*◌, ◌<◌, ◌≤◌, nat_lt, true, ◌⊎◌, if◌then◌else◌}
use Rattle.interleaving.specs.Memory.{Location}
use Rattle.planned_block.specs.Block.{operation_at, size}
use Rattle.planned_block.specs.Plan.{target_of, OfArray}
use Rattle.planned_block.specs.Slot.{Slot}
use Rattle.planned_loop.specs.Loop.{Loop, Iterations, runs}
use Rattle.planned_loop.specs.Plan.{LoopPlan}
use Rattle.planned_loop.specs.Move.{flag, smaller, prologue, late}

module _ (l : Loop) (p : LoopPlan) (it : Iterations) where
  -- in round r so many iterations have left what they give in the variables
  abbrev pub over_in : ℕ → ℕ
  over_in r = suc r - p.stages

  -- operation k of iteration n is done at all: it belongs to the condition, and the comparisons before it held, or its own one held too
  abbrev pub IsDone : ℕ → ℕ → Type 0
  IsDone n k = (runs l it n ≡ true) × (l.comparison < k → runs l it (suc n) ≡ true)

  -- the last state of operation k of iteration n lies before this phase of this round
  abbrev pub IsPast : ℕ → ℕ → ℕ → ℕ → Type 0
  IsPast r ph n k = (n + p.stage k < r) ⊎ ((n + p.stage k ≡ r) × (p.phase k < ph))

  -- operation k writes this object
  abbrev pub WritesTo : ℕ → ℕ → Type 0
  WritesTo x k = target_of (operation_at l.block k).kind ≡ OfArray x true

  -- of the writes to an object those that are past are the ones before operation j of iteration n
  pub record IsCut (r ph x n j : ℕ) : Type 0 where
    pub below : j ≤ size l.block
    pub before : (m k : ℕ) → m < n → k < size l.block → WritesTo x k → IsPast r ph m k
    pub within : (k : ℕ) → k < j → WritesTo x k → IsPast r ph n k × (runs l it (suc n) ≡ true)
    pub rest : (k : ℕ) → j ≤ k → k < size l.block → WritesTo x k → runs l it (suc n) ≡ true → IsPast r ph n k → ⊥
    pub later : (m k : ℕ) → n < m → k < size l.block → WritesTo x k → runs l it (suc m) ≡ true → IsPast r ph m k → ⊥

  -- at the start of this phase of round r, counted from the first round of the loop
  pub record IsAt (r ph : ℕ) (q : Slot) : Type 0 where
    pub inside : ph < p.interval
    pub state : q.state ≡ smaller r (prologue p) * p.interval + ph
    -- what has left its value in the variables was an iteration
    pub running : runs l it (over_in r) ≡ true
    pub variables : (x : ℕ) → q.variables x ≡ it.variables (over_in r) x
    -- whether the iteration of this round, or the one before as long as it has not compared, runs
    pub first : (0 < r) ⊎ (p.phase l.comparison < ph) → q.registers (p.bit 0) ≡ flag (runs l it (if nat_lt (p.phase l.comparison) ph then suc r else r))
    pub bits : (s n : ℕ) → suc s < p.stages → n + suc s ≡ r → q.registers (p.bit (suc s)) ≡ flag (runs l it (suc n))
    -- register d of a value has that of the iteration which gave it d rounds before the last one
    pub chains : (i d n : ℕ) → i < size l.block → d + p.stage i < p.stages → n + (d + p.stage i + late l p i ph) ≡ r → IsDone n i →
        q.registers (p.register i d) ≡ it.value n i
    pub arrays : (x n j : ℕ) (e : Location) → IsCut r ph x n j → e.object ≡ x → runs l it n ≡ true → q.arrays e ≡ it.content n j e
