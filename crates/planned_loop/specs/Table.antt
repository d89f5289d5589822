-- The table of the constraints of a pipelined loop as a condition on starts (modulo schedules as difference constraints: Cong and Zhang 2006),
-- and the plan that starts give.
use Rattle.std.specs.Prelude.{◌≡◌, ℕ, suc, ◌+◌, ◌-◌, ◌*◌, ◌/◌, ◌%◌, ◌<◌, ◌≤◌, Bool, true, false, ◌||◌}
use Rattle.planned_block.specs.Block.{Operand, Final, operation_at, size, UsesIn, Uses, IsAmong}
use Rattle.planned_block.specs.Plan.{further_states, is_simple, target_of, OfGlobal, OfArray}
use Rattle.planned_block.specs.Table.{latency}
use Rattle.planned_loop.specs.Loop.{Loop}
use Rattle.planned_loop.specs.Plan.{LoopPlan, IsOperand, Comes}

-- the block of a loop: operations and finals use earlier operations, the condition writes nothing, and no operation accesses a global
pub record IsLoop (l : Loop) : Type 0 where
  pub earlier : (j k : ℕ) → k < size l.block → Uses (operation_at l.block k) j → j < k
  pub final : (k : ℕ) (f : Final) → IsAmong l.block.finals f → UsesIn f.value k → k < size l.block
  pub compares : l.comparison < size l.block
  pub simple : is_simple (operation_at l.block l.comparison).kind ≡ true
  pub writes : (k x : ℕ) → k < size l.block → target_of (operation_at l.block k).kind ≡ OfArray x true → l.comparison < k
  pub local : (k x : ℕ) (w : Bool) → k < size l.block → target_of (operation_at l.block k).kind ≡ OfGlobal x w → ⊥

module _ (l : Loop) (interval depth : ℕ) (start : ℕ → ℕ) where
  -- the rows of the table, where an iteration starts at 0
  pub record MeetsLoopTable : Type 0 where
    pub ends : (k : ℕ) → k < size l.block → start k + latency (operation_at l.block k).kind ≤ depth
    -- within an iteration
    pub chained : (i j : ℕ) → j < size l.block → Uses (operation_at l.block j) i → is_simple (operation_at l.block i).kind ≡ true →
        is_simple (operation_at l.block j).kind ≡ true →
        start i ≤ start j
    pub kept : (i j : ℕ) → j < size l.block → Uses (operation_at l.block j) i → is_simple (operation_at l.block i).kind ≡ true →
        is_simple (operation_at l.block j).kind ≡ false →
        start i + 1 ≤ start j
    pub awaited : (i j : ℕ) → j < size l.block → Uses (operation_at l.block j) i → is_simple (operation_at l.block i).kind ≡ false →
        start i + latency (operation_at l.block i).kind ≤ start j
    pub one_array : (j k x : ℕ) (v w : Bool) → j < k → k < size l.block → target_of (operation_at l.block j).kind ≡ OfArray x v →
        target_of (operation_at l.block k).kind ≡ OfArray x w →
        (v || w) ≡ true → start j + 1 ≤ start k
    -- the comparison to what isn't the condition's, and to the next iteration's start
    pub tested : (k : ℕ) → l.comparison < k → k < size l.block → start l.comparison + 1 ≤ start k
    pub follows : start l.comparison + 1 ≤ interval
    -- k uses so many iterations later what i gave a variable
    pub carried : (k t i : ℕ) (a : Operand) → k < size l.block → IsOperand (operation_at l.block k) a → Comes l.block.finals (suc t) a i →
        start i + latency (operation_at l.block i).kind ≤ start k + suc t * interval
    -- accesses of one array, one of them a write, in either order
    pub shares : (j k x : ℕ) (v w : Bool) → j < size l.block → k < size l.block → target_of (operation_at l.block j).kind ≡ OfArray x v →
        target_of (operation_at l.block k).kind ≡ OfArray x w → (v || w) ≡ true → start j + 1 ≤ start k + interval

  abbrev pub last : ℕ → ℕ
  last k = start k + further_states (operation_at l.block k).kind

  -- the plan by these starts, with these registers
  abbrev pub plan_by : (ℕ → ℕ → ℕ) → (ℕ → ℕ) → LoopPlan
  plan_by register bit = record {
    interval = interval;
    stages = (depth + (interval - 1)) / interval;
    stage = λ k. last k / interval;
    phase = λ k. last k % interval;
    register = register;
    bit = bit;
  }
