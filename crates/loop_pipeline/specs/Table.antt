-- The table of the constraints of a pipelined loop (modulo schedules as difference constraints: Cong and Zhang 2006). Places 0 to n - 1 are
-- the operations of condition, body and step in order, place n is the iteration's end, place n + 1 its start. An iteration begins so many
-- states, the interval, after the one before.
use Rattle.std.specs.Prelude.{◌≡◌, ℕ, ◌+◌, ◌*◌, ◌^◌, ◌<◌, ◌≤◌, List, length, Bool, true, ◌||◌, pos, ◌-ℤ◌}
use Rattle.std.specs.List.{Contains}
use Rattle.schedule_sdc.specs.declared.constraint.Constraint.{Constraint}
use Rattle.schedule_sdc.specs.Solution.{Meets, IsSolution}
use Rattle.op_graph.specs.declared.node.Kind.TheVariants.{Array}
use Rattle.op_graph.specs.declared.node.Node.{Node}
use Rattle.op_graph.specs.Graph.{kind_at, latency_at}
use Rattle.op_graph.specs.Table.{Row}
use Rattle.loop_pipeline.specs.declared.table.Carried.{Carried}

-- uses of what came some iterations before, by operations of the loop
pub record IsCarried (n : ℕ) (k : Carried) : Type 0 where
  pub from : k.from < n
  pub to : k.to < n
  pub turns : (1 ≤ k.turns) × (k.turns < 2 ^ 32)

pub record AreCarried (n : ℕ) (carried : List Carried) : Type 0 where
  pub each : (k : Carried) → Contains carried k → IsCarried n k
  -- an operation has two operands at most
  pub few : length carried ≤ 2 * n

module _ (nodes : List Node) (comparison : ℕ) (carried : List Carried) (interval : ℕ) where
  -- the rows of the table
  pub data LoopRow (c : Constraint) : Type 0 where
    -- those of a block, within an iteration
    Within : Row nodes c → LoopRow c
    -- the iteration's start to an operation: 0
    Begins : c.from ≡ length nodes + 1 → c.to < length nodes → c.gap ≡ pos 0 → LoopRow c
    -- the comparison to an operation that isn't the condition's: 1
    Tested : c.from ≡ comparison → comparison < c.to → c.to < length nodes → c.gap ≡ pos 1 → LoopRow c
    -- the comparison to the iteration's start: 1 less the interval, so that the next one starts when it has held
    Follows : c.from ≡ comparison → c.to ≡ length nodes + 1 → c.gap ≡ pos 1 -ℤ pos interval → LoopRow c
    -- i to j, which uses so many iterations later what i gave a variable: the latency of i, less so many intervals
    Carries : (k : Carried) → Contains carried k → c.from ≡ k.from → c.to ≡ k.to → c.gap ≡ pos (latency_at nodes k.from) -ℤ pos (k.turns * interval) → LoopRow c
    -- accesses of one local array, one of them a write, in either order: 1 less the interval
    Shares : (x : ℕ) (v w : Bool) → c.from < length nodes → c.to < length nodes → kind_at nodes c.from ≡ Array x v → kind_at nodes c.to ≡ Array x w →
        (v || w) ≡ true →
        c.gap ≡ pos 1 -ℤ pos interval → LoopRow c

  -- starts that meet every row of the table
  abbrev pub MeetsLoop : (ℕ → ℕ) → Type 0
  MeetsLoop start = (c : Constraint) → LoopRow c → Meets start c

  -- the list has rows of the table alone
  abbrev pub AreLoopRows : List Constraint → Type 0
  AreLoopRows list = (c : Constraint) → Contains list c → LoopRow c

  -- the list has the same solutions as the table
  abbrev pub HasItsSolutions : List Constraint → Type 0
  HasItsSolutions list = (start : ℕ → ℕ) → (IsSolution list start → MeetsLoop start) × (MeetsLoop start → IsSolution list start)
