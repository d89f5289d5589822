-- The plan of a pipelined loop of the code, and that it keeps the loop.
use Rattle.std.specs.Prelude.{◌≡◌, ℕ, ◌+◌, List, length, slice_index}
use Rattle.block_ir.specs.declared.block.Block.{Block}
use Rattle.plan_blocks.specs.View.{planned_view}
use Rattle.op_graph.specs.Graph.{nodes_of}
use Rattle.planned_loop.specs.Loop.{Loop}
use Rattle.planned_loop.specs.Plan.{KeepsLoop}
use Rattle.planned_loop.specs.Table.{MeetsLoopTable, plan_by}
use Rattle.loop_pipeline.specs.declared.table.Carried.{Carried}
use Rattle.loop_pipeline.specs.Table.{MeetsLoop}
use Rattle.loop_pipeline.specs.declared.search.Pipelined.{Pipelined}
use Rattle.loop_pipeline.specs.declared.search.Pipelined.TheVariants.{Pipelined as IsScheduled, Unfit}
use Rattle.loop_pipeline.specs.Pipeline.{place_starts, AreLoopStarts, IsPipeline}
use Rattle.loop_plans.specs.Carried.{AreUses}
use Rattle.loop_plans.specs.Fits.{FitsPipeline}

-- a loop of the code as its plan sees it
abbrev pub loop_view : Block → ℕ → Loop
loop_view turn comparison = record { block = planned_view turn; comparison = comparison }

-- THE SCHEDULE of a loop: the least interval and starts by the table of its operations and of what they use of earlier iterations
abbrev pub IsScheduledLoop : Block → ℕ → ℕ → Pipelined → Type 0
IsScheduledLoop turn comparison least p =
    (carried : List Carried) × AreUses turn.operations turn.finals carried × IsPipeline (nodes_of turn.operations) comparison carried least p

-- the same interval and starts, or no interval in both
abbrev pub SameSchedule : Pipelined → Pipelined → Type 0
SameSchedule (IsScheduled i s d) (IsScheduled j t e) = (i ≡ j) × (s.items ≡ t.items) × (d ≡ e)
SameSchedule (IsScheduled i s d) (Unfit walk) = ⊥
SameSchedule (Unfit walk) (IsScheduled j t e) = ⊥
SameSchedule (Unfit walk) (Unfit way) = Unit {0}

-- ONE SCHEDULE: a loop has no two
abbrev pub SchedulesAgree : Type 0
SchedulesAgree =
    (turn : Block) (comparison least : ℕ) (p q : Pipelined) → IsScheduledLoop turn comparison least p → IsScheduledLoop turn comparison least q →
    SameSchedule p q

-- THE TABLE HOLDS: starts that meet the table of the loop's operations meet that of its view, where the iteration starts at 0
abbrev pub TablesAgree : Type 0
TablesAgree =
    (turn : Block) (comparison interval : ℕ) (carried : List Carried) (start : ℕ → ℕ) → FitsPipeline turn comparison →
    AreUses turn.operations turn.finals carried → MeetsLoop (nodes_of turn.operations) comparison carried interval start →
    start (length turn.operations + 1) ≡ 0 → MeetsLoopTable (loop_view turn comparison) interval (start (length turn.operations)) start

-- THE PLAN KEEPS THE LOOP: the least starts of a loop that fits, at an interval, give a plan by which the loop's iterations are kept apart and in
-- their order, with whatever registers
abbrev pub PlanKeepsLoop : Type 0
PlanKeepsLoop =
    (turn : Block) (comparison interval depth : ℕ) (carried : List Carried) (starts : List ℕ) (register : ℕ → ℕ → ℕ) (bit : ℕ → ℕ) →
    FitsPipeline turn comparison → AreUses turn.operations turn.finals carried →
    AreLoopStarts (nodes_of turn.operations) comparison carried interval (place_starts starts depth) →
    KeepsLoop (loop_view turn comparison) (plan_by (loop_view turn comparison) interval depth (slice_index (place_starts starts depth)) register bit)
