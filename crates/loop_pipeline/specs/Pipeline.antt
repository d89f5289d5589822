-- The least interval and the least starts of a pipelined loop.
use Rattle.std.specs.Prelude.{◌≡◌, ℕ, ◌+◌, ◌<◌, ◌≤◌, List, [], ◌∷◌, ◌++◌, length, slice_index}
use Rattle.schedule_sdc.specs.declared.constraint.Constraint.{Constraint}
use Rattle.schedule_sdc.specs.declared.constraint.Solved.{Solved}
use Rattle.schedule_sdc.specs.declared.constraint.Solved.TheVariants.{Starts, Cyclic}
use Rattle.schedule_sdc.specs.Solution.{IsPositiveCycle}
use Rattle.op_graph.specs.declared.node.Node.{Node}
use Rattle.op_graph.specs.Graph.{time_before}
use Rattle.loop_pipeline.specs.declared.table.Carried.{Carried}
use Rattle.loop_pipeline.specs.declared.search.Pipelined.{Pipelined}
use Rattle.loop_pipeline.specs.declared.search.Pipelined.TheVariants.{Pipelined as IsScheduled, Unfit}
use Rattle.loop_pipeline.specs.Table.{MeetsLoop, AreLoopRows}

-- of each place its start: of the operations, of the iteration's end, and of its start, which is 0
abbrev pub place_starts : List ℕ → ℕ → List ℕ
place_starts starts depth = starts ++ depth ∷ 0 ∷ []

module _ (nodes : List Node) (comparison : ℕ) (carried : List Carried) where
  -- starts of the places that meet the table at this interval; no solution is earlier anywhere
  pub record AreLoopStarts (interval : ℕ) (starts : List ℕ) : Type 0 where
    pub count : length starts ≡ length nodes + 2
    pub meets : MeetsLoop nodes comparison carried interval (slice_index starts)
    pub least : (t : ℕ → ℕ) → MeetsLoop nodes comparison carried interval t → (i : ℕ) → i < length nodes + 2 → slice_index starts i ≤ t i

  abbrev pub HasNoStarts : ℕ → Type 0
  HasNoStarts interval = (t : ℕ → ℕ) → MeetsLoop nodes comparison carried interval t → ⊥

  -- a closed walk by rows of the table whose gaps have a positive sum
  pub record IsLoopWalk (interval : ℕ) (walk : List ℕ) : Type 0 where
    pub rows : List Constraint
    pub are_rows : AreLoopRows nodes comparison carried interval rows
    pub walks : IsPositiveCycle rows walk

  abbrev pub IsSolvedLoop : ℕ → Solved → Type 0
  IsSolvedLoop interval (Starts starts) = AreLoopStarts interval starts.items
  IsSolvedLoop interval (Cyclic walk) = IsLoopWalk interval walk.items × HasNoStarts interval

  -- THE PIPELINE: the least interval from `least` to 64 that has a solution, and the least one there; or there is none, and the walk shows it for 64
  abbrev pub IsPipeline : ℕ → Pipelined → Type 0
  IsPipeline least (IsScheduled interval starts depth) =
      (least ≤ interval) × (interval ≤ 64) × AreLoopStarts interval (place_starts starts.items depth) × ((j : ℕ) → least ≤ j → j < interval → HasNoStarts j)
  IsPipeline least (Unfit walk) = ((j : ℕ) → least ≤ j → j ≤ 64 → HasNoStarts j) × IsLoopWalk 64 walk.items

-- no operation starts later than the sum of the latencies, and no iteration ends later
pub record AreSoon (nodes : List Node) (starts : List ℕ) (depth : ℕ) : Type 0 where
  pub each : (i : ℕ) → i < length nodes → slice_index starts i ≤ time_before nodes (length nodes)
  pub end : depth ≤ time_before nodes (length nodes)

abbrev pub IsSoon : List Node → Pipelined → Type 0
IsSoon nodes (IsScheduled interval starts depth) = AreSoon nodes starts.items depth
IsSoon nodes (Unfit walk) = Unit {0}

-- the answer has the interval, and the starts of the places but for the last one
abbrev pub IsSplit : ℕ → List ℕ → Pipelined → Type 0
IsSplit interval places (IsScheduled j starts depth) = (j ≡ interval) × (places ≡ starts.items ++ depth ∷ slice_index places (length starts.items + 1) ∷ [])
IsSplit interval places (Unfit walk) = ⊥
