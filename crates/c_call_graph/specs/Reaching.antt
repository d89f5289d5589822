-- Which functions calls lead to.
use Rattle.std.specs.Prelude.{ℕ, ◌<◌, Bool, List, [], slice_get, unwrap_or, Contains}
use Rattle.std.specs.Bool.{Decides}
use Rattle.c_call_graph.specs.declared.table.Call.{Call}
use Rattle.c_call_graph.specs.Graphs.{callees, has}

-- calls lead from one of so many functions to another, or it is the same
pub data Leads (functions : ℕ) (calls : List Call) : ℕ → ℕ → Type 0 where
  Here : {f : ℕ} → Leads functions calls f f
  Further : {f g : ℕ} (way : Leads functions calls f g) (h : ℕ) (called : Contains (callees calls g) h) (inside : h < functions) → Leads functions calls f h

abbrev pub leads : List (List Bool) → ℕ → ℕ → Bool
leads rows from to = has (unwrap_or (slice_get rows from) []) to

-- for each two numbers whether they are functions, and calls lead from one to the other
abbrev pub IsReach : ℕ → List Call → List (List Bool) → Type 0
IsReach functions calls rows =
    (from to : ℕ) → Decides (leads rows from to) ((from < functions) × (to < functions) × Leads functions calls from to)
