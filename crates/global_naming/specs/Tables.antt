-- What the program that counts has in its tables.
use Rattle.std.specs.Prelude.{◌≡◌, ◌<◌, ℕ, zero, suc, Bool, true, false, if◌then◌else◌, List, [], ◌∷◌, ◌++◌, fold, length, map, replicate, Option, Some, None, slice_get, slice_set, sum_by}
use Rattle.std.specs.List.{flat_map}
use Rattle.c_program.specs.declared.tree.ThreadObject.{ThreadObject}
use Rattle.c_program.specs.Tree.{Function, Program}
use Rattle.c_program.specs.Calls.{calls_of}
use Rattle.c_program.specs.Counting.{capped}
use Rattle.c_call_graph.specs.declared.table.Call.{Call}
use Rattle.c_call_graph.specs.Graphs.{has}
use Rattle.c_call_graph.specs.Reaching.{leads}
use Rattle.global_naming.specs.declared.naming.Runner.{Runner}
use Rattle.global_naming.specs.Naming.{statement_globals}

abbrev pub call_from : ℕ → ℕ → Call
call_from caller callee = record { caller = caller; callee = callee }

-- the calls of functions, of which the first has this number
abbrev pub calls_after : ℕ → List Function → List Call
calls_after number [] = []
calls_after number (function ∷ rest) = map (call_from number) (calls_of function.body) ++ calls_after (suc number) rest

abbrev pub calls_from : List Function → List Call
calls_from functions = calls_after 0 functions

-- with a mark on each of these
abbrev pub with_names : List ℕ → List Bool → List Bool
with_names names marks = fold (λ found global. slice_set found global true) marks names

abbrev pub globals_at : Option Function → List ℕ
globals_at None = []
globals_at (Some function) = statement_globals function.body

-- with a mark on each global that one of the first functions names, of those that run where the function f does
abbrev pub named_to : Program → List (List Bool) → ℕ → ℕ → List Bool
named_to P rows f zero = replicate (length P.globals) false
named_to P rows f (suc k) =
    if leads rows f k then with_names (globals_at (slice_get P.functions k)) (named_to P rows f k) else named_to P rows f k

pub record Running : Type 0 where
  pub threads : ℕ
  pub named : List Bool

abbrev pub runner_of : Runner → Running
runner_of r = record { threads = r.threads; named = r.named.items }

abbrev pub share : ℕ → Running → ℕ
share global r = if has r.named global then r.threads else 0

abbrev pub running : Program → List (List Bool) → ℕ → ℕ → Running
running P rows threads f = record { threads = threads; named = named_to P rows f (length P.functions) }

abbrev pub first_runner : Program → List (List Bool) → Running
first_runner P rows = running P rows 1 P.main

abbrev pub runners_by : Program → List (List Bool) → ℕ → Option ℕ → List Running
runners_by P rows threads None = []
runners_by P rows threads (Some f) = running P rows threads f ∷ []

abbrev pub object_runners : Program → List (List Bool) → ThreadObject → List Running
object_runners P rows object = runners_by P rows object.length object.routine

abbrev pub all_runners : Program → List (List Bool) → List Running
all_runners P rows = first_runner P rows ∷ flat_map (object_runners P rows) P.threads

abbrev pub sum_of : List Running → ℕ → ℕ
sum_of runners x = capped (sum_by (share x) runners)

-- the counts of the first globals
pub record IsCounted (runners : List Running) (globals : ℕ) (counts : List ℕ) : Type 0 where
  pub count : length counts ≡ globals
  pub each : (x : ℕ) → x < globals → slice_get counts x ≡ Some (sum_of runners x)
