-- The rows of the table one after another; of the accesses of an array those alone that link it with its first and its last write.
use Rattle.std.specs.Prelude.{ℕ, ◌+◌, ◌*◌, List, [], ◌∷◌, ◌++◌, length, ℤ, pos, ◌-ℤ◌, nat_lt, Option, Some, None, if◌then◌else◌}
use Rattle.schedule_sdc.specs.declared.constraint.Constraint.{Constraint}
use Rattle.op_graph.specs.declared.node.Kind.{Kind}
use Rattle.op_graph.specs.declared.node.Kind.TheVariants.{Array}
use Rattle.op_graph.specs.declared.node.Node.{Node}
use Rattle.op_graph.specs.Graph.{kind_at, latency_at}
use Rattle.op_graph.specs.Listed.{rows_below}
use Rattle.op_graph.specs.Reduced.{write_at, first_from, last_below}
use Rattle.loop_pipeline.specs.declared.table.Carried.{Carried}

abbrev pub link : ℕ → ℕ → ℤ → Constraint
link from to gap = record { from = from; to = to; gap = gap }

-- the iteration's start to operation k
abbrev pub begin_row : ℕ → ℕ → List Constraint
begin_row n k = link (n + 1) k (pos 0) ∷ []

abbrev pub begin_rows : ℕ → ℕ → List Constraint
begin_rows n k = rows_below (begin_row n) k

abbrev pub tested_row : ℕ → ℕ → List Constraint
tested_row comparison k = if nat_lt comparison k then link comparison k (pos 1) ∷ [] else []

abbrev pub tested_rows : ℕ → ℕ → List Constraint
tested_rows comparison k = rows_below (tested_row comparison) k

abbrev pub rows_of : List Node → ℕ → Carried → List Constraint
rows_of nodes interval k = link k.from k.to (pos (latency_at nodes k.from) -ℤ pos (k.turns * interval)) ∷ []

abbrev pub carried_rows : List Node → ℕ → List Carried → List Constraint
carried_rows nodes interval [] = []
carried_rows nodes interval (k ∷ ks) = rows_of nodes interval k ++ carried_rows nodes interval ks

-- operation j, an access of an array, to the array's first write
abbrev pub to_first : ℤ → ℕ → Option ℕ → List Constraint
to_first gap j None = []
to_first gap j (Some write) = link j write gap ∷ []

-- the array's last write to operation j
abbrev pub from_last : ℤ → ℕ → Option ℕ → List Constraint
from_last gap j None = []
from_last gap j (Some write) = link write j gap ∷ []

abbrev pub shared_at : List Node → ℤ → ℕ → Kind → List Constraint
shared_at nodes gap j (Array x w) =
    to_first gap j (first_from (write_at nodes x) 0 (length nodes)) ++ from_last gap j (last_below (write_at nodes x) (length nodes))
shared_at nodes gap j k = []

abbrev pub shared_row : List Node → ℤ → ℕ → List Constraint
shared_row nodes gap j = shared_at nodes gap j (kind_at nodes j)

abbrev pub shared_rows : List Node → ℤ → ℕ → List Constraint
shared_rows nodes gap k = rows_below (shared_row nodes gap) k
