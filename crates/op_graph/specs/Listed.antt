-- The rows of the table one after another.
use Rattle.std.specs.Prelude.{ℕ, suc, zero, List, [], ◌∷◌, ◌++◌, length, Option, Some, None, pos, nat_eq, ◌&&◌, ◌||◌, if◌then◌else◌}
use Rattle.schedule_sdc.specs.declared.constraint.Constraint.{Constraint}
use Rattle.op_graph.specs.declared.node.Kind.{Kind}
use Rattle.op_graph.specs.declared.node.Kind.TheVariants.{Global, Array}
use Rattle.op_graph.specs.declared.node.Node.{Node}
use Rattle.op_graph.specs.Graph.{node, kind_at, is_simple, latency_at}
use Rattle.op_graph.specs.Table.{gap_after}

abbrev pub row : ℕ → ℕ → ℕ → Constraint
row from to gap = record { from = from; to = to; gap = pos gap }

-- the rows of the first k places
abbrev pub rows_below : (ℕ → List Constraint) → ℕ → List Constraint
rows_below rows zero = []
rows_below rows (suc k) = rows_below rows k ++ rows k

-- from operation h, whose value an operand of operation j uses
abbrev pub far_rows : List Node → ℕ → Option ℕ → List Constraint
far_rows nodes j None = []
far_rows nodes j (Some h) = if is_simple (kind_at nodes h) then row h j 1 ∷ [] else []

-- operation j uses the value of operation i
abbrev pub use_rows : List Node → ℕ → ℕ → List Constraint
use_rows nodes j i =
    if is_simple (kind_at nodes i)
    then (if is_simple (kind_at nodes j)
    then (row i j 0 ∷ []) ++ far_rows nodes j (node nodes i).left ++ far_rows nodes j (node nodes i).right
    else row i j 1 ∷ [])
    else row i j (latency_at nodes i) ∷ []

abbrev pub operand_rows : List Node → ℕ → Option ℕ → List Constraint
operand_rows nodes j None = []
operand_rows nodes j (Some i) = use_rows nodes j i

abbrev pub rows_of_uses : List Node → ℕ → List Constraint
rows_of_uses nodes j = operand_rows nodes j (node nodes j).left ++ operand_rows nodes j (node nodes j).right

abbrev pub all_uses : List Node → ℕ → List Constraint
all_uses nodes k = rows_below (rows_of_uses nodes) k

-- the gap from an operation to a later one, where both access one object and their order matters
abbrev pub order_gap : Kind → Kind → Option ℕ
order_gap (Global x v) (Global y w) = if nat_eq x y then Some (gap_after v) else None
order_gap (Array x v) (Array y w) = if nat_eq x y && (v || w) then Some 1 else None
order_gap k l = None

abbrev pub gap_rows : ℕ → ℕ → Option ℕ → List Constraint
gap_rows i j None = []
gap_rows i j (Some gap) = row i j gap ∷ []

-- the accesses among the first k operations that operation j follows
abbrev pub order_rows : List Node → ℕ → ℕ → List Constraint
order_rows nodes j zero = []
order_rows nodes j (suc k) = order_rows nodes j k ++ gap_rows k j (order_gap (kind_at nodes k) (kind_at nodes j))

abbrev pub all_orders : List Node → ℕ → List Constraint
all_orders nodes k = rows_below (λ j. order_rows nodes j j) k

abbrev pub end_row : List Node → ℕ → List Constraint
end_row nodes i = row i (length nodes) (latency_at nodes i) ∷ []

abbrev pub end_rows : List Node → ℕ → List Constraint
end_rows nodes k = rows_below (end_row nodes) k
