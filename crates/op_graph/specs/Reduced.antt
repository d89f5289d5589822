-- Fewer rows with the same solutions: of the accesses of one object only neighbours. Each access of a global follows the one before it;
-- each access of a local array follows the last write before it; and the first write after a read follows the read.
use Rattle.std.specs.Prelude.{◌≡◌, ℕ, suc, zero, ◌-◌, List, [], ◌∷◌, ◌++◌, length, Bool, true, false, Option, Some, None, nat_eq, if◌then◌else◌}
use Rattle.std.specs.Ordering.{nat_cmp}
use Rattle.std.specs.BTreeMap.{BTreeMap, get}
use Rattle.schedule_sdc.specs.declared.constraint.Constraint.{Constraint}
use Rattle.op_graph.specs.declared.node.Kind.{Kind}
use Rattle.op_graph.specs.declared.node.Kind.TheVariants.{Simple, Multiply, Divide, Global, Array}
use Rattle.op_graph.specs.declared.node.Node.{Node}
use Rattle.op_graph.specs.Graph.{kind_at}
use Rattle.op_graph.specs.Table.{gap_after}
use Rattle.op_graph.specs.Listed.{row, rows_below}

-- the last number below k that passes the test
abbrev pub last_below : (ℕ → Bool) → ℕ → Option ℕ
last_below test zero = None
last_below test (suc k) = if test k then Some k else last_below test k

-- the first of the m numbers from i on that passes the test
abbrev pub first_from : (ℕ → Bool) → ℕ → ℕ → Option ℕ
first_from test i zero = None
first_from test i (suc m) = if test i then Some i else first_from test (suc i) m

abbrev pub accesses_global : ℕ → Kind → Bool
accesses_global x Simple = false
accesses_global x (Multiply w) = false
accesses_global x (Divide w s) = false
accesses_global x (Global y w) = nat_eq y x
accesses_global x (Array y w) = false

abbrev pub writes_array : ℕ → Kind → Bool
writes_array x Simple = false
writes_array x (Multiply w) = false
writes_array x (Divide w s) = false
writes_array x (Global y w) = false
writes_array x (Array y true) = nat_eq y x
writes_array x (Array y false) = false

abbrev pub writes : Kind → Bool
writes Simple = false
writes (Multiply w) = false
writes (Divide w s) = false
writes (Global y w) = w
writes (Array y w) = w

-- whether operation k accesses the global, or writes the array
abbrev pub global_at : List Node → ℕ → ℕ → Bool
global_at nodes x k = accesses_global x (kind_at nodes k)

abbrev pub write_at : List Node → ℕ → ℕ → Bool
write_at nodes x k = writes_array x (kind_at nodes k)

-- operation j, an access of a global, after the one before it
abbrev pub after_access : List Node → ℕ → Option ℕ → List Constraint
after_access nodes j None = []
after_access nodes j (Some i) = row i j (gap_after (writes (kind_at nodes i))) ∷ []

abbrev pub global_rows : List Node → ℕ → Kind → List Constraint
global_rows nodes j (Global x w) = after_access nodes j (last_below (global_at nodes x) j)
global_rows nodes j k = []

abbrev pub all_globals : List Node → ℕ → List Constraint
all_globals nodes k = rows_below (λ j. global_rows nodes j (kind_at nodes j)) k

-- operation j, an access of a local array, after the last write before it
abbrev pub after_write : ℕ → Option ℕ → List Constraint
after_write j None = []
after_write j (Some i) = row i j 1 ∷ []

abbrev pub array_rows : List Node → ℕ → Kind → List Constraint
array_rows nodes j (Array x w) = after_write j (last_below (write_at nodes x) j)
array_rows nodes j k = []

abbrev pub all_arrays : List Node → ℕ → List Constraint
all_arrays nodes k = rows_below (λ j. array_rows nodes j (kind_at nodes j)) k

-- the first write after operation i, a read of a local array
abbrev pub before_write : ℕ → Option ℕ → List Constraint
before_write i None = []
before_write i (Some j) = row i j 1 ∷ []

-- with m operations behind it
abbrev pub read_rows : List Node → ℕ → ℕ → Kind → List Constraint
read_rows nodes i m (Array x false) = before_write i (first_from (write_at nodes x) (suc i) m)
read_rows nodes i m k = []

-- the operation with m operations behind it
abbrev pub rows_of_last : List Node → ℕ → List Constraint
rows_of_last nodes m = read_rows nodes (length nodes - suc m) m (kind_at nodes (length nodes - suc m))

-- of the last k operations, the last one first
abbrev pub all_reads : List Node → ℕ → List Constraint
all_reads nodes k = rows_below (rows_of_last nodes) k

-- the map has for each object the last access, or write, among the first k operations
abbrev pub AreLast : (ℕ → ℕ → Bool) → ℕ → BTreeMap ℕ ℕ → Type 0
AreLast test k map = (x : ℕ) → get nat_cmp map x ≡ last_below (test x) k

-- the map has for each array its first write among the m operations from i on
abbrev pub AreFirst : (ℕ → ℕ → Bool) → ℕ → ℕ → BTreeMap ℕ ℕ → Type 0
AreFirst test i m map = (x : ℕ) → get nat_cmp map x ≡ first_from (test x) i m
