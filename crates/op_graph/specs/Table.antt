-- The table of the constraints on the operations of a block (difference constraints: Cong and Zhang 2006). Places 0 to n - 1 are the
-- operations in order, place n is the block's end.
use Rattle.std.specs.Prelude.{◌≡◌, ℕ, ◌<◌, List, length, Bool, true, false, ◌||◌, pos}
use Rattle.std.specs.List.{Contains}
use Rattle.schedule_sdc.specs.declared.constraint.Constraint.{Constraint}
use Rattle.schedule_sdc.specs.Solution.{Meets, IsSolution}
use Rattle.op_graph.specs.declared.node.Kind.TheVariants.{Global, Array}
use Rattle.op_graph.specs.declared.node.Node.{Node}
use Rattle.op_graph.specs.Graph.{kind_at, Uses, is_simple, latency_at}

abbrev pub IsSimple : List Node → ℕ → Type 0
IsSimple nodes i = is_simple (kind_at nodes i) ≡ true

abbrev pub IsComplex : List Node → ℕ → Type 0
IsComplex nodes i = is_simple (kind_at nodes i) ≡ false

-- from one access of a global, which writes it or not, to a later one: a word read is kept until the next read, so it has to be taken before
abbrev pub gap_after : Bool → ℕ
gap_after true = 1
gap_after false = 2

-- the rows of the table
pub data Row (nodes : List Node) (c : Constraint) : Type 0 where
  -- operation i to the end: the latency of i
  Ends : c.from < length nodes → c.to ≡ length nodes → c.gap ≡ pos (latency_at nodes c.from) → Row nodes c
  -- j uses the value of i, both simple: 0
  Chained : c.to < length nodes → Uses nodes c.to c.from → IsSimple nodes c.from → IsSimple nodes c.to → c.gap ≡ pos 0 → Row nodes c
  -- k uses a value of j, j one of i, all three simple: from i to k 1
  ChainedTwice : (j : ℕ) → c.to < length nodes → Uses nodes c.to j → Uses nodes j c.from → IsSimple nodes c.from → IsSimple nodes j → IsSimple nodes c.to → c.gap ≡ pos 1 → Row nodes c
  -- j uses the value of i, i simple, j not: 1
  Kept : c.to < length nodes → Uses nodes c.to c.from → IsSimple nodes c.from → IsComplex nodes c.to → c.gap ≡ pos 1 → Row nodes c
  -- j uses the value of i, i not simple: the latency of i
  Awaited : c.to < length nodes → Uses nodes c.to c.from → IsComplex nodes c.from → c.gap ≡ pos (latency_at nodes c.from) → Row nodes c
  -- i before j, both accesses of one global: 2 where i is a read, else 1
  OneGlobal : (x : ℕ) (v w : Bool) → c.from < c.to → c.to < length nodes → kind_at nodes c.from ≡ Global x v → kind_at nodes c.to ≡ Global x w → c.gap ≡ pos (gap_after v) → Row nodes c
  -- i before j, both accesses of one local array, one of them a write: 1
  OneArray : (x : ℕ) (v w : Bool) → c.from < c.to → c.to < length nodes → kind_at nodes c.from ≡ Array x v → kind_at nodes c.to ≡ Array x w → (v || w) ≡ true → c.gap ≡ pos 1 → Row nodes c

-- the list has the rows of the table, and nothing else
abbrev pub IsTable : List Node → List Constraint → Type 0
IsTable nodes list = ((c : Constraint) → Contains list c → Row nodes c) × ((c : Constraint) → Row nodes c → Contains list c)

-- starts of a block's operations and of its end that meet every row of the table
abbrev pub MeetsTable : List Node → (ℕ → ℕ) → Type 0
MeetsTable nodes start = (c : Constraint) → Row nodes c → Meets start c

-- the list has rows of the table alone
abbrev pub AreRows : List Node → List Constraint → Type 0
AreRows nodes list = (c : Constraint) → Contains list c → Row nodes c

-- the list has the same solutions as the table
abbrev pub HasItsSolutions : List Node → List Constraint → Type 0
HasItsSolutions nodes list = (start : ℕ → ℕ) → (IsSolution list start → MeetsTable nodes start) × (MeetsTable nodes start → IsSolution list start)
