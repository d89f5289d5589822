-- Steps of the binding: the units of one kind, and of the kinds so far.
use Rattle.std.specs.Prelude.{◌≡◌, ◌≢◌, ℕ, ◌<◌, List, length, slice_index, true, false, if◌then◌else◌}
use Rattle.std.specs.List.{Contains}
use Rattle.interval_pack.specs.declared.interval.Interval.{Interval}
use Rattle.interval_pack.specs.LeftEdge.{IsBefore}
use Rattle.interval_pack.specs.Packing.{at, nowhere}
use Rattle.op_graph.specs.declared.node.Kind.{Kind}
use Rattle.op_graph.specs.declared.node.Node.{Node}
use Rattle.op_graph.specs.Graph.{kind_at, done, same_kind}
use Rattle.unit_binding.specs.declared.bind.UnitCount.{UnitCount}
use Rattle.unit_binding.specs.Units.{WorkTogether, IsPresent, IsGreatestUse, is_listed, AreOnce}

-- the states in which operation i works, if it is of the kind
abbrev pub work_of : List Node → List ℕ → Kind → ℕ → Interval
work_of nodes starts kind i = if same_kind kind (kind_at nodes i) then record { start = slice_index starts i; end = done nodes starts i } else nowhere

pub record AreWorks (nodes : List Node) (starts : List ℕ) (kind : Kind) (works : List Interval) : Type 0 where
  pub count : length works ≡ length nodes
  pub each : (i : ℕ) → i < length nodes → at works i ≡ work_of nodes starts kind i

-- those of the first k operations that are of the kind have these units
pub record IsTakenOver (nodes : List Node) (kind : Kind) (row : List ℕ) (k : ℕ) (old new : List ℕ) : Type 0 where
  pub count : length new ≡ length old
  pub taken : (i : ℕ) → i < k → slice_index new i ≡ (if same_kind kind (kind_at nodes i) then slice_index row i else slice_index old i)
  pub others : (i : ℕ) → (i < k → ⊥) → slice_index new i ≡ slice_index old i

-- the unit r is that of an earlier operation with which j is at work
abbrev pub IsTaken : List Node → List ℕ → List ℕ → ℕ → ℕ → Type 0
IsTaken nodes starts units j r = (i : ℕ) × (i < length nodes) × IsBefore (slice_index starts) i j × WorkTogether nodes starts i j × (slice_index units i ≡ r)

-- the operations of the kind have their units, and the others those that they present
pub record IsBoundKind (nodes : List Node) (starts : List ℕ) (kind : Kind) (old new : List ℕ) : Type 0 where
  pub count : length new ≡ length old
  pub others : (i : ℕ) → i < length nodes → same_kind kind (kind_at nodes i) ≡ false → slice_index new i ≡ slice_index old i
  pub apart : (i j : ℕ) → i < length nodes → j < length nodes → same_kind kind (kind_at nodes i) ≡ true → IsBefore (slice_index starts) i j → WorkTogether nodes starts i j →
      slice_index new i ≢ slice_index new j
  pub least : (j r : ℕ) → j < length nodes → same_kind kind (kind_at nodes j) ≡ true → r < slice_index new j → IsTaken nodes starts new j r

-- the kinds of the first k operations that share units are listed; the operations of listed kinds have their units, and the others unit 0
pub record AreBound (nodes : List Node) (starts : List ℕ) (k : ℕ) (units : List ℕ) (counts : List UnitCount) : Type 0 where
  pub count : length units ≡ length nodes
  pub zero_unit : (i : ℕ) → i < length nodes → is_listed counts (kind_at nodes i) ≡ false → slice_index units i ≡ 0
  pub apart : (i j : ℕ) → i < length nodes → j < length nodes → is_listed counts (kind_at nodes i) ≡ true → IsBefore (slice_index starts) i j → WorkTogether nodes starts i j →
      slice_index units i ≢ slice_index units j
  pub least : (j r : ℕ) → j < length nodes → is_listed counts (kind_at nodes j) ≡ true → r < slice_index units j → IsTaken nodes starts units j r
  pub listed : (i : ℕ) → i < k → same_kind (kind_at nodes i) (kind_at nodes i) ≡ true → is_listed counts (kind_at nodes i) ≡ true
  pub once : AreOnce counts
  pub present : (c : UnitCount) → Contains counts c → IsPresent nodes c.kind
  pub greatest : (c : UnitCount) → Contains counts c → IsGreatestUse nodes starts c.kind c.count
