-- Functional units (left edge: Hashimoto and Stevens 1971). By start and then by index, each operation has the least unit of its kind
-- that no operation at work in the same states has. Only products, quotients and remainders share units: every other operation is a kind
-- of its own.
use Rattle.std.specs.Prelude.{◌≡◌, ℕ, ◌<◌, ◌≤◌, List, length, slice_index, Bool, true, false, ◌&&◌, nat_lt, nat_le, count_by}
use Rattle.std.specs.List.{AllPairs, Contains, list_any, range_with_len}
use Rattle.interval_pack.specs.LeftEdge.{IsLeftEdge}
use Rattle.op_graph.specs.declared.node.Kind.{Kind}
use Rattle.op_graph.specs.declared.node.Node.{Node}
use Rattle.op_graph.specs.Graph.{kind_at, done, same_kind}
use Rattle.unit_binding.specs.declared.bind.UnitCount.{UnitCount}

-- a list of kinds has this one
abbrev pub is_listed : List UnitCount → Kind → Bool
is_listed counts kind = list_any (λ c. same_kind c.kind kind) counts

-- no kind is there twice
abbrev pub AreOnce : List UnitCount → Type 0
AreOnce counts = AllPairs (λ c d. same_kind c.kind d.kind ≡ false) counts

-- an operation of the block is of the kind
abbrev pub IsPresent : List Node → Kind → Type 0
IsPresent nodes kind = (i : ℕ) × (i < length nodes) × (same_kind kind (kind_at nodes i) ≡ true)

module _ (nodes : List Node) (starts : List ℕ) where
  -- operations of one kind that are at work in one state
  abbrev pub WorkTogether : ℕ → ℕ → Type 0
  WorkTogether i j = (same_kind (kind_at nodes i) (kind_at nodes j) ≡ true) × (slice_index starts i < done nodes starts j) × (slice_index starts j < done nodes starts i)

  -- operation i is of the kind and at work in state p
  abbrev pub works_at : Kind → ℕ → ℕ → Bool
  works_at kind p i = same_kind kind (kind_at nodes i) && (nat_le (slice_index starts i) p && nat_lt p (done nodes starts i))

  abbrev pub use_at : Kind → ℕ → ℕ
  use_at kind p = count_by (works_at kind p) (range_with_len 0 (length nodes))

  -- so many operations of the kind are at work in some state, and in none more
  abbrev pub IsGreatestUse : Kind → ℕ → Type 0
  IsGreatestUse kind count = ((p : ℕ) → use_at kind p ≤ count) × ((p : ℕ) × (use_at kind p ≡ count))

  -- THE BINDING of units
  pub record AreUnits (units : List ℕ) : Type 0 where
    pub count : length units ≡ length nodes
    pub bound : IsLeftEdge (length nodes) (slice_index starts) WorkTogether (slice_index units)

  -- for each kind that shares units, and has an operation, its greatest use; each such kind once, and no other
  pub record AreCounts (counts : List UnitCount) : Type 0 where
    pub listed : (i : ℕ) → i < length nodes → same_kind (kind_at nodes i) (kind_at nodes i) ≡ true → is_listed counts (kind_at nodes i) ≡ true
    pub once : AreOnce counts
    pub present : (c : UnitCount) → Contains counts c → IsPresent nodes c.kind
    pub greatest : (c : UnitCount) → Contains counts c → IsGreatestUse c.kind c.count

abbrev pub UnitsAgree : Type 0
UnitsAgree = (nodes : List Node) (starts units units' : List ℕ) → AreUnits nodes starts units → AreUnits nodes starts units' → units ≡ units'
