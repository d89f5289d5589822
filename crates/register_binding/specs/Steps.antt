-- Steps of the binding.
use Rattle.std.specs.Prelude.{◌≡◌, ℕ, ◌<◌, List, length, slice_index, slice_index_or, Bool, if◌then◌else◌, nat_lt, max, Option, Some, None}
use Rattle.interval_pack.specs.declared.interval.Interval.{Interval}
use Rattle.interval_pack.specs.Packing.{at}
use Rattle.op_graph.specs.declared.node.Node.{Node}
use Rattle.op_graph.specs.Graph.{done}
use Rattle.register_binding.specs.Registers.{needed_to, life_end, is_operand}

pub record AreLives (nodes : List Node) (starts : List ℕ) (at_end : ℕ → Bool) (lives : List Interval) : Type 0 where
  pub count : length lives ≡ length nodes
  pub each : (i : ℕ) → i < length nodes → at lives i ≡ record { start = done nodes starts i; end = life_end nodes starts at_end i }

-- as far as the first k operations and the block's end use the values
pub record AreEnds (nodes : List Node) (starts : List ℕ) (at_end : ℕ → Bool) (k : ℕ) (ends : List ℕ) : Type 0 where
  pub count : length ends ≡ length nodes
  pub each : (i : ℕ) → i < length nodes → slice_index ends i ≡ needed_to nodes starts at_end i k

pub record IsUsedTo (operand : Option ℕ) (to : ℕ) (old new : List ℕ) : Type 0 where
  pub count : length new ≡ length old
  pub each : (i : ℕ) → i < length old → slice_index new i ≡ (if is_operand operand i then max to (slice_index old i) else slice_index old i)

pub record AreRows (lives : List Interval) (row : List ℕ) (rows : List (Option ℕ)) : Type 0 where
  pub count : length rows ≡ length lives
  pub each : (i : ℕ) → i < length lives → slice_index_or rows i None ≡ (if nat_lt (at lives i).start (at lives i).end then Some (slice_index row i) else None)
