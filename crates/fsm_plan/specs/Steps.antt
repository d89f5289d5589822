-- Steps of the plan of a block.
use Rattle.std.specs.Prelude.{ℕ, ◌*◌, ◌^◌, ◌<◌, ◌≤◌, List, length, slice_index, slice_index_or, Option, Some, None}
use Rattle.block_ir.specs.declared.block.Block.{Block}
use Rattle.op_graph.specs.declared.node.Node.{Node}
use Rattle.op_graph.specs.Graph.{nodes_of}
use Rattle.unit_binding.specs.Units.{AreUnits}
use Rattle.register_binding.specs.Used.{is_used_at_end}
use Rattle.register_binding.specs.Registers.{AreRegisters, RegistersBelow}
use Rattle.fsm_plan.specs.Planned.{IsGreatestLive}

-- no start is later than the sum of the greatest latencies
abbrev pub AreSoon : List Node → List ℕ → Type 0
AreSoon nodes starts = (i : ℕ) → i ≤ length nodes → slice_index starts i ≤ 8 * length nodes

-- the units and registers of the block at these starts, and the greatest number of values that live in one state
pub record AreBindings (b : Block) (starts units : List ℕ) (registers : List (Option ℕ)) (count : ℕ) : Type 0 where
  pub units_are : AreUnits (nodes_of b.operations) starts units
  pub registers_are : AreRegisters (nodes_of b.operations) starts (is_used_at_end b) registers
  pub greatest : IsGreatestLive b starts count
  pub below : RegistersBelow registers count

abbrev pub AreSmall : List ℕ → Type 0
AreSmall xs = (i : ℕ) → i < length xs → slice_index xs i < 2 ^ 32

abbrev pub IsSmallName : Option ℕ → Type 0
IsSmallName None = Unit {0}
IsSmallName (Some r) = r < 2 ^ 32

abbrev pub AreSmallNames : List (Option ℕ) → Type 0
AreSmallNames xs = (i : ℕ) → i < length xs → IsSmallName (slice_index_or xs i None)
