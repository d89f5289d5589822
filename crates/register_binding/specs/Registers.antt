-- Registers (left edge: Kurdahi and Parker 1987). A value of an operation with start s and latency l lives from state s + l to the last
-- state in which a user of it works, that state included; what is used at the block's end is used in its last state. By the state in which
-- it begins to live and then by operation, each value that lives has the least register that no value has which lives in one of its states.
use Rattle.std.specs.Prelude.{◌≡◌, ℕ, zero, suc, ◌<◌, ◌≤◌, List, length, slice_index, slice_index_or, Bool, false, ◌&&◌, ◌||◌, if◌then◌else◌, nat_eq}
use Rattle.std.specs.Prelude.{nat_lt, nat_le, max, Option, Some, None, count_by}
use Rattle.std.specs.List.{range_with_len}
use Rattle.interval_pack.specs.LeftEdge.{IsLeftEdge}
use Rattle.op_graph.specs.declared.node.Node.{Node}
use Rattle.op_graph.specs.Graph.{node, done}

abbrev pub is_operand : Option ℕ → ℕ → Bool
is_operand None i = false
is_operand (Some j) i = nat_eq i j

abbrev pub uses_value : Node → ℕ → Bool
uses_value o i = is_operand o.left i || is_operand o.right i

abbrev pub is_marked : List Bool → ℕ → Bool
is_marked marks i = slice_index_or marks i false

-- the starts are those of the operations and of the end; some values are used at the end
module _ (nodes : List Node) (starts : List ℕ) (at_end : ℕ → Bool) where
  -- the state after the last one in which one of the first k operations, or the block's end, uses the value of i
  abbrev pub needed_to : ℕ → ℕ → ℕ
  needed_to i zero = if at_end i then slice_index starts (length nodes) else 0
  needed_to i (suc k) = max (if uses_value (node nodes k) i then done nodes starts k else 0) (needed_to i k)

  abbrev pub life_end : ℕ → ℕ
  life_end i = needed_to i (length nodes)

  abbrev pub Lives : ℕ → Type 0
  Lives i = done nodes starts i < life_end i

  abbrev pub LiveTogether : ℕ → ℕ → Type 0
  LiveTogether i j = Lives i × Lives j × (done nodes starts i < life_end j) × (done nodes starts j < life_end i)

  -- how many values live in state p
  abbrev pub lives_at : ℕ → ℕ → Bool
  lives_at p i = nat_le (done nodes starts i) p && nat_lt p (life_end i)

  abbrev pub live_at : ℕ → ℕ
  live_at p = count_by (lives_at p) (range_with_len 0 (length nodes))

abbrev pub register_at : List (Option ℕ) → ℕ → Option ℕ
register_at registers i = slice_index_or registers i None

abbrev pub number : Option ℕ → ℕ
number None = 0
number (Some r) = r

-- THE BINDING of registers
pub record AreRegisters (nodes : List Node) (starts : List ℕ) (at_end : ℕ → Bool) (registers : List (Option ℕ)) : Type 0 where
  pub count : length registers ≡ length nodes
  pub kept : (i : ℕ) → i < length nodes → Lives nodes starts at_end i → (r : ℕ) × (register_at registers i ≡ Some r)
  pub unkept : (i : ℕ) → i < length nodes → (Lives nodes starts at_end i → ⊥) → register_at registers i ≡ None
  pub packed : IsLeftEdge (length nodes) (done nodes starts) (LiveTogether nodes starts at_end) (λ i. number (register_at registers i))

-- the registers are those below this number
abbrev pub RegistersBelow : List (Option ℕ) → ℕ → Type 0
RegistersBelow registers count = (i r : ℕ) → i < length registers → register_at registers i ≡ Some r → r < count

-- the greatest number of values that live in one state, and the first state in which so many do
pub record AreCrowded (nodes : List Node) (starts : List ℕ) (at_end : ℕ → Bool) (count crowded : ℕ) : Type 0 where
  pub most : (p : ℕ) → live_at nodes starts at_end p ≤ count
  pub crowd : live_at nodes starts at_end crowded ≡ count
  pub first : (p : ℕ) → p < crowded → live_at nodes starts at_end p < count

abbrev pub RegistersAgree : Type 0
RegistersAgree = (nodes : List Node) (starts : List ℕ) (at_end : ℕ → Bool) (r s : List (Option ℕ)) → AreRegisters nodes starts at_end r →
    AreRegisters nodes starts at_end s → r ≡ s
