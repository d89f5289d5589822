-- The slot of planned blocks that a reading of a thread's module shows.
use Rattle.std.specs.Prelude.{◌≡◌, ℕ, ◌%◌, ◌^◌, ◌<◌, ◌≤◌, Bool, false, List, length, pos, Some, slice_get}
use Rattle.hls_ints.specs.Residues.{residue_of, bit_of}
use Rattle.hls_ints.specs.Types.{IntegerType, HasType, width_of}
use Rattle.plan_conditions.specs.Memory.{Location}
use Rattle.block_ir.specs.declared.block.Operation.{Operation}
use Rattle.block_ir.specs.declared.block.Block.{Block}
use Rattle.block_ir.specs.declared.code.Array.{Array}
use Rattle.block_ir.specs.declared.code.ThreadCode.{ThreadCode}
use Rattle.block_ir.specs.declared.plan.BlockPlan.{BlockPlan}
use Rattle.plan_conditions.specs.Block.{operation_at, size}
use Rattle.plan_conditions.specs.Plan.{OfGlobal, target_of, last_state}
use Rattle.plan_conditions.specs.Slot.{Slot}
use Rattle.plan_conditions.specs.View.{planned_view, plan_view}
use Rattle.circuit.specs.Readings.{Reading}
use Rattle.thread_promise.specs.Types.{value_type}

-- where registers stand among the signals; memory a is array a
pub record Places : Type 0 where
  pub stage : ℕ
  pub state : ℕ
  pub beat : ℕ
  pub variable : ℕ → ℕ
  pub kept : ℕ → ℕ
  -- by global: whether the access of it in this state has been granted
  pub granted : ℕ → ℕ

-- an array's word shows an element
abbrev pub element_at : ℕ → ℕ → Location
element_at a i = record { object = a; index = i }

-- the value of operation k is alive in a register: past the last state of the operation, up to its last use
pub record IsAlive (b : Block) (p : BlockPlan) (q : Slot) (k n : ℕ) : Type 0 where
  pub operation : Operation
  pub listed : slice_get b.operations k ≡ Some operation
  pub register : (plan_view b p).register k ≡ Some n
  pub past : last_state (planned_view b) (plan_view b p) k < q.state
  pub used : q.state ≤ (plan_view b p).until k

module _ (globals : List IntegerType) (code : ThreadCode) where
  module _ (places : Places) where
    -- the parts that outlive a stage
    pub record ShowsData (r : Reading) (q : Slot) : Type 0 where
      pub stage : r.signal places.stage ≡ q.stage
      pub state : r.signal places.state ≡ q.state
      pub beat : r.signal places.beat ≡ bit_of q.beat
      pub variables : (x : ℕ) (ty : IntegerType) → slice_get code.variables x ≡ Some ty → r.signal (places.variable x) ≡ residue_of (width_of ty) (q.variables x)
      pub typed : (x : ℕ) (ty : IntegerType) → slice_get code.variables x ≡ Some ty → HasType ty (q.variables x)
      pub words : (a i : ℕ) (array : Array) → slice_get code.arrays a ≡ Some array → i < array.length →
          r.word a i ≡ residue_of (width_of array.ty) (q.arrays (element_at a i))
      pub typed_words : (a i : ℕ) (array : Array) → slice_get code.arrays a ≡ Some array → i < array.length → HasType array.ty (q.arrays (element_at a i))
      -- the place past the end, which an index outside the array reads
      pub outside : (a : ℕ) (array : Array) → slice_get code.arrays a ≡ Some array → q.arrays (element_at a array.length) ≡ pos 0
      -- where no grant is remembered no bit is set
      pub none_granted : ((k : ℕ) → q.granted k ≡ false) → (x : ℕ) → x < length globals → r.signal (places.granted x) ≡ 0

    -- within a block, the values that are alive too, and which accesses of this state have been granted
    pub record ShowsInBlock (b : Block) (p : BlockPlan) (r : Reading) (q : Slot) : Type 0 where
      pub shown : ShowsData r q
      pub alive : (k n : ℕ) (t : IsAlive b p q k n) →
          r.signal (places.kept n) % 2 ^ width_of (value_type globals code t.operation) ≡ residue_of (width_of (value_type globals code t.operation)) (q.registers n)
      pub typed_alive : (k n : ℕ) (t : IsAlive b p q k n) → HasType (value_type globals code t.operation) (q.registers n)
      pub granted : (k x : ℕ) (writes : Bool) → k < size (planned_view b) → target_of (operation_at (planned_view b) k).kind ≡ OfGlobal x writes →
          (plan_view b p).start k ≡ q.state →
          r.signal (places.granted x) ≡ bit_of (q.granted k)
