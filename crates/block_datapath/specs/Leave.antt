-- A block at a stage: what its last state leaves in the variables, and where it leads.
use Rattle.std.specs.Prelude.{◌≡◌, ◌≢◌, ℕ, suc, ◌<◌, ◌≤◌, ◌%◌, ◌^◌, nat_eq, true, max, if◌then◌else◌, List, length, slice_get, Some, ℤ}
use Rattle.interleaving.specs.Memory.{Location}
use Rattle.hls_ints.specs.Residues.{residue_of, bit_of}
use Rattle.hls_ints.specs.Types.{IntegerType, HasType, width_of}
use Rattle.block_ir.specs.declared.block.Block.{Block}
use Rattle.block_ir.specs.declared.code.ThreadCode.{ThreadCode}
use Rattle.block_ir.specs.declared.plan.BlockPlan.{BlockPlan}
use Rattle.planned_block.specs.Block.{finished, leads_to}
use Rattle.planned_block.specs.Slot.{Slot, operand_now, RegistersAfter}
use Rattle.thread_promise.specs.View.{planned_view, plan_view}
use Rattle.netlist.specs.declared.netlist.Signal.{Signal}
use Rattle.netlist.specs.declared.netlist.Module.{Module}
use Rattle.verilog_meaning.specs.Readings.{Reading, width}
use Rattle.operator_wires.specs.Modules.{Obeys}
use Rattle.operator_wires.specs.Gives.{Grows}
use Rattle.block_datapath.specs.declared.registers.Registers.{Registers}
use Rattle.block_datapath.specs.declared.leaving_block.Left.{Left}
use Rattle.block_datapath.specs.declared.operands.Given.{Given}
use Rattle.block_ir.specs.declared.block.Operation.{Operation}
use Rattle.block_datapath.specs.declared.registers.Held.{Held}
use Rattle.thread_promise.specs.Types.{value_type}
use Rattle.thread_promise.specs.Slots.{IsAlive}
use Rattle.block_datapath.specs.Operations.{SeesSlot, IsFed, IsRight, ShowsFirst}
use Rattle.block_datapath.specs.Chains.{next_number, TellsStage, IsMoment, KeepsNone}

-- ---- registers for values

module _ (globals : List IntegerType) (code : ThreadCode) (registers : Registers) (b : Block) (p : BlockPlan) where
  -- registers for values are as wide as they say, hold next what they hold, and have room for the values that they keep
  pub record HasRoom (m : Module) (r : Reading) (kept : List ℕ) : Type 0 where
    pub count : length kept ≡ length registers.kept
    pub room : (k x : ℕ) (o : Operation) → slice_get b.operations k ≡ Some o → (plan_view b p).register k ≡ Some x →
        (h : Held) × (slice_get registers.kept x ≡ Some h) × (width_of (value_type globals code o) ≤ h.width) × (next_number r kept x ≡ r.signal h.register)

  -- what registers for values hold next: each value that is alive in the state that follows
  abbrev pub KeepsSo : Module → Reading → Slot → (ℕ → ℤ) → List ℕ → List ℕ → Type 0
  KeepsSo m r q wire before after =
      (registers_after : ℕ → ℤ) → RegistersAfter (planned_view b) (plan_view b p) q wire registers_after → HasRoom m r before → (next : Slot) → next.state ≡ suc q.state → (k x : ℕ)
      (t : IsAlive b p next k x) →
      (next_number r after x % 2 ^ width_of (value_type globals code t.operation) ≡ residue_of (width_of (value_type globals code t.operation)) (registers_after x))
      × HasType (value_type globals code t.operation) (registers_after x)

  -- THE VALUES OF A BLOCK are on their wires, and registers keep those that are used later, in each state of it
  pub record KeepsBlock (old new : List Signal) (before after : List ℕ) (end_at : ℕ) (values : List Given) : Type 0 where
    pub shown : ShowsFirst globals code registers b p old new (length b.operations) values
    pub count : length after ≡ length before
    pub rests : KeepsNone new end_at before after
    pub keeps : (bank : Location → ℕ) (m : Module) (r : Reading) (q : Slot) (wire : ℕ → ℤ) → IsRight globals code registers b p → Grows new m.signals → Obeys m r →
        IsMoment m r registers end_at (max 1 p.states) true q.state → SeesSlot globals code registers b p m r q → IsFed globals code registers b p bank m r q wire →
        KeepsSo m r q wire before after

-- ---- the block at stage l

-- the register of the stage is as wide as it says, and has room for this stage
pub record HasStage (registers : Registers) (l : ℕ) (m : Module) (r : Reading) : Type 0 where
  pub wide : width m registers.stage.register ≡ registers.stage.width
  pub room : l < 2 ^ registers.stage.width
  pub fits : r.signal registers.stage.register < 2 ^ registers.stage.width

module _ (globals : List IntegerType) (code : ThreadCode) (registers : Registers) (l : ℕ) (b : Block) (p : BlockPlan) where
  -- a reading is in a state of this stage
  pub record IsInStage (m : Module) (r : Reading) (q : Slot) : Type 0 where
    pub has : HasStage registers l m r
    pub stage : r.signal registers.stage.register ≡ l
    pub wide : width m registers.state.register ≡ registers.state.width
    pub state : r.signal registers.state.register ≡ q.state
    pub below : q.state < p.states
    pub room : p.states ≤ 2 ^ registers.state.width

  module _ (before after : List ℕ) (left : Left) where
    -- what a state of the block leaves in the variables, where the wires of the planned block are these
    pub record FinishesSo (m : Module) (r : Reading) (q : Slot) (wire : ℕ → ℤ) : Type 0 where
      pub last : r.signal left.last ≡ bit_of (nat_eq (suc q.state) p.states)
      pub variables : (x : ℕ) (ty : IntegerType) → slice_get code.variables x ≡ Some ty → x < length before → next_number r before x ≡ residue_of (width_of ty) (q.variables x) →
          next_number r after x
          ≡ residue_of (width_of ty) (if nat_eq (suc q.state) p.states then finished (operand_now (planned_view b) (plan_view b p) q wire)
          (planned_view b).finals q.variables x else q.variables x)
      pub typed : (x : ℕ) (ty : IntegerType) → slice_get code.variables x ≡ Some ty → HasType ty (q.variables x) →
          HasType ty (if nat_eq (suc q.state) p.states then finished (operand_now (planned_view b) (plan_view b p) q wire) (planned_view b).finals q.variables x else q.variables x)
      pub target : suc q.state ≡ p.states → r.signal left.target ≡ leads_to (operand_now (planned_view b) (plan_view b p) q wire) (planned_view b).next

    -- in a reading of another stage nothing changes
    pub record RestsSo (r : Reading) : Type 0 where
      pub last : r.signal left.last ≡ 0
      pub variables : (x : ℕ) → x < length before → next_number r after x ≡ next_number r before x

    -- the end of a block: in a reading of another stage nothing changes, in one of this stage all is as the planned block says
    pub record FinishesBlock (old new : List Signal) : Type 0 where
      pub shown : ShowsFirst globals code registers b p old new (length b.operations) left.values
      pub told : TellsStage old new registers l left.end.at
      pub states : left.end.states ≡ max 1 p.states
      pub count : length after ≡ length before
      pub wide : (m : Module) → Grows new m.signals → width m left.last ≡ 1
      pub rests : (m : Module) (r : Reading) → Grows new m.signals → Obeys m r → HasStage registers l m r → r.signal registers.stage.register ≢ l → RestsSo r
      pub moves : (bank : Location → ℕ) (m : Module) (r : Reading) (q : Slot) (wire : ℕ → ℤ) → IsRight globals code registers b p → Grows new m.signals → Obeys m r →
          IsInStage m r q →
          SeesSlot globals code registers b p m r q → IsFed globals code registers b p bank m r q wire → FinishesSo m r q wire

    -- A BLOCK AT A STAGE: the same, of the registers for values too
    pub record LeavesBlock (kept kept_after : List ℕ) (old new : List Signal) : Type 0 where
      pub grows : Grows old new
      pub count : length after ≡ length before
      pub kept_count : length kept_after ≡ length kept
      -- the values of its operations, the bit of its stage, and the moment that a state of it is
      pub shown : ShowsFirst globals code registers b p old new (length b.operations) left.values
      pub bit : (m : Module) (r : Reading) → Grows new m.signals → Obeys m r → HasStage registers l m r →
          r.signal left.end.at ≡ bit_of (nat_eq (r.signal registers.stage.register) l)
      pub moment : (m : Module) (r : Reading) (q : Slot) → Grows new m.signals → Obeys m r → IsInStage m r q → IsMoment m r registers left.end.at left.end.states true q.state
      pub bit_wide : (m : Module) → Grows new m.signals → width m left.end.at ≡ 1
      pub states : left.end.states ≡ max 1 p.states
      pub wide : (m : Module) → Grows new m.signals → width m left.last ≡ 1
      pub rests : (m : Module) (r : Reading) → Grows new m.signals → Obeys m r → HasStage registers l m r → r.signal registers.stage.register ≢ l → RestsSo r
      pub kept_rests : (m : Module) (r : Reading) (x : ℕ) → Grows new m.signals → Obeys m r → HasStage registers l m r → r.signal registers.stage.register ≢ l → x < length kept →
          next_number r kept_after x ≡ next_number r kept x
      pub moves : (bank : Location → ℕ) (m : Module) (r : Reading) (q : Slot) (wire : ℕ → ℤ) → IsRight globals code registers b p → Grows new m.signals → Obeys m r →
          IsInStage m r q →
          SeesSlot globals code registers b p m r q → IsFed globals code registers b p bank m r q wire →
          FinishesSo m r q wire × KeepsSo globals code registers b p m r q wire kept kept_after
