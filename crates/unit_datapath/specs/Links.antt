-- A link of a unit for each operation of its kind: the unit gets the operands of the operation that is at work.
use Rattle.std.specs.Prelude.{◌≡◌, ◌≢◌, ℕ, ◌+◌, ◌^◌, ◌<◌, ◌≤◌, max, Bool, true, false, List, Option, Some, slice_get, slice_index, ℤ}
use Rattle.hls_ints.specs.Types.{IntegerType, width_of}
use Rattle.c_program.specs.declared.tree.BinaryOperator.{BinaryOperator}
use Rattle.block_ir.specs.declared.operand.Operand.{Operand}
use Rattle.block_ir.specs.declared.block.Operation.{Operation}
use Rattle.block_ir.specs.declared.block.Operation.TheVariants.{Binary}
use Rattle.block_ir.specs.declared.block.Block.{Block}
use Rattle.block_ir.specs.declared.code.Stage.{Stage}
use Rattle.block_ir.specs.declared.code.Stage.TheVariants as stage
use Rattle.block_ir.specs.declared.code.ThreadCode.{ThreadCode}
use Rattle.block_ir.specs.declared.plan.BlockPlan.{BlockPlan}
use Rattle.block_ir.specs.declared.plan.StagePlan.{StagePlan}
use Rattle.block_ir.specs.declared.plan.StagePlan.TheVariants as planned
use Rattle.block_ir.specs.declared.plan.Planned.{Planned}
use Rattle.planned_block.specs.Block.{operand_value}
use Rattle.planned_block.specs.Plan.{further_states, last_state}
use Rattle.planned_block.specs.Slot.{Slot, operand_now}
use Rattle.plan_blocks.specs.View.{operand_view, operation_view, planned_view, plan_view}
use Rattle.plan_conditions.specs.Right.{AreUnitsApart}
use Rattle.netlist.specs.declared.netlist.Signal.{Signal}
use Rattle.netlist.specs.declared.netlist.Module.{Module}
use Rattle.verilog_meaning.specs.Readings.{Reading, width}
use Rattle.circuit.specs.Modules.{Obeys}
use Rattle.operator_wires.specs.Gives.{Grows}
use Rattle.operator_wires.specs.Built.{Base, IsEarlier}
use Rattle.block_datapath.specs.declared.registers.Registers.{Registers}
use Rattle.block_datapath.specs.declared.states.Moment.{Moment}
use Rattle.block_datapath.specs.Chains.{IsMoment}
use Rattle.block_datapath.specs.Operations.{SeesSlot}
use Rattle.block_datapath.specs.Accesses.{IsAskRight}
use Rattle.block_datapath.specs.Leave.{HasStage, IsInStage}
use Rattle.block_datapath.specs.Wired.{AreRegisters}
use Rattle.unit_datapath.specs.declared.kinds.UnitKind.{UnitKind}
use Rattle.unit_datapath.specs.declared.inputs.UnitInputs.{UnitInputs}
use Rattle.unit_datapath.specs.Kinds.{is_shared, is_work}
use Rattle.unit_datapath.specs.Words.{IsRegistered}
use Rattle.unit_datapath.specs.Inputs.{AreAsMany, SameInputs, GetsOperands, AreInputs, AddsInputs}

-- a reading is in a state of a stage, and an operation that starts in a state and works in so many further ones ends before the stage does
pub record CanWork (m : Module) (r : Reading) (registers : Registers) (end : Moment) (start further s : ℕ) : Type 0 where
  pub moment : IsMoment m r registers end.at end.states true s
  pub small : end.states < 2 ^ 64
  pub ends : start + further < end.states

-- a state in which it works
abbrev pub IsWithin : ℕ → ℕ → ℕ → Type 0
IsWithin start further s = (start ≤ s) × (s ≤ start + further)

-- ---- an operation

module _ (code : ThreadCode) (registers : Registers) (p : BlockPlan) where
  -- the unit of operation k gets its operands where it works in a state; all else stays
  pub record LinksOperands (ty : IntegerType) (k : ℕ) (end : Moment) (further : ℕ) (left right : Operand) (old new : List Signal) (before after : UnitInputs) : Type 0 where
    pub grows : Grows old new
    pub many : (n : ℕ) → AreAsMany n before → AreAsMany n after
    pub works : (m : Module) (r : Reading) (s n : ℕ) (variables given : ℕ → ℤ) → Grows new m.signals → Obeys m r → CanWork m r registers end (slice_index p.starts k) further s →
        IsWithin (slice_index p.starts k) further s → IsRegistered m r registers code.variables p variables given left.source →
        IsRegistered m r registers code.variables p variables given right.source → AreAsMany n before → slice_index p.units k < n →
        GetsOperands r after (slice_index p.units k) ty (operand_value variables given (operand_view left)) (operand_value variables given (operand_view right))
    pub rests : (m : Module) (r : Reading) (s x n : ℕ) → Grows new m.signals → Obeys m r → CanWork m r registers end (slice_index p.starts k) further s → AreAsMany n before →
        x < n →
        (IsWithin (slice_index p.starts k) further s → x ≢ slice_index p.units k) → SameInputs r before after x
    -- so does all at another stage
    pub away : (m : Module) (r : Reading) (x n : ℕ) → Grows new m.signals → Obeys m r → width m end.at ≡ 1 → r.signal end.at ≡ 0 → AreAsMany n before → x < n →
        SameInputs r before after x
    pub wired : (base : Base) (n : ℕ) → AreRegisters old base code.variables registers → IsEarlier old base end.at 1 → end.states ≤ 2 ^ registers.state.width →
        AreInputs old base (width_of ty) n before → AddsInputs base old new (width_of ty) n after

-- how long an operation works after its first state
abbrev pub further_of : Operation → ℕ
further_of o = further_states (operation_view o).kind

module _ (code : ThreadCode) (registers : Registers) (kind : UnitKind) where
  -- the same, if the operation shares a unit of the kind
  pub record LinksOperation (p : BlockPlan) (end : Moment) (k : ℕ) (o : Operation) (old new : List Signal) (before after : UnitInputs) : Type 0 where
    pub grows : Grows old new
    pub many : (n : ℕ) → AreAsMany n before → AreAsMany n after
    pub works : (operator : BinaryOperator) (ty : IntegerType) (left right : Operand) (m : Module) (r : Reading) (s n : ℕ) (variables given : ℕ → ℤ) →
        o ≡ Binary operator ty left right →
        is_shared kind operator ty left right ≡ true → Grows new m.signals → Obeys m r → CanWork m r registers end (slice_index p.starts k) (further_of o) s →
        IsWithin (slice_index p.starts k) (further_of o) s → IsRegistered m r registers code.variables p variables given left.source →
        IsRegistered m r registers code.variables p variables given right.source → AreAsMany n before → slice_index p.units k < n →
        GetsOperands r after (slice_index p.units k) kind.ty (operand_value variables given (operand_view left)) (operand_value variables given (operand_view right))
    pub rests : (m : Module) (r : Reading) (s x n : ℕ) → Grows new m.signals → Obeys m r → CanWork m r registers end (slice_index p.starts k) (further_of o) s →
        AreAsMany n before → x < n →
        (is_work kind o ≡ true → IsWithin (slice_index p.starts k) (further_of o) s → x ≢ slice_index p.units k) → SameInputs r before after x
    pub away : (m : Module) (r : Reading) (x n : ℕ) → Grows new m.signals → Obeys m r → width m end.at ≡ 1 → r.signal end.at ≡ 0 → AreAsMany n before → x < n →
        SameInputs r before after x
    pub wired : (base : Base) (n : ℕ) → AreRegisters old base code.variables registers → IsEarlier old base end.at 1 → end.states ≤ 2 ^ registers.state.width →
        AreInputs old base (width_of kind.ty) n before → AddsInputs base old new (width_of kind.ty) n after

-- ---- a block

-- a block is right, and operations that share a unit are apart
pub record IsWorkRight (globals : List IntegerType) (code : ThreadCode) (b : Block) (p : BlockPlan) : Type 0 where
  pub block : IsAskRight globals code b p
  pub units : AreUnitsApart b p

-- operation k of a block shares a unit of the kind, and is at work in a state of the slot
pub record IsAtWork (kind : UnitKind) (b : Block) (p : BlockPlan) (q : Slot) (k : ℕ) (left right : Operand) : Type 0 where
  pub operator : BinaryOperator
  pub ty : IntegerType
  pub listed : slice_get b.operations k ≡ Some (Binary operator ty left right)
  pub shared : is_shared kind operator ty left right ≡ true
  pub from : slice_index p.starts k ≤ q.state
  pub to : q.state ≤ last_state (planned_view b) (plan_view b p) k

module _ (code : ThreadCode) (registers : Registers) (kind : UnitKind) where
  -- the unit of operation k of a block gets its operands
  abbrev pub GetsWork : Reading → Block → BlockPlan → Slot → (ℕ → ℤ) → UnitInputs → ℕ → Operand → Operand → Type 0
  GetsWork r b p q wire c k left right =
      GetsOperands r c (slice_index p.units k) kind.ty (operand_now (planned_view b) (plan_view b p) q wire (operand_view left))
      (operand_now (planned_view b) (plan_view b p) q wire (operand_view right))

  -- THE FIRST n OPERATIONS of a block: each that is at work has its operands at its unit
  pub record LinksFirst (b : Block) (p : BlockPlan) (end : Moment) (old new : List Signal) (before after : UnitInputs) (count : ℕ) : Type 0 where
    pub grows : Grows old new
    pub many : (n : ℕ) → AreAsMany n before → AreAsMany n after
    pub works : (globals : List IntegerType) (m : Module) (r : Reading) (q : Slot) (wire : ℕ → ℤ) (k n : ℕ) (left right : Operand) → IsWorkRight globals code b p →
        Grows new m.signals →
        Obeys m r → IsMoment m r registers end.at end.states true q.state → end.states ≡ max 1 p.states → SeesSlot globals code registers b p m r q → AreAsMany n before →
        k < count →
        slice_index p.units k < n → IsAtWork kind b p q k left right → GetsWork r b p q wire after k left right
    pub away : (m : Module) (r : Reading) (x n : ℕ) → Grows new m.signals → Obeys m r → width m end.at ≡ 1 → r.signal end.at ≡ 0 → AreAsMany n before → x < n →
        SameInputs r before after x
    pub wired : (base : Base) (n : ℕ) → AreRegisters old base code.variables registers → IsEarlier old base end.at 1 → end.states ≤ 2 ^ registers.state.width →
        AreInputs old base (width_of kind.ty) n before → AddsInputs base old new (width_of kind.ty) n after

  -- A BLOCK AT A STAGE
  pub record LinksBlock (l : ℕ) (b : Block) (p : BlockPlan) (old new : List Signal) (before after : UnitInputs) : Type 0 where
    pub grows : Grows old new
    pub many : (n : ℕ) → AreAsMany n before → AreAsMany n after
    pub works : (globals : List IntegerType) (m : Module) (r : Reading) (q : Slot) (wire : ℕ → ℤ) (k n : ℕ) (left right : Operand) → IsWorkRight globals code b p →
        Grows new m.signals →
        Obeys m r → IsInStage globals code registers l b p m r q → SeesSlot globals code registers b p m r q → AreAsMany n before → slice_index p.units k < n →
        IsAtWork kind b p q k left right → GetsWork r b p q wire after k left right
    pub rests : (m : Module) (r : Reading) (x n : ℕ) → Grows new m.signals → Obeys m r → HasStage registers l m r → r.signal registers.stage.register ≢ l → AreAsMany n before →
        x < n →
        SameInputs r before after x
    pub wired : (base : Base) (n : ℕ) → AreRegisters old base code.variables registers → l < 2 ^ registers.stage.width → p.states ≤ 2 ^ registers.state.width →
        AreInputs old base (width_of kind.ty) n before → AddsInputs base old new (width_of kind.ty) n after

  -- A STAGE, if it is a block with a plan of one
  pub record LinksStage (l : ℕ) (s : Stage) (plan : Option StagePlan) (old new : List Signal) (before after : UnitInputs) : Type 0 where
    pub grows : Grows old new
    pub many : (n : ℕ) → AreAsMany n before → AreAsMany n after
    pub works : (b : Block) (p : BlockPlan) (globals : List IntegerType) (m : Module) (r : Reading) (q : Slot) (wire : ℕ → ℤ) (k n : ℕ) (left right : Operand) → s ≡ stage.Run b →
        plan ≡ Some (planned.Run p) → IsWorkRight globals code b p → Grows new m.signals → Obeys m r → IsInStage globals code registers l b p m r q →
        SeesSlot globals code registers b p m r q → AreAsMany n before → slice_index p.units k < n → IsAtWork kind b p q k left right → GetsWork r b p q wire after k left right
    pub rests : (m : Module) (r : Reading) (x n : ℕ) → Grows new m.signals → Obeys m r → HasStage registers l m r → r.signal registers.stage.register ≢ l → AreAsMany n before →
        x < n →
        SameInputs r before after x
    pub wired : (base : Base) (n : ℕ) → AreRegisters old base code.variables registers → l < 2 ^ registers.stage.width →
        ((p : BlockPlan) → plan ≡ Some (planned.Run p) → p.states ≤ 2 ^ registers.state.width) → AreInputs old base (width_of kind.ty) n before →
        AddsInputs base old new (width_of kind.ty) n after

  -- THE FIRST STAGES
  pub record LinksStages (plan : Planned) (old new : List Signal) (before after : UnitInputs) (count : ℕ) : Type 0 where
    pub grows : Grows old new
    pub many : (n : ℕ) → AreAsMany n before → AreAsMany n after
    pub works : (l : ℕ) (b : Block) (p : BlockPlan) (globals : List IntegerType) (m : Module) (r : Reading) (q : Slot) (wire : ℕ → ℤ) (k n : ℕ) (left right : Operand) → l < count →
        slice_get code.stages l ≡ Some (stage.Run b) → slice_get plan.stages l ≡ Some (planned.Run p) → IsWorkRight globals code b p → Grows new m.signals → Obeys m r →
        ((j : ℕ) → j < count → HasStage registers j m r) → IsInStage globals code registers l b p m r q → SeesSlot globals code registers b p m r q → AreAsMany n before →
        slice_index p.units k < n → IsAtWork kind b p q k left right → GetsWork r b p q wire after k left right
    pub wired : (base : Base) (n : ℕ) → AreRegisters old base code.variables registers → count < 2 ^ registers.stage.width + 1 →
        ((l : ℕ) (p : BlockPlan) → slice_get plan.stages l ≡ Some (planned.Run p) → p.states ≤ 2 ^ registers.state.width) → AreInputs old base (width_of kind.ty) n before →
        AddsInputs base old new (width_of kind.ty) n after

-- ---- blocks that have operations of the kind

-- where a bit is not set none of the first operations is
abbrev pub HasWork : UnitKind → Block → ℕ → Bool → Type 0
HasWork kind b n found = found ≡ false → (k : ℕ) (o : Operation) → k < n → slice_get b.operations k ≡ Some o → is_work kind o ≡ false
