-- THE FUNCTIONAL UNITS OF A THREAD: each shows, in each state in which an operation that has it works, what the operation gives.
use Rattle.std.specs.Prelude.{◌≡◌, ℕ, ◌^◌, ◌<◌, ◌≤◌, true, false, ◌⊎◌, List, [], ◌∷◌, ◌++◌, length, Some, slice_get, slice_index, ℤ}
use Rattle.hls_ints.specs.Types.{IntegerType, width_of}
use Rattle.c_program.specs.declared.tree.BinaryOperator.{BinaryOperator}
use Rattle.c_program.specs.declared.tree.BinaryOperator.TheVariants.{Multiply, Divide, Remainder}
use Rattle.block_ir.specs.Arithmetic.{binary_total}
use Rattle.block_ir.specs.declared.operand.Operand.{Operand}
use Rattle.block_ir.specs.declared.block.Operation.TheVariants.{Binary}
use Rattle.block_ir.specs.declared.block.Block.{Block}
use Rattle.block_ir.specs.declared.code.Stage.TheVariants as stage
use Rattle.block_ir.specs.declared.code.ThreadCode.{ThreadCode}
use Rattle.block_ir.specs.declared.plan.BlockPlan.{BlockPlan}
use Rattle.block_ir.specs.declared.plan.StagePlan.TheVariants as planned
use Rattle.block_ir.specs.declared.plan.Planned.{Planned}
use Rattle.planned_block.specs.Plan.{last_state}
use Rattle.planned_block.specs.Slot.{Slot, operand_now}
use Rattle.plan_blocks.specs.View.{operand_view, planned_view, plan_view}
use Rattle.netlist.specs.declared.netlist.Signal.{Signal}
use Rattle.netlist.specs.declared.netlist.Module.{Module}
use Rattle.verilog_meaning.specs.Readings.{Reading}
use Rattle.circuit.specs.Modules.{Obeys}
use Rattle.operator_wires.specs.Gives.{Grows}
use Rattle.operator_wires.specs.Words.{IsWord}
use Rattle.operator_wires.specs.Built.{Base, IsEarlier, AreWires}
use Rattle.block_datapath.specs.declared.registers.Registers.{Registers}
use Rattle.block_datapath.specs.declared.registers.UnitResults.{UnitResults}
use Rattle.block_datapath.specs.Operations.{SeesSlot}
use Rattle.block_datapath.specs.Leave.{IsInStage}
use Rattle.block_datapath.specs.Wired.{AreRegisters}
use Rattle.block_datapath.specs.Units.{is_for, same_operator, unit_type, unit_place, has_constant, word_at, HasUnits}
use Rattle.unit_datapath.specs.declared.kinds.UnitKind.{UnitKind}
use Rattle.unit_datapath.specs.declared.units.UnitCounts.{UnitCounts}
use Rattle.unit_datapath.specs.declared.inputs.UnitInputs.{UnitInputs}
use Rattle.unit_datapath.specs.Kinds.{is_of}
use Rattle.unit_datapath.specs.Inputs.{AreAsMany, AddsInputs}
use Rattle.unit_datapath.specs.Links.{IsWorkRight, IsAtWork, GetsWork}
use Rattle.unit_datapath.specs.Results.{ShowsResults}
use Rattle.unit_datapath.specs.Counts.{IsCountOf, CodeHas}

-- what units stand on: registers at earlier places, with room for the stages of a code and the states of its plan
pub record CanHaveUnits (base : Base) (old : List Signal) (code : ThreadCode) (registers : Registers) (plan : Planned) : Type 0 where
  pub slots : AreRegisters old base code.variables registers
  pub stages : length code.stages < 2 ^ registers.stage.width
  pub states : (l : ℕ) (p : BlockPlan) → slice_get plan.stages l ≡ Some (planned.Run p) → p.states ≤ 2 ^ registers.state.width

-- results stand, each as wide as the type
abbrev pub UnitsStand : List Signal → Base → List UnitResults → Type 0
UnitsStand new base results =
    (x n place : ℕ) (u : UnitResults) → slice_get results x ≡ Some u → slice_get u.places n ≡ Some place → IsEarlier new base place (width_of u.ty)

-- an operation of the code has unit n of an operator and a type
abbrev pub HasUnit : ThreadCode → Planned → BinaryOperator → IntegerType → ℕ → Type 0
HasUnit code plan operator ty n = CodeHas operator ty code plan (length code.stages) n

-- no list is there twice
abbrev pub AreOnce : List UnitResults → Type 0
AreOnce results = (x y : ℕ) (u v : UnitResults) → slice_get results x ≡ Some u → slice_get results y ≡ Some v → u.operator ≡ v.operator → u.ty ≡ v.ty → x ≡ y

-- ---- how many there are

module _ (code : ThreadCode) (plan : Planned) (kind : UnitKind) where
  -- the number of units for an operator, which is none if it is not of the kind
  pub record IsOperatorCount (operator : BinaryOperator) (count : ℕ) : Type 0 where
    pub of_kind : 0 < count → is_of kind operator kind.ty ≡ true
    pub counted : is_of kind operator kind.ty ≡ true → IsCountOf (HasUnit code plan operator kind.ty) count

  -- how many units of a kind there are: as many as the numbers of the operations ask for, and no list without operations
  pub record AreCounted (results : List UnitResults) : Type 0 where
    pub of_kind : (x : ℕ) (u : UnitResults) → slice_get results x ≡ Some u → (u.ty ≡ kind.ty) × (is_of kind u.operator kind.ty ≡ true)
    pub counted : (x : ℕ) (u : UnitResults) → slice_get results x ≡ Some u → (0 < length u.places) × IsCountOf (HasUnit code plan u.operator u.ty) (length u.places)
    pub once : AreOnce results
    pub all : (operator : BinaryOperator) (n : ℕ) → is_of kind operator kind.ty ≡ true → HasUnit code plan operator kind.ty n →
        (x : ℕ) × (u : UnitResults) × (slice_get results x ≡ Some u) × (u.operator ≡ operator)

  pub record AreCountsOf (counts : UnitCounts) : Type 0 where
    pub products : IsOperatorCount Multiply counts.products
    pub quotients : IsOperatorCount Divide counts.quotients
    pub remainders : IsOperatorCount Remainder counts.remainders
    pub products_most : counts.products ≤ counts.most
    pub quotients_most : counts.quotients ≤ counts.most
    pub remainders_most : counts.remainders ≤ counts.most
    pub none : counts.most ≡ 0 → (counts.products ≡ 0) × (counts.quotients ≡ 0) × (counts.remainders ≡ 0)

-- ---- what they show

module _ (code : ThreadCode) (registers : Registers) (plan : Planned) where
  -- a reading shows a slot in a block of the code, which is right and has a right plan
  pub record IsInCode (globals : List IntegerType) (m : Module) (r : Reading) (q : Slot) (b : Block) (p : BlockPlan) : Type 0 where
    pub listed : slice_get code.stages q.stage ≡ Some (stage.Run b)
    pub planned_so : slice_get plan.stages q.stage ≡ Some (planned.Run p)
    pub right : IsWorkRight globals code b p
    pub inside : IsInStage globals code registers q.stage b p m r q
    pub sees : SeesSlot globals code registers b p m r q

  -- the operands of the units of a kind
  pub record LaysInputs (kind : UnitKind) (count : ℕ) (old new : List Signal) (c : UnitInputs) : Type 0 where
    pub grows : Grows old new
    pub many : AreAsMany count c
    pub works : (globals : List IntegerType) (m : Module) (r : Reading) (q : Slot) (b : Block) (p : BlockPlan) (wire : ℕ → ℤ) (k : ℕ) (left right : Operand) →
        length code.stages < 2 ^ registers.stage.width → Grows new m.signals → Obeys m r → IsInCode globals m r q b p → slice_index p.units k < count →
        IsAtWork kind b p q k left right →
        GetsWork code registers kind r b p q wire c k left right
    pub wired : (base : Base) → CanHaveUnits base old code registers plan → AddsInputs base old new (width_of kind.ty) count c

  -- results of units show what the operations give that have the units and are at work
  abbrev pub ShowsUnits : List Signal → UnitResults → Type 0
  ShowsUnits new u =
      (globals : List IntegerType) (m : Module) (r : Reading) (q : Slot) (b : Block) (p : BlockPlan) (wire : ℕ → ℤ) (k place : ℕ) (operator : BinaryOperator) (ty : IntegerType)
      (left right : Operand) → Grows new m.signals → Obeys m r → IsInCode globals m r q b p → slice_get b.operations k ≡ Some (Binary operator ty left right) →
      slice_index p.starts k ≤ q.state → q.state ≤ last_state (planned_view b) (plan_view b p) k → has_constant left right ≡ false → is_for operator ty u ≡ true →
      slice_get u.places (slice_index p.units k) ≡ Some place →
      IsWord m r (word_at place ty) ty
      (binary_total operator ty (operand_now (planned_view b) (plan_view b p) q wire (operand_view left))
      (operand_now (planned_view b) (plan_view b p) q wire (operand_view right)))

  -- units of some kinds
  pub record LaysUnits (old new : List Signal) (results : List UnitResults) : Type 0 where
    pub grows : Grows old new
    pub shown : (base : Base) → CanHaveUnits base old code registers plan → (x : ℕ) (u : UnitResults) → slice_get results x ≡ Some u → ShowsUnits new u
    pub wires : (base : Base) → CanHaveUnits base old code registers plan → AreWires base old new
    pub stands : (base : Base) → CanHaveUnits base old code registers plan → UnitsStand new base results

  -- units of a kind behind others
  pub record LaysMore (kind : UnitKind) (old new : List Signal) (before after : List UnitResults) : Type 0 where
    pub more : List UnitResults
    pub is : after ≡ before ++ more
    pub lays : LaysUnits old new more
    pub counted : AreCounted code plan kind more

-- ---- the results of one operator

-- none without operations, else one list
abbrev pub IsLaid : List Signal → List Signal → UnitInputs → BinaryOperator → IntegerType → ℕ → List UnitResults → Type 0
IsLaid old new c operator ty count [] = (count ≡ 0) × (new ≡ old)
IsLaid old new c operator ty count (u ∷ []) = (u.operator ≡ operator) × (u.ty ≡ ty) × (0 < count) × ShowsResults old new c operator ty count u.places
IsLaid old new c operator ty count (u ∷ v ∷ us) = ⊥

pub record LaysResults (c : UnitInputs) (operator : BinaryOperator) (ty : IntegerType) (count : ℕ) (old new : List Signal) (before after : List UnitResults) : Type 0 where
  pub more : List UnitResults
  pub is : after ≡ before ++ more
  pub laid : IsLaid old new c operator ty count more

-- ---- all kinds

-- THE UNITS OF A THREAD: what they show, where they stand and how many there are
pub record LaysAll (code : ThreadCode) (registers : Registers) (plan : Planned) (old new : List Signal) (results : List UnitResults) : Type 0 where
  pub grows : Grows old new
  pub shows : (base : Base) → CanHaveUnits base old code registers plan → (globals : List IntegerType) (m : Module) (r : Reading) (q : Slot) (b : Block) (p : BlockPlan)
      (wire : ℕ → ℤ) →
      Grows new m.signals → Obeys m r → IsInCode code registers plan globals m r q b p → HasUnits results b p m r q wire
  pub wires : (base : Base) → CanHaveUnits base old code registers plan → AreWires base old new
  pub stands : (base : Base) → CanHaveUnits base old code registers plan → UnitsStand new base results
  -- each list has operations, and one more result than the greatest number of their units
  pub counted : (x : ℕ) (u : UnitResults) → slice_get results x ≡ Some u → (0 < length u.places) × IsCountOf (HasUnit code plan u.operator u.ty) (length u.places)
  pub once : AreOnce results
  -- each operation of 32 or 64 bits that has a unit finds its result
  pub all : (operator : BinaryOperator) (ty : IntegerType) (n : ℕ) → (width_of ty ≡ 32) ⊎ (width_of ty ≡ 64) → same_operator operator operator ≡ true →
      HasUnit code plan operator (unit_type operator ty) n → (place : ℕ) × (unit_place results operator ty n ≡ Some place)
