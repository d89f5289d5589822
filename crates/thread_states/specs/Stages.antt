-- What the wires of a stage show: nothing in a reading of another stage, and in one of this stage what the state leaves; and what those of all stages do.
use Rattle.std.specs.Prelude.{◌≡◌, ◌≢◌, ℕ, suc, ◌<◌, ◌≤◌, ◌%◌, ◌^◌, nat_eq, Bool, true, false, if◌then◌else◌, min, List, length, Option, Some, slice_get, ℤ}
use Rattle.interleaving.specs.Memory.{Location}
use Rattle.hls_ints.specs.Residues.{residue_of, bit_of}
use Rattle.hls_ints.specs.Types.{IntegerType, HasType, width_of}
use Rattle.block_ir.specs.declared.block.Operation.{Operation}
use Rattle.block_ir.specs.declared.block.Block.{Block}
use Rattle.block_ir.specs.declared.code.ActOperand.{ActOperand}
use Rattle.block_ir.specs.declared.code.Act.{Act}
use Rattle.block_ir.specs.declared.code.Act.TheVariants.{BarrierWait}
use Rattle.block_ir.specs.declared.code.Stage.{Stage}
use Rattle.block_ir.specs.declared.code.Stage.TheVariants as stage
use Rattle.block_ir.specs.declared.code.ThreadCode.{ThreadCode}
use Rattle.block_ir.specs.declared.plan.BlockPlan.{BlockPlan}
use Rattle.block_ir.specs.declared.plan.StagePlan.{StagePlan}
use Rattle.block_ir.specs.declared.plan.StagePlan.TheVariants as planned
use Rattle.block_ir.specs.declared.plan.Planned.{Planned}
use Rattle.planned_block.specs.Block.{finished, leads_to}
use Rattle.planned_block.specs.Slot.{Slot, operand_now, RegistersAfter}
use Rattle.plan_blocks.specs.View.{planned_view, plan_view}
use Rattle.netlist.specs.declared.netlist.Signal.{Signal}
use Rattle.netlist.specs.declared.netlist.Module.{Module}
use Rattle.verilog_meaning.specs.Readings.{Reading}
use Rattle.circuit.specs.Modules.{Obeys}
use Rattle.operator_wires.specs.Gives.{Grows}
use Rattle.thread_promise.specs.Types.{value_type}
use Rattle.thread_promise.specs.Slots.{IsAlive}
use Rattle.block_datapath.specs.declared.registers.Held.{Held}
use Rattle.block_datapath.specs.declared.registers.Registers.{Registers}
use Rattle.block_datapath.specs.Operations.{SeesSlot, IsRight, IsFed}
use Rattle.block_datapath.specs.Chains.{next_number}
use Rattle.block_datapath.specs.Leave.{IsInStage}
use Rattle.thread_slots.specs.declared.chains.Chains.{Chains}
use Rattle.operator_wires.specs.Built.{Base, IsEarlier}
use Rattle.thread_slots.specs.Idle.{is_idle}
use Rattle.thread_slots.specs.Links.{AreBits, IsStill, ShowSame, AreAsMany}
use Rattle.thread_slots.specs.Wired.{AreLinked, KeepsLinks, FitStates}
use Rattle.thread_states.specs.Wired.{StepIsWired}
use Rattle.thread_slots.specs.Slots.{KnowsStage}
use Rattle.thread_slots.specs.Bits.{HasBit}
use Rattle.thread_slots.specs.Numbers.{numbers}
use Rattle.thread_slots.specs.declared.told.Told.{Told}
use Rattle.thread_promise.specs.Moves.{meeting, stage_after}
use Rattle.thread_states.specs.Acts.{StepsOver, LeavesFor, AreTold, StepsStage, IsTypedArgument, SetsOut}

module _ (globals : List IntegerType) (code : ThreadCode) (registers : Registers) where
  -- registers have room for the values that a plan keeps there
  abbrev pub HasWidths : Block → BlockPlan → Type 0
  HasWidths b p =
      (k x : ℕ) (o : Operation) → slice_get b.operations k ≡ Some o → (plan_view b p).register k ≡ Some x →
      (h : Held) × (slice_get registers.kept x ≡ Some h) × (width_of (value_type globals code o) ≤ h.width)

  -- a state of a block at stage l: what follows it if it is left
  pub record LeavesState (l : ℕ) (b : Block) (p : BlockPlan) (r : Reading) (q : Slot) (wire : ℕ → ℤ) (c : Chains) : Type 0 where
    pub is_last : r.signal c.is_last ≡ bit_of (nat_eq (suc q.state) p.states)
    pub stage : r.signal c.stage ≡ (if nat_eq (suc q.state) p.states then leads_to (operand_now (planned_view b) (plan_view b p) q wire) (planned_view b).next else l)
    pub variables : (x : ℕ) (ty : IntegerType) → slice_get code.variables x ≡ Some ty → next_number r c.variables x
        ≡ residue_of (width_of ty) (if nat_eq (suc q.state) p.states then finished (operand_now (planned_view b) (plan_view b p) q wire)
        (planned_view b).finals q.variables x else q.variables x)
    pub typed : (x : ℕ) (ty : IntegerType) → slice_get code.variables x ≡ Some ty →
        HasType ty (if nat_eq (suc q.state) p.states then finished (operand_now (planned_view b) (plan_view b p) q wire) (planned_view b).finals q.variables x else q.variables x)
    pub kept : (registers_after : ℕ → ℤ) → RegistersAfter (planned_view b) (plan_view b p) q wire registers_after → (next : Slot) → next.state ≡ suc q.state → (k x : ℕ)
        (t : IsAlive b p next k x) →
        (next_number r c.kept x % 2 ^ width_of (value_type globals code t.operation) ≡ residue_of (width_of (value_type globals code t.operation)) (registers_after x))
        × HasType (value_type globals code t.operation) (registers_after x)
    pub waits : r.signal c.waits ≡ 0

  -- what a block at stage l does, in a reading of one of its states
  abbrev pub Runs : ℕ → List Signal → Chains → Chains → Block → BlockPlan → Type 0
  Runs l new start c b p =
      (bank : Location → ℕ) (m : Module) (r : Reading) (q : Slot) (wire : ℕ → ℤ) → Grows new m.signals → Obeys m r → IsStill r registers start → IsRight globals code registers b p
      → IsInStage globals code registers l b p m r q → SeesSlot globals code registers b p m r q → IsFed globals code registers b p bank m r q wire
      → HasWidths b p → KnowsStage code registers m r → LeavesState l b p r q wire c

  -- a block at stage l
  pub record RunsBlock (l : ℕ) (b : Block) (p : BlockPlan) (old new : List Signal) (before after : Chains) : Type 0 where
    pub step : StepsOver registers l old new before after
    pub runs : AreBits old before → length before.variables ≡ length code.variables → length before.kept ≡ length registers.kept → Runs l new before after b p
    pub goes : (r : Reading) → IsStill r registers before → r.signal after.waits ≡ 0
    pub wired : l ≤ length code.stages → StepIsWired code registers (Some (planned.Run p)) old new before after

module _ (globals : List IntegerType) (code : ThreadCode) (registers : Registers) (told : Told) where
  -- what stage l does, in a reading of it: from links that are still to those behind it
  pub record DoesStage (l : ℕ) (s : Stage) (plan : Option StagePlan) (new : List Signal) (start c : Chains) : Type 0 where
    pub runs : (b : Block) (p : BlockPlan) → s ≡ stage.Run b → plan ≡ Some (planned.Run p) → Runs globals code registers l new start c b p
    pub acts : (a : Act) (next : ℕ) → s ≡ stage.Act a next → (m : Module) (r : Reading) → Grows new m.signals → Obeys m r → KnowsStage code registers m r →
        IsStill r registers start → r.signal registers.stage.register ≡ l →
        LeavesFor (stage_after (length code.stages) l a (min next (length code.stages))) false r start c
    -- where it meets others it goes on, unless it is barred
    pub meets : (barrier : ActOperand) (next : ℕ) → s ≡ stage.Act (BarrierWait barrier) next → (m : Module) (r : Reading) (t : Bool) → Grows new m.signals → Obeys m r →
        KnowsStage code registers m r → IsStill r registers start → r.signal registers.stage.register ≡ meeting (length code.stages) l → HasBit m r told.barred t →
        LeavesFor (min next (length code.stages)) t r start c
    -- whoever is not idle does not wait
    pub goes : is_idle s plan ≡ false → (m : Module) (r : Reading) → Grows new m.signals → Obeys m r → KnowsStage code registers m r →
        IsStill r registers start → r.signal registers.stage.register ≡ l → r.signal c.waits ≡ 0

  -- A STAGE
  pub record TakesStage (l : ℕ) (s : Stage) (plan : Option StagePlan) (old new : List Signal) (before after : Chains) : Type 0 where
    pub step : StepsStage code registers l s old new before after
    pub does : AreBits old before → length before.variables ≡ length code.variables → length before.kept ≡ length registers.kept → l < length code.stages
        → DoesStage l s plan new before after
    pub wired : l < length code.stages → (base : Base) → IsEarlier old base told.barred 1 →
        ((p : BlockPlan) → plan ≡ Some (planned.Run p) → p.states ≤ 2 ^ registers.state.width) → AreLinked base old code registers before →
        KeepsLinks base old new code registers after

  -- THE FIRST n STAGES
  pub record WalksFirst (plan : Planned) (old new : List Signal) (start c : Chains) (n : ℕ) : Type 0 where
    pub grows : Grows old new
    pub many : AreAsMany start c
    pub bits : AreBits old start → AreBits new c
    pub still : (m : Module) (r : Reading) → Grows new m.signals → Obeys m r → AreBits old start → KnowsStage code registers m r →
        ((k : ℕ) (s : Stage) → k < n → slice_get code.stages k ≡ Some s → numbers (length code.stages) k s (r.signal registers.stage.register) ≡ false)
        → ShowSame r start c
    pub does : AreBits old start → length start.variables ≡ length code.variables → length start.kept ≡ length registers.kept → (k : ℕ) (s : Stage) → k < n →
        slice_get code.stages k ≡ Some s →
        DoesStage k s (slice_get plan.stages k) new start c
    pub wired : (base : Base) → FitStates registers plan → IsEarlier old base told.barred 1 →
        AreLinked base old code registers start
        → n ≤ length code.stages → KeepsLinks base old new code registers c

  -- ALL STAGES, and the rest
  pub record WalksAll (main : Bool) (plan : Planned) (old new : List Signal) (start c : Chains) : Type 0 where
    pub grows : Grows old new
    pub many : AreAsMany start c
    pub bits : AreBits old start → AreBits new c
    pub does : AreBits old start → length start.variables ≡ length code.variables → length start.kept ≡ length registers.kept → (k : ℕ) (s : Stage) →
        slice_get code.stages k ≡ Some s →
        DoesStage k s (slice_get plan.stages k) new start c
    -- at rest main waits
    pub stays : main ≡ true → (m : Module) (r : Reading) → Grows new m.signals → Obeys m r → AreBits old start → KnowsStage code registers m r → IsStill r registers start →
        r.signal registers.stage.register ≡ length code.stages → r.signal c.waits ≡ 1
    -- and another thread sets out where it runs
    pub begins : main ≡ false → (m : Module) (r : Reading) (t : Bool) → Grows new m.signals → Obeys m r → AreBits old start → KnowsStage code registers m r →
        IsStill r registers start → r.signal registers.stage.register ≡ length code.stages → HasBit m r told.runs t → SetsOut code.argument told t r start c
    -- nothing waits at any other number that is none of a stage
    pub past : (m : Module) (r : Reading) → Grows new m.signals → Obeys m r → AreBits old start → KnowsStage code registers m r → IsStill r registers start →
        ((k : ℕ) (s : Stage) → slice_get code.stages k ≡ Some s → numbers (length code.stages) k s (r.signal registers.stage.register) ≡ false) →
        r.signal registers.stage.register ≢ length code.stages → r.signal c.waits ≡ 0
    pub wired : (base : Base) → FitStates registers plan → AreTold base old told → (main ≡ false → IsTypedArgument code.argument code.variables) →
        AreLinked base old code registers start → KeepsLinks base old new code registers c
