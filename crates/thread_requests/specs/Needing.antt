-- Where a core is needed though none may be asked: where a read takes its word, where the thread meets others, and in a stage in which it waits forever.
use Rattle.std.specs.Prelude.{◌≡◌, ℕ, suc, ◌+◌, ◌<◌, ◌≤◌, ◌^◌, nat_eq, Bool, true, false, ◌&&◌, ◌||◌, List, length, Option, Some, None, slice_get, slice_index}
use Rattle.hls_ints.specs.Residues.{bit_of}
use Rattle.block_ir.specs.declared.block.Operation.{Operation}
use Rattle.block_ir.specs.declared.block.Operation.TheVariants.{Unary, Binary, ReadGlobal, WriteGlobal, ReadArray, WriteArray}
use Rattle.block_ir.specs.declared.block.Block.{Block}
use Rattle.block_ir.specs.declared.code.Stage.{Stage}
use Rattle.block_ir.specs.declared.code.Stage.TheVariants as stage
use Rattle.block_ir.specs.declared.code.ThreadCode.{ThreadCode}
use Rattle.block_ir.specs.declared.plan.BlockPlan.{BlockPlan}
use Rattle.block_ir.specs.declared.plan.StagePlan.{StagePlan}
use Rattle.block_ir.specs.declared.plan.StagePlan.TheVariants as planned
use Rattle.block_ir.specs.declared.plan.Planned.{Planned}
use Rattle.netlist.specs.declared.netlist.Signal.{Signal}
use Rattle.netlist.specs.declared.netlist.Module.{Module}
use Rattle.verilog_meaning.specs.Readings.{Reading, width}
use Rattle.circuit.specs.Modules.{Obeys}
use Rattle.block_datapath.specs.Moves.{meeting}
use Rattle.operator_wires.specs.Gives.{Grows}
use Rattle.operator_wires.specs.Built.{Base, IsEarlier, Adds}
use Rattle.planned_block.specs.Advance.{any_below}
use Rattle.block_datapath.specs.declared.registers.Registers.{Registers}
use Rattle.block_datapath.specs.Chains.{IsMoment}
use Rattle.block_datapath.specs.Leave.{HasStage}
use Rattle.thread_slots.specs.Bits.{HasBit}
use Rattle.thread_slots.specs.Numbers.{is_wait}
use Rattle.thread_slots.specs.Slots.{KnowsStage}

-- ---- where

-- a read of a global takes a word, in the state behind that in which it starts
abbrev pub takes_word : Option Operation → Bool
takes_word None = false
takes_word (Some (Unary operator ty a)) = false
takes_word (Some (Binary operator ty a b)) = false
takes_word (Some (ReadGlobal x n i)) = true
takes_word (Some (WriteGlobal x n i a)) = false
takes_word (Some (ReadArray x n i)) = false
takes_word (Some (WriteArray x n i a)) = false

-- operation k takes one in this state
abbrev pub takes_at : Block → BlockPlan → ℕ → ℕ → Bool
takes_at b p state k = takes_word (slice_get b.operations k) && nat_eq state (suc (slice_index p.starts k))

-- in a state of a stage a core is needed; at an act it is where one is asked
abbrev pub needs_in : Option Stage → Option StagePlan → ℕ → Bool
needs_in None plan state = false
needs_in (Some (stage.Run b)) (Some (planned.Run p)) state = any_below (takes_at b p state) (length b.operations)
needs_in (Some (stage.Run b)) (Some planned.Act) state = true
needs_in (Some (stage.Run b)) None state = true
needs_in (Some (stage.Act a next)) plan state = false

-- so it is at a meeting, in a code of n stages: number x is that of stage l
abbrev pub meets_at : ℕ → ℕ → Option Stage → ℕ → Bool
meets_at n l None x = false
meets_at n l (Some s) x = is_wait s && nat_eq x (meeting n l)

-- at number x
abbrev pub needs_at : ℕ → ℕ → Option Stage → Option StagePlan → ℕ → ℕ → Bool
needs_at n l s plan state x = (nat_eq x l && needs_in s plan state) || meets_at n l s x

-- ---- one more place where it is needed

-- a bit is set where one before it is, and in readings of these; it stands where there is room
pub record NeedsMore (registers : Registers) (HasRoom : Base → List Signal → Type 0) (Where : Module → Reading → Bool → Type 0) (old new : List Signal)
    (before after : ℕ) : Type 0 where
  pub grows : Grows old new
  pub wide : (m : Module) → Grows new m.signals → width m before ≡ 1 → width m after ≡ 1
  pub shows : (m : Module) (r : Reading) (t u : Bool) → Grows new m.signals → Obeys m r → HasBit m r before t → Where m r u → HasBit m r after (t || u)
  pub wired : (base : Base) → IsEarlier old base registers.stage.register registers.stage.width → IsEarlier old base registers.state.register registers.state.width →
      HasRoom base old → IsEarlier old base before 1 → Adds base old new 1 after

-- the bit of a stage stands, which has so many states
pub record HasStates (registers : Registers) (at states : ℕ) (base : Base) (old : List Signal) : Type 0 where
  pub stands : IsEarlier old base at 1
  pub fits : states ≤ 2 ^ registers.state.width

module _ (registers : Registers) where
  -- the state is one of a plan, and each word is taken in one of them
  pub record IsInPlan (b : Block) (p : BlockPlan) (m : Module) (r : Reading) (state : ℕ) : Type 0 where
    pub wide : width m registers.state.register ≡ registers.state.width
    pub is : r.signal registers.state.register ≡ state
    pub below : state < p.states
    pub room : p.states ≤ 2 ^ registers.state.width
    pub small : p.states < 2 ^ 64
    pub taken : (k : ℕ) → takes_word (slice_get b.operations k) ≡ true → suc (slice_index p.starts k) < p.states

  -- in the state behind one of a stage that a bit tells
  pub record IsBehind (at states start : ℕ) (m : Module) (r : Reading) (u : Bool) : Type 0 where
    pub wide : width m at ≡ 1
    pub here : Bool
    pub shows : r.signal at ≡ bit_of here
    pub state : ℕ
    pub moment : here ≡ true → IsMoment m r registers at states true state
    pub within : here ≡ true → (suc start < states) × (states < 2 ^ 64)
    pub is : u ≡ (here && nat_eq state (suc start))

  -- where one operation takes a word
  pub record IsTaken (at states start : ℕ) (o : Operation) (m : Module) (r : Reading) (u : Bool) : Type 0 where
    pub wide : width m at ≡ 1
    pub here : Bool
    pub shows : r.signal at ≡ bit_of here
    pub state : ℕ
    pub moment : here ≡ true → IsMoment m r registers at states true state
    pub within : here ≡ true → takes_word (Some o) ≡ true → (suc start < states) × (states < 2 ^ 64)
    pub is : u ≡ (here && (takes_word (Some o) && nat_eq state (suc start)))

  -- at stage l, in each state
  pub record IsThere (l : ℕ) (m : Module) (r : Reading) (u : Bool) : Type 0 where
    pub has : HasStage registers l m r
    pub is : u ≡ nat_eq (r.signal registers.stage.register) l

  -- where the first n operations of a block take words, at a stage that a bit tells
  pub record AreTaken (at : ℕ) (b : Block) (p : BlockPlan) (n : ℕ) (m : Module) (r : Reading) (u : Bool) : Type 0 where
    pub wide : width m at ≡ 1
    pub here : Bool
    pub shows : r.signal at ≡ bit_of here
    pub state : ℕ
    pub inside : here ≡ true → IsInPlan b p m r state
    pub is : u ≡ (here && any_below (takes_at b p state) n)

  -- at stage l, of n stages
  pub record IsNeedOf (n l : ℕ) (s : Option Stage) (plan : Option StagePlan) (m : Module) (r : Reading) (u : Bool) : Type 0 where
    pub has : HasStage registers l m r
    pub meets : HasStage registers (meeting n l) m r
    pub state : ℕ
    pub inside : (b : Block) (p : BlockPlan) → s ≡ Some (stage.Run b) → plan ≡ Some (planned.Run p) → r.signal registers.stage.register ≡ l → IsInPlan b p m r state
    pub is : u ≡ needs_at n l s plan state (r.signal registers.stage.register)

  -- and at the first n stages
  pub record IsNeedOfFirst (code : ThreadCode) (plan : Planned) (n : ℕ) (m : Module) (r : Reading) (u : Bool) : Type 0 where
    pub knows : KnowsStage code registers m r
    pub state : ℕ
    pub inside : (l : ℕ) (b : Block) (p : BlockPlan) → slice_get code.stages l ≡ Some (stage.Run b) → slice_get plan.stages l ≡ Some (planned.Run p) →
        r.signal registers.stage.register ≡ l → IsInPlan b p m r state
    pub is : u ≡ any_below (λ l. needs_at (length code.stages) l (slice_get code.stages l) (slice_get plan.stages l) state (r.signal registers.stage.register)) n

  -- ---- room

  pub record IsNumbered (l : ℕ) (base : Base) (old : List Signal) : Type 0 where
    pub stage : l < 2 ^ registers.stage.width

  -- a stage and the states of its plan have numbers in their registers
  pub record FitsStage (n l : ℕ) (plan : Option StagePlan) (base : Base) (old : List Signal) : Type 0 where
    pub stage : l < 2 ^ registers.stage.width
    pub meets : meeting n l < 2 ^ registers.stage.width
    pub states : (p : BlockPlan) → plan ≡ Some (planned.Run p) → p.states ≤ 2 ^ registers.state.width

  pub record FitStages (code : ThreadCode) (plan : Planned) (base : Base) (old : List Signal) : Type 0 where
    pub stages : length code.stages + length code.stages < 2 ^ registers.stage.width
    pub states : (l : ℕ) (p : BlockPlan) → slice_get plan.stages l ≡ Some (planned.Run p) → p.states ≤ 2 ^ registers.state.width
