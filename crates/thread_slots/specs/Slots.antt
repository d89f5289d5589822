-- The registers of a slot: where they stand, and how wide they are.
use Rattle.std.specs.Prelude.{◌≡◌, ℕ, ◌+◌, ◌<◌, ◌≤◌, ◌^◌, List, length, map, Option, Some, slice_get, string_bytes, codes}
use Rattle.hls_ints.specs.Types.{IntegerType, width_of}
use Rattle.bank_partition.specs.declared.banks.Spread.{Spread}
use Rattle.block_ir.specs.declared.block.Operation.{Operation}
use Rattle.block_ir.specs.declared.block.Block.{Block}
use Rattle.block_ir.specs.declared.code.Stage.{Stage}
use Rattle.block_ir.specs.declared.code.Stage.TheVariants as stage
use Rattle.block_ir.specs.declared.code.ThreadCode.{ThreadCode}
use Rattle.block_ir.specs.declared.plan.BlockPlan.{BlockPlan}
use Rattle.block_ir.specs.declared.plan.StagePlan.{StagePlan}
use Rattle.block_ir.specs.declared.plan.StagePlan.TheVariants as planned
use Rattle.block_ir.specs.declared.plan.Planned.{Planned}
use Rattle.block_datapath.specs.View.{register_at}
use Rattle.netlist.specs.declared.netlist.Signal.{Signal}
use Rattle.netlist.specs.declared.netlist.Source.{Source}
use Rattle.netlist.specs.declared.netlist.Source.TheVariants as source
use Rattle.operator_wires.specs.Gives.{Grows, Stands}
use Rattle.block_datapath.specs.Types.{value_type}
use Rattle.block_datapath.specs.declared.registers.Held.{Held}
use Rattle.block_datapath.specs.declared.registers.Registers.{Registers}
use Rattle.netlist.specs.declared.netlist.Module.{Module}
use Rattle.verilog_meaning.specs.Readings.{Reading, width}
use Rattle.thread_slots.specs.Naming.{IsNamedAt, AreNamed}

-- a signal of this width stands at a place, driven so
pub record StandsAt (signals : List Signal) (place w : ℕ) (driver : Source) : Type 0 where
  pub signal : Signal
  pub listed : slice_get signals place ≡ Some signal
  pub wide : signal.width ≡ w
  pub drives : signal.source ≡ driver

-- ---- one behind the other

pub record LaysRegister (old new : List Signal) (w initial : ℕ) (h : Held) : Type 0 where
  pub width : h.width ≡ w
  pub stands : Stands old new w (source.Register initial) h.register

-- signals of these widths, each driven so, stand one behind the other from a place on
abbrev pub StandFrom : Source → List Signal → ℕ → List ℕ → List Held → ℕ → Type 0
StandFrom driver signals from widths registers n =
    (k w : ℕ) → k < n → slice_get widths k ≡ Some w → (h : Held) × (slice_get registers k ≡ Some h) × (h.width ≡ w) × (h.register ≡ from + k) × StandsAt signals (from + k) w driver

-- a signal for each of the first n widths
pub record LaysAll (driver : Source) (old new : List Signal) (widths : List ℕ) (n : ℕ) (registers : List Held) : Type 0 where
  pub grows : Grows old new
  pub long : length new ≡ length old + n
  pub count : length registers ≡ n
  pub each : StandFrom driver new (length old) widths registers n

-- the register of a number that a width has room for
pub record IsHeldAt (signals : List Signal) (h : Held) (place initial : ℕ) : Type 0 where
  pub register : h.register ≡ place
  pub stands : StandsAt signals place h.width (source.Register initial)

-- THE SLOT: the stage, which begins with a first one, the state, the beat, the variables, the registers for values
pub record LaysSlot (code : ThreadCode) (plan : Planned) (first : ℕ) (kept_widths : List ℕ) (words : List Held) (spreads : List Spread) (old new : List Signal)
    (registers : Registers) :
    Type 0 where
  pub grows : Grows old new
  pub stage : IsHeldAt new registers.stage (length old) first
  pub state : IsHeldAt new registers.state (length old + 1) 0
  pub beat : registers.beat ≡ length old + 2
  pub beat_stands : StandsAt new (length old + 2) 1 (source.Register 0)
  pub beat_named : IsNamedAt new (length old + 2) (codes "beat")
  pub variables_count : length registers.variables ≡ length code.variables
  pub variables : StandFrom (source.Register 0) new (length old + 3) (map width_of code.variables) registers.variables (length code.variables)
  -- called after the locals of C
  pub variables_named : AreNamed new (length old + 3) (map string_bytes code.names) (length code.variables)
  pub kept_count : length registers.kept ≡ length kept_widths
  pub kept : StandFrom (source.Register 0) new (length old + 3 + length code.variables) kept_widths registers.kept (length kept_widths)
  pub words_are : registers.words ≡ words
  pub spreads_are : registers.spreads ≡ spreads
  -- the stage and the state have room for all that there are, and for a meeting of each stage
  pub stage_room : length code.stages + length code.stages < 2 ^ registers.stage.width
  pub state_room : (l : ℕ) (p : BlockPlan) → slice_get plan.stages l ≡ Some (planned.Run p) → p.states ≤ 2 ^ registers.state.width
  pub states_fit : (l : ℕ) (p : BlockPlan) → slice_get plan.stages l ≡ Some (planned.Run p) → p.states < 2 ^ 64

-- ---- widths of registers for values

-- register x, if there is one, has so many bits
abbrev pub HasRoomAt : List ℕ → ℕ → ℕ → Type 0
HasRoomAt widths x w = x < length widths → (v : ℕ) × (slice_get widths x ≡ Some v) × (w ≤ v)

-- no width is less than before
pub record Widens (before after : List ℕ) : Type 0 where
  pub count : length after ≡ length before
  pub more : (x w : ℕ) → HasRoomAt before x w → HasRoomAt after x w

module _ (globals : List IntegerType) (code : ThreadCode) where
  -- registers have room for the values of the first n operations
  pub record KeepsOperations (b : Block) (p : BlockPlan) (before after : List ℕ) (n : ℕ) : Type 0 where
    pub widens : Widens before after
    pub room : (k x : ℕ) (o : Operation) → k < n → slice_get b.operations k ≡ Some o → register_at p.registers k ≡ Some x → HasRoomAt after x (width_of (value_type globals code o))

  -- the same of a stage, where it is a block with a plan of one
  pub record WidensStage (s : Stage) (plan : Option StagePlan) (before after : List ℕ) : Type 0 where
    pub widens : Widens before after
    pub room : (b : Block) (p : BlockPlan) (k x : ℕ) (o : Operation) → s ≡ stage.Run b → plan ≡ Some (planned.Run p) → slice_get b.operations k ≡ Some o →
        register_at p.registers k ≡ Some x →
        HasRoomAt after x (width_of (value_type globals code o))

  -- the same of the first n stages
  pub record AreKeptWidths (plan : Planned) (n : ℕ) (widths : List ℕ) : Type 0 where
    pub count : length widths ≡ plan.registers
    pub room : (l : ℕ) (b : Block) (p : BlockPlan) (k x : ℕ) (o : Operation) → l < n → slice_get code.stages l ≡ Some (stage.Run b) →
        slice_get plan.stages l ≡ Some (planned.Run p) →
        slice_get b.operations k ≡ Some o → register_at p.registers k ≡ Some x → HasRoomAt widths x (width_of (value_type globals code o))

-- ---- one stage

-- the register of the stage is as wide as it says, and has room for each stage, the end, and a meeting of each stage
pub record KnowsStage (code : ThreadCode) (registers : Registers) (m : Module) (r : Reading) : Type 0 where
  pub wide : width m registers.stage.register ≡ registers.stage.width
  pub room : length code.stages + length code.stages < 2 ^ registers.stage.width
  pub fits : r.signal registers.stage.register < 2 ^ registers.stage.width
