-- The output ports: one behind the other, each a copy.
use Rattle.std.specs.Prelude.{ℕ, ◌+◌, nat_eq, if◌then◌else◌, ◌≡◌, ◌<◌, ◌≤◌, ◌^◌, true, false, List, length, Some, slice_get, codes}
use Rattle.hls_ints.specs.Types.{IntegerType, width_of}
use Rattle.block_ir.specs.declared.code.ThreadCode.{ThreadCode}
use Rattle.block_ir.specs.declared.plan.BlockPlan.{BlockPlan}
use Rattle.block_ir.specs.declared.plan.StagePlan.TheVariants as planned
use Rattle.block_ir.specs.declared.plan.Planned.{Planned}
use Rattle.netlist.specs.declared.netlist.Source.TheVariants.{Input, Register}
use Rattle.netlist.specs.declared.netlist.Signal.{Signal}
use Rattle.verilog_meaning.specs.Names.{numbered}
use Rattle.module_sound.specs.Names.{place_of}
use Rattle.operator_wires.specs.Built.{Base, IsEarlier, AreWires, StandsAs}
use Rattle.block_datapath.specs.declared.registers.Held.{Held}
use Rattle.block_datapath.specs.declared.registers.Registers.{Registers}
use Rattle.block_datapath.specs.declared.operands.Given.{Given}
use Rattle.block_datapath.specs.Wired.{AreUnits, HasMemories, CanRead}
use Rattle.thread_slots.specs.declared.chains.Chains.{Chains}

abbrev pub field_width : ℕ → ℕ → ℕ
field_width site_width k = if nat_eq k 0 then site_width else 64

-- P of each signal behind others
abbrev pub Behind : (ℕ → Signal → Type 0) → List Signal → List Signal → Type 0
Behind P old new = (x : ℕ) (s : Signal) → length old ≤ x → slice_get new x ≡ Some s → P x s

-- widths that signals can have
abbrev pub AreFit : List ℕ → Type 0
AreFit widths = (x w : ℕ) → slice_get widths x ≡ Some w → (1 ≤ w) × (w ≤ 64)

-- ---- inputs, registers, outputs

-- the name is no memory's
abbrev pub IsNoMemory : ℕ → Signal → Type 0
IsNoMemory x s = x < 2 ^ 64 → (j : ℕ) → j < 2 ^ 64 → s.name ≡ numbered (codes "array") j → ⊥

-- an input under a name that tells its place
pub record IsInnerInput (x : ℕ) (s : Signal) : Type 0 where
  pub unlike : IsNoMemory x s
  pub named : (n inputs : ℕ) → x < 2 ^ 64 → place_of n inputs s.name ≡ Some x
  pub inner : s.is_output ≡ false
  pub low : 1 ≤ s.width
  pub high : s.width ≤ 64
  pub drives : s.source ≡ Input

-- a register under a name that tells its place behind so many inputs
pub record IsSlotRegister (inputs x : ℕ) (s : Signal) : Type 0 where
  pub unlike : IsNoMemory x s
  pub named : (n : ℕ) → x < 2 ^ 64 → place_of n inputs s.name ≡ Some x
  pub inner : s.is_output ≡ false
  pub low : 1 ≤ s.width
  pub high : s.width ≤ 64
  pub initial : ℕ
  pub drives : s.source ≡ Register initial
  pub fits : initial < 2 ^ s.width

-- an output under a name that tells its place among n signals
pub record IsNamedOutput (n x : ℕ) (s : Signal) : Type 0 where
  pub unlike : IsNoMemory x s
  pub named : (inputs : ℕ) → x < 2 ^ 64 → place_of n inputs s.name ≡ Some x
  pub flag : s.is_output ≡ true

-- ---- registers and chains among signals, on a base

module _ (base : Base) (signals : List Signal) where
  abbrev pub StandAll : List Held → Type 0
  StandAll registers = (x : ℕ) (h : Held) → slice_get registers x ≡ Some h → IsEarlier signals base h.register h.width

  -- links of chains of these registers
  abbrev pub LinkAll : List Held → List ℕ → Type 0
  LinkAll registers links = (x y : ℕ) (h : Held) → slice_get links x ≡ Some y → slice_get registers x ≡ Some h → IsEarlier signals base y h.width

  -- the values of operations stand as words of types
  abbrev pub ValuesStand : List Given → Type 0
  ValuesStand values = (k : ℕ) (g : Given) → slice_get values k ≡ Some g → (ty : IntegerType) × StandsAs signals base ty g.word

  -- links of the fields of a request
  abbrev pub LinkFields : ℕ → List ℕ → Type 0
  LinkFields site_width links = (x y : ℕ) → slice_get links x ≡ Some y → IsEarlier signals base y (field_width site_width x)

  -- the registers stand, as wide as they say
  pub record AreSlots (code : ThreadCode) (registers : Registers) : Type 0 where
    pub stage : IsEarlier signals base registers.stage.register registers.stage.width
    pub state : IsEarlier signals base registers.state.register registers.state.width
    pub beat : IsEarlier signals base registers.beat 1
    pub variables : StandAll registers.variables
    pub kept : StandAll registers.kept
    pub typed : (x : ℕ) (h : Held) (ty : IntegerType) → slice_get registers.variables x ≡ Some h → slice_get code.variables x ≡ Some ty → h.width ≡ width_of ty
    pub count : length registers.variables ≡ length code.variables
    pub room : length code.stages + length code.stages < 2 ^ registers.stage.width
    pub arrays : HasMemories base code
    -- and inputs of banks, where they may be read
    pub words : (n : ℕ) (h : Held) → slice_get registers.words n ≡ Some h → base.first ≤ h.register → IsEarlier signals base h.register h.width
    pub units : AreUnits signals base registers.units

  -- and chains of them
  pub record AreLinked (code : ThreadCode) (registers : Registers) (c : Chains) : Type 0 where
    pub slots : AreSlots code registers
    pub reads : CanRead base code registers
    pub stage : IsEarlier signals base c.stage registers.stage.width
    pub variables : LinkAll registers.variables c.variables
    pub kept : LinkAll registers.kept c.kept
    pub variables_count : length c.variables ≡ length registers.variables
    pub kept_count : length c.kept ≡ length registers.kept
    pub is_last : IsEarlier signals base c.is_last 1
    pub waits : IsEarlier signals base c.waits 1

-- WIRES ARE ADDED, and the chains are of these registers still
module _ (base : Base) (old new : List Signal) where
  pub record KeepsLinks (code : ThreadCode) (registers : Registers) (c : Chains) : Type 0 where
    pub wires : AreWires base old new
    pub linked : AreLinked base new code registers c

  pub record KeepsFields (site_width : ℕ) (fields : List ℕ) : Type 0 where
    pub wires : AreWires base old new
    pub linked : LinkFields base new site_width fields

-- ---- control

-- each state of a plan has a number in its register
abbrev pub FitStates : Registers → Planned → Type 0
FitStates registers plan = (k : ℕ) (p : BlockPlan) → slice_get plan.stages k ≡ Some (planned.Run p) → p.states ≤ 2 ^ registers.state.width
