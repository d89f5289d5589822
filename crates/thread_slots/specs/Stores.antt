-- Stores into the memories of a thread's module, where the state is left.
use Rattle.std.specs.Prelude.{◌≡◌, ℕ, ◌≤◌, ◌^◌, List, Some, slice_get}
use Rattle.hls_ints.specs.Types.{IntegerType, width_of}
use Rattle.block_ir.specs.declared.code.Array.{Array}
use Rattle.block_ir.specs.declared.code.ThreadCode.{ThreadCode}
use Rattle.netlist.specs.declared.netlist.Signal.{Signal}
use Rattle.netlist.specs.declared.netlist.Memory.{Memory}
use Rattle.operator_wires.specs.declared.words.Word.{Word}
use Rattle.operator_wires.specs.Built.{Base, IsEarlier, AreWires, StandsAs}
use Rattle.block_datapath.specs.declared.registers.Registers.{Registers}
use Rattle.block_datapath.specs.declared.operands.Given.{Given}
use Rattle.block_datapath.specs.declared.states.Moment.{Moment}
use Rattle.thread_slots.specs.declared.stores.Store.{Store}
use Rattle.thread_slots.specs.Wired.{AreSlots, ValuesStand}

-- into a memory of the base, under a condition of one bit, at an address, of a number as wide as the memory's words
pub record IsRightStore (base : Base) (signals : List Signal) (s : Store) : Type 0 where
  pub memory : Memory
  pub listed : base.memory s.memory ≡ Some memory
  pub condition : IsEarlier signals base s.condition 1
  pub wide : ℕ
  pub address : IsEarlier signals base s.address wide
  pub source : IsEarlier signals base s.source memory.width

abbrev pub AreRightStores : Base → List Signal → List Store → Type 0
AreRightStores base signals stores = (k : ℕ) (s : Store) → slice_get stores k ≡ Some s → IsRightStore base signals s

-- wires are added, and stores, which are right as those before them
pub record KeepsStores (base : Base) (old new : List Signal) (before after : List Store) : Type 0 where
  pub wires : AreWires base old new
  pub right : AreRightStores base old before → AreRightStores base new after

-- STORES ARE ADDED, where a bit tells the stage, of so many states
abbrev pub AddsStores : List Signal → List Signal → ThreadCode → Registers → List Given → ℕ → ℕ → List Store → List Store → Type 0
AddsStores old new code registers values at states before after =
    (base : Base) → AreSlots base old code registers → ValuesStand base old values → IsEarlier old base at 1 → states ≤ 2 ^ registers.state.width
    → KeepsStores base old new before after

-- one store of a word of any type, into a memory as wide as an array's elements
abbrev pub PutsStore : List Signal → List Signal → Registers → ℕ → Array → Word → Word → Moment → List Store → List Store → Type 0
PutsStore old new registers number array index value moment before after =
    (base : Base) (s t : IntegerType) (memory : Memory) → base.memory number ≡ Some memory → memory.width ≡ width_of array.ty
    → IsEarlier old base registers.state.register registers.state.width → IsEarlier old base moment.at 1 → moment.states ≤ 2 ^ registers.state.width → StandsAs old base s index →
    StandsAs old base t value
    → KeepsStores base old new before after
