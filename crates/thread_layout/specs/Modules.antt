-- A thread's module as its parts: ports, registers, what is asked, the wires of its stages, when a state is left, and what an edge does.
use Rattle.std.specs.Prelude.{◌≡◌, ℕ, false, ◌+◌, ◌^◌, ◌≤◌, if◌then◌else◌, List, [], length, map, replicate, ℤ}
use Rattle.hls_ints.specs.Types.{IntegerType, width_of}
use Rattle.block_ir.specs.declared.block.Block.{Block}
use Rattle.block_ir.specs.declared.code.ThreadCode.{ThreadCode}
use Rattle.block_ir.specs.declared.plan.BlockPlan.{BlockPlan}
use Rattle.block_ir.specs.declared.plan.Planned.{Planned}
use Rattle.netlist.specs.declared.netlist.Source.TheVariants.{Input, Register}
use Rattle.netlist.specs.declared.netlist.Signal.{Signal}
use Rattle.netlist.specs.declared.netlist.Module.{Module}
use Rattle.planned_block.specs.Slot.{Slot}
use Rattle.verilog_meaning.specs.Readings.{Reading}
use Rattle.circuit.specs.Modules.{Obeys}
use Rattle.operator_wires.specs.Gives.{Grows}
use Rattle.operator_wires.specs.Built.{AreWires}
use Rattle.block_datapath.specs.declared.registers.Held.{Held}
use Rattle.block_datapath.specs.declared.registers.UnitResults.{UnitResults}
use Rattle.block_datapath.specs.declared.registers.Registers.{Registers}
use Rattle.block_datapath.specs.Units.{HasUnits}
use Rattle.unit_datapath.specs.Units.{IsInCode, LaysAll as LaysUnits}
use Rattle.thread_slots.specs.declared.shape.Shape.{Shape}
use Rattle.thread_slots.specs.Services.{services, news_widths}
use Rattle.thread_asks.specs.declared.asking.Caller.{Caller}
use Rattle.thread_slots.specs.declared.chains.Chains.{Chains}
use Rattle.thread_slots.specs.declared.told.Told.{Told}
use Rattle.thread_states.specs.declared.control.Edge.{Edge}
use Rattle.thread_layout.specs.declared.layout.Inside.{Inside}
use Rattle.thread_slots.specs.Links.{Begins, WaitsAt}
use Rattle.thread_states.specs.Acts.{IsTypedArgument}
use Rattle.thread_states.specs.Stages.{WalksAll}
use Rattle.thread_slots.specs.Slots.{LaysAll, LaysSlot, AreKeptWidths}
use Rattle.thread_slots.specs.Inputs.{LaysInputs}
use Rattle.thread_states.specs.Control.{Controls}
use Rattle.thread_requests.specs.Early.{LaysEarly, AreEarly, spread_out}
use Rattle.thread_slots.specs.Hearing.{HearsWords}
use Rattle.thread_requests.specs.Outputs.{LaysOutputs}
use Rattle.thread_states.specs.Actions.{actions_of}
use Rattle.thread_layout.specs.Memories.{memories_from, base_behind, control_base}
use Rattle.thread_slots.specs.Stores.{AreRightStores}
use Rattle.thread_states.specs.Cells.{StoresFirst}
use Rattle.thread_layout.specs.Telling.{LaysTold}
use Rattle.thread_layout.specs.Thread.{AreRightSpreads}
use Rattle.thread_slots.specs.Wired.{Behind, IsInnerInput, IsSlotRegister, IsNamedOutput, AreLinked, StandAll}
use Rattle.thread_states.specs.Wired.{IsSteered, WiresControl}

-- who asks
abbrev pub caller_of : Shape → Caller
caller_of shape = record { is_main = shape.is_main; served = shape.served }

abbrev pub marks_of : Inside → List ℕ
marks_of inside = map (λ (h : Held). h.register) inside.granted

-- registers, with what is heard in place of the inputs on which banks tell words, and with units
abbrev pub worded : Registers → List Held → List UnitResults → Registers
worded registers words units = record registers { words = words; units = units }

-- THE UNITS show what their operations give, in each reading of a state of a block that is right
abbrev pub ShareUnits : ThreadCode → Registers → Planned → List Signal → Type 0
ShareUnits code registers plan signals =
    (globals : List IntegerType) (m : Module) (r : Reading) (q : Slot) (b : Block) (p : BlockPlan) (wire : ℕ → ℤ) → Grows signals m.signals → Obeys m r →
    IsInCode code registers plan globals m r q b p → HasUnits registers.units b p m r q wire

-- the inside stands in order: inputs, registers, wires of what is asked, which read registers alone, wires of what is heard, which read the words of
-- banks, wires of units, which read registers, and wires of the stages, which read registers, what is heard, and units
pub record IsWiredInside (code : ThreadCode) (plan : Planned) (shape : Shape) (with_ports with_inputs with_slot with_early with_heard new : List Signal)
    (inside : Inside) : Type 0 where
  pub inputs : Behind IsInnerInput [] with_inputs
  pub registers : Behind (IsSlotRegister (length with_inputs)) with_inputs with_slot
  pub bits : List Held
  pub wide : List Held
  pub own : List Held
  pub asking : Registers
  pub spreads : asking.spreads ≡ inside.slot.spreads
  pub early : AreEarly (base_behind (length with_inputs) code) with_slot with_early inside.early code asking shape.served shape.globals bits wide own
  pub heard : AreWires (base_behind (length with_ports) code) with_early with_heard
  pub news : StandAll (base_behind (length with_inputs) code) with_heard inside.news
  pub wires : AreWires (base_behind (length with_inputs) code) with_heard new
  pub linked : AreLinked (base_behind (length with_inputs) code) new code inside.slot inside.chains
  pub stores : AreRightStores (base_behind (length with_inputs) code) new inside.stores
  pub shares : ShareUnits code inside.slot plan new

-- inputs, then registers, then the wires of what is asked, of what is heard, of units, and of all stages
pub record LaysInside (shape : Shape) (code : ThreadCode) (plan : Planned) (old new : List Signal) (inside : Inside) : Type 0 where
  pub with_ports : List Signal
  pub with_words : List Signal
  pub with_inputs : List Signal
  pub with_registers : List Signal
  pub with_slot : List Signal
  pub with_early : List Signal
  pub with_words_heard : List Signal
  pub with_heard : List Signal
  pub with_units : List Signal
  pub with_told : List Signal
  pub with_start : List Signal
  pub with_rest : List Signal
  pub kept_widths : List ℕ
  pub told : List Held
  pub asking : Registers
  pub acts : Told
  pub start : Chains
  pub rested : Chains
  pub news : List Held
  pub inputs : LaysInputs (length (spread_out shape.spreads (map width_of shape.globals)) + length (services shape.served)) old with_ports inside.inputs
  pub words : LaysAll Input with_ports with_words (spread_out shape.spreads (map width_of shape.globals))
      (length (spread_out shape.spreads (map width_of shape.globals))) told
  pub news_stand : LaysAll Input with_words with_inputs (news_widths shape.served) (length (news_widths shape.served)) news
  pub kept : AreKeptWidths shape.globals code plan (length code.stages) kept_widths
  pub slot : LaysSlot code plan (if shape.is_main then 0 else length code.stages) kept_widths inside.slot.words shape.spreads with_inputs with_registers inside.slot
  pub registers_long : length with_registers ≡ length with_inputs + 3 + length code.variables + length kept_widths
  pub granted : LaysAll (Register 0) with_registers with_slot (replicate (length shape.globals) 1) (length shape.globals) inside.granted
  pub early : LaysEarly shape.globals code inside.slot (marks_of inside) (caller_of shape) plan with_slot with_early inside.early
  pub hears : HearsWords with_early with_words_heard inside.early.need told (length told) inside.slot.words
  pub hears_news : HearsWords with_words_heard with_heard inside.early.need news (length news) inside.news
  pub units : LaysUnits code asking plan with_heard with_units inside.slot.units
  pub tells : LaysTold shape.served inside.early.barriers inside.news with_units with_told acts
  pub begins : Begins with_told with_start inside.slot start
  pub walks : WalksAll shape.globals code inside.slot acts shape.is_main plan with_start with_rest start rested
  pub waits : WaitsAt with_rest new rested inside.chains inside.early.lost
  pub stores : StoresFirst shape.globals code inside.slot plan with_start new [] inside.stores (length code.stages)
  pub wired : 1 ≤ shape.served.printer.site_width → shape.served.printer.site_width ≤ 64 → AreRightSpreads shape.globals shape.spreads → old ≡ []
      → (shape.is_main ≡ false → IsTypedArgument code.argument code.variables)
      → IsWiredInside code plan shape with_ports with_inputs with_slot with_early with_heard new inside

-- then when a state is left, and the outputs
pub record Closes (shape : Shape) (inside : Inside) (old new : List Signal) (edge : Edge) : Type 0 where
  pub with_control : List Signal
  pub controls : Controls old with_control inside.slot inside.inputs inside.chains inside.early.opens (marks_of inside) edge
  pub outputs : LaysOutputs shape.served with_control new inside.slot.words edge.asks inside.early.requests inside.early.need inside.early.done
  pub wired : IsSteered control_base old inside.slot inside.inputs inside.chains inside.early.opens (marks_of inside)
      → WiresControl control_base old with_control inside.slot inside.inputs inside.early.opens (marks_of inside) edge
  pub named : Behind (IsNamedOutput (length new)) with_control new
  pub few : length new ≤ 2 ^ 64

-- THE MODULE, by its parts
pub record IsModule (shape : Shape) (code : ThreadCode) (plan : Planned) (m : Module) : Type 0 where
  pub inside : Inside
  pub edge : Edge
  pub with_inside : List Signal
  pub laid : LaysInside shape code plan [] with_inside inside
  pub closed : Closes shape inside with_inside m.signals edge
  pub actions : m.actions ≡ actions_of inside.slot inside.chains inside.granted inside.stores edge
  pub alone : m.instances ≡ []
  pub memories : m.memories ≡ memories_from 0 code.arrays
  pub few_memories : length code.arrays ≤ 2 ^ 64
  pub named : m.name ≡ shape.name
