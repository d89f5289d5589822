-- The parts of the inside of a thread's module, in the order in which they are laid.
use Rattle.std.specs.Prelude.{◌≡◌, ℕ, ◌+◌, Bool, if◌then◌else◌, List, [], length, map, replicate}
use Rattle.hls_ints.specs.Types.{IntegerType, width_of}
use Rattle.block_ir.specs.declared.code.ThreadCode.{ThreadCode}
use Rattle.block_ir.specs.declared.plan.Planned.{Planned}
use Rattle.netlist.specs.declared.netlist.Source.TheVariants.{Input, Register}
use Rattle.netlist.specs.declared.netlist.Signal.{Signal}
use Rattle.operator_wires.specs.Built.{Base, IsEarlier}
use Rattle.block_datapath.specs.declared.registers.Held.{Held}
use Rattle.block_datapath.specs.declared.registers.Registers.{Registers}
use Rattle.block_datapath.specs.Wired.{CanRead}
use Rattle.unit_datapath.specs.Units.{LaysAll as LaysUnits}
use Rattle.thread_slots.specs.declared.shape.Shape.{Shape}
use Rattle.thread_slots.specs.declared.chains.Chains.{Chains}
use Rattle.thread_slots.specs.declared.told.Told.{Told}
use Rattle.thread_slots.specs.Hearing.{HearsWords, AddsHeard}
use Rattle.thread_slots.specs.Inputs.{LaysInputs}
use Rattle.thread_slots.specs.Links.{Begins, WaitsAt}
use Rattle.thread_slots.specs.Slots.{LaysAll, LaysSlot, AreKeptWidths}
use Rattle.thread_slots.specs.Wired.{Behind, AreFit, IsInnerInput, IsSlotRegister, AreSlots, AreLinked, KeepsLinks}
use Rattle.thread_requests.specs.declared.early.Early.{Early}
use Rattle.thread_requests.specs.Early.{spread_out}
use Rattle.thread_states.specs.Cells.{StoresFirst}
use Rattle.thread_states.specs.Stages.{WalksAll}
use Rattle.thread_states.specs.Stores.{StagesKeepStores}
use Rattle.thread_slots.specs.Services.{services, news_widths}
use Rattle.thread_layout.specs.declared.layout.Ports.{Ports}
use Rattle.thread_layout.specs.declared.layout.Ground.{Ground}
use Rattle.thread_layout.specs.declared.layout.Inside.{Inside}
use Rattle.thread_layout.specs.declared.layout.Walked.{Walked}
use Rattle.thread_layout.specs.Modules.{worded}

-- the inside of these parts
abbrev pub inside_of : Ground → Early → List Held → Walked → Inside
inside_of ground early news walked = record {
  inputs = ground.inputs;
  news = news;
  slot = ground.slot;
  granted = ground.granted;
  early = early;
  chains = walked.chains;
  stores = walked.stores;
}

-- the registers of the slot, which read these words and have no units yet
pub record LaysSlotOf (shape : Shape) (code : ThreadCode) (plan : Planned) (words : List Held) (old new : List Signal) (registers : Registers) : Type 0 where
  pub kept_widths : List ℕ
  pub kept : AreKeptWidths shape.globals code plan (length code.stages) kept_widths
  pub slot : LaysSlot code plan (if shape.is_main then 0 else length code.stages) kept_widths words shape.spreads old new registers
  pub long : length new ≡ length old + 3 + length code.variables + length kept_widths
  pub behind : Behind (IsSlotRegister (length old)) old new
  pub units : registers.units ≡ []

-- the inputs
pub record LaysPorts (shape : Shape) (old new : List Signal) (ports : Ports) : Type 0 where
  pub with_grants : List Signal
  pub with_words : List Signal
  pub inputs : LaysInputs (length (spread_out shape.spreads (map width_of shape.globals)) + length (services shape.served)) old with_grants ports.inputs
  pub inputs_behind : length old ≡ 0 → Behind IsInnerInput old with_grants
  pub told : LaysAll Input with_grants with_words (spread_out shape.spreads (map width_of shape.globals))
      (length (spread_out shape.spreads (map width_of shape.globals))) ports.words
  pub told_behind : AreFit (spread_out shape.spreads (map width_of shape.globals)) → Behind IsInnerInput with_grants with_words
  pub news : LaysAll Input with_words new (news_widths shape.served) (length (news_widths shape.served)) ports.news
  pub news_behind : Behind IsInnerInput with_words new

-- inputs and registers
pub record LaysGround (shape : Shape) (code : ThreadCode) (plan : Planned) (old new : List Signal) (ground : Ground) : Type 0 where
  pub with_inputs : List Signal
  pub with_registers : List Signal
  pub ports : Ports
  pub lays : LaysPorts shape old with_inputs ports
  pub inputs_are : ground.inputs ≡ ports.inputs
  pub news_are : ground.news ≡ ports.news
  pub slot : LaysSlotOf shape code plan ports.words with_inputs with_registers ground.slot
  pub granted : LaysAll (Register 0) with_registers new (replicate (length shape.globals) 1) (length shape.globals) ground.granted
  pub granted_behind : (inputs : ℕ) → Behind (IsSlotRegister inputs) with_registers new

-- what is heard takes the place of the words, so are the news, and the units are there
pub record LaysHeard (code : ThreadCode) (plan : Planned) (need : ℕ) (told : List Held) (old new : List Signal) (before after : Registers) (news : List Held) : Type 0 where
  pub with_words_heard : List Signal
  pub with_heard : List Signal
  pub same : after ≡ worded before after.words after.units
  pub hears : HearsWords old with_words_heard need before.words (length before.words) after.words
  pub wired : AddsHeard old with_words_heard need before.words after.words
  pub hears_news : HearsWords with_words_heard with_heard need told (length told) news
  pub news_wired : AddsHeard with_words_heard with_heard need told news
  pub units : LaysUnits code before plan with_heard new after.units

-- the wires of all stages and of the rest, and the last link: where a core is asked that is not there the thread waits
pub record LaysWalk (globals : List IntegerType) (main : Bool) (code : ThreadCode) (registers : Registers) (plan : Planned) (told : Told) (lost : ℕ) (old new : List Signal)
    (walked : Walked) : Type 0 where
  pub with_start : List Signal
  pub with_rest : List Signal
  pub start : Chains
  pub rested : Chains
  pub begins : Begins old with_start registers start
  pub begins_wired : (base : Base) (own : ThreadCode) → AreSlots base old own registers → CanRead base own registers
      → KeepsLinks base old with_start own registers start
  pub walks : WalksAll globals code registers told main plan with_start with_rest start rested
  pub waits : WaitsAt with_rest new rested walked.chains lost
  pub waits_wired : (base : Base) (own : ThreadCode) (slots : Registers) → AreLinked base with_rest own slots rested → IsEarlier with_rest base lost 1
      → KeepsLinks base with_rest new own slots walked.chains
  pub stores : StoresFirst globals code registers plan with_start new [] walked.stores (length code.stages)
  pub keeps : StagesKeepStores code registers plan told.barred (length code.stages) with_start new start [] walked.stores
