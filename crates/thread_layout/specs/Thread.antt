-- Where what stands in the module of a thread, and the codes that it serves.
use Rattle.std.specs.Prelude.{◌≡◌, ℕ, ◌+◌, ◌<◌, ◌≤◌, ◌^◌, Bool, false, nat_eq, List, [], ◌∷◌, ◌++◌, length, map, replicate, take, Option, Some, None, slice_get}
use Rattle.hls_ints.specs.Types.{IntegerType, width_of}
use Rattle.bank_partition.specs.declared.banks.Spread.{Spread}
use Rattle.block_ir.specs.declared.block.Operation.{Operation}
use Rattle.block_ir.specs.declared.block.Block.{Block}
use Rattle.block_ir.specs.declared.code.ActOperand.{ActOperand}
use Rattle.block_ir.specs.declared.code.Array.{Array}
use Rattle.block_ir.specs.declared.code.Act.{Act}
use Rattle.block_ir.specs.declared.code.Act.TheVariants.{Print, Return}
use Rattle.block_ir.specs.declared.code.Stage.TheVariants as stage
use Rattle.block_ir.specs.declared.code.ThreadCode.{ThreadCode}
use Rattle.block_ir.specs.declared.plan.BlockPlan.{BlockPlan}
use Rattle.block_ir.specs.declared.plan.StagePlan.TheVariants as planned
use Rattle.block_ir.specs.declared.plan.Planned.{Planned}
use Rattle.plan_blocks.specs.View.{register_at}
use Rattle.netlist.specs.declared.netlist.Module.{Module}
use Rattle.thread_promise.specs.Slots.{Places}
use Rattle.thread_promise.specs.Globals.{IsSmallPower, bank_total}
use Rattle.block_ir.specs.Asked.{Numbers, Request as Call, request_of}
use Rattle.block_ir.specs.declared.service.Service.{Service}
use Rattle.block_ir.specs.declared.service.Service.TheVariants.{Mutex, Barrier, ThreadIds, Printer}
use Rattle.thread_slots.specs.declared.shape.PrinterPort.{PrinterPort}
use Rattle.thread_slots.specs.declared.shape.Served.{Served}
use Rattle.thread_slots.specs.Services.{services, numbers_with, core_count, news_widths, number_width, value_count}
use Rattle.thread_slots.specs.declared.shape.Shape.{Shape}
use Rattle.circuit.specs.Interfaces.{first_of}
use Rattle.leaf_machine.specs.Ports.{CorePort, asks_of, ask_place, thread_outputs}
use Rattle.thread_requests.specs.Early.{spread_out}
use Rattle.thread_asks.specs.Fields.{IsTypedActOperand}
use Rattle.thread_states.specs.Acts.{IsTypedArgument}

-- ---- where what stands

-- how many cores of each kind there are, and how many in all
abbrev pub numbers_of : Shape → Numbers
numbers_of shape = numbers_with (bank_total shape.spreads) shape.served

abbrev pub cores_of : Shape → ℕ
cores_of shape = core_count (bank_total shape.spreads) shape.served

-- how many inputs there are: the clock, the enable, a grant of each core, the word of each bank, and what the cores tell that acts ask
abbrev pub inputs_of : Shape → ℕ
inputs_of shape = 2 + cores_of shape + (bank_total shape.spreads + length (news_widths shape.served))

-- behind the inputs the registers: of the slot, of the variables, of values, and a bit for each global
abbrev pub places_of : ℕ → ThreadCode → Planned → Places
places_of inputs code plan = record {
  stage = inputs;
  state = inputs + 1;
  beat = inputs + 2;
  variable = λ x. inputs + 3 + x;
  kept = λ x. inputs + 3 + length code.variables + x;
  granted = λ x. inputs + 3 + length code.variables + plan.registers + x;
}

-- core k is the one that is asked
abbrev pub is_core : Option ℕ → ℕ → Bool
is_core None k = false
is_core (Some n) k = nat_eq k n

-- ---- ports

abbrev pub bank_port : ℕ → CorePort
bank_port w = record { asks = 1 ∷ 1 ∷ 64 ∷ w ∷ []; told = w ∷ [] }

-- what a core tells that acts ask
abbrev pub told_by : Service → List ℕ
told_by Mutex = []
told_by Barrier = 1 ∷ []
told_by ThreadIds = 1 ∷ 64 ∷ []
told_by Printer = []

abbrev pub act_port : Served → Service → CorePort
act_port served s = record { asks = 1 ∷ number_width served s ∷ replicate (value_count served s) 64; told = told_by s }

-- THE CORES that a thread asks: the banks of the globals, in order, and behind them those that acts ask
abbrev pub core_ports : Shape → List CorePort
core_ports shape = map bank_port (spread_out shape.spreads (map width_of shape.globals)) ++ map (act_port shape.served) (services shape.served)

-- the outputs stand last: what each core is asked, whether one is needed, and whether the thread is at its end
abbrev pub first_output : Shape → Module → ℕ
first_output shape m = first_of m (thread_outputs (core_ports shape))

-- where core k is asked number j
abbrev pub port_at : Shape → Module → ℕ → ℕ → ℕ
port_at shape m k j = first_output shape m + (ask_place (core_ports shape) k + j)

abbrev pub need_at : Shape → Module → ℕ
need_at shape m = first_output shape m + length (asks_of (core_ports shape))

abbrev pub done_at : Shape → Module → ℕ
done_at shape m = first_output shape m + (length (asks_of (core_ports shape)) + 1)

-- ---- codes that are spoken of

-- a printf that the printer can print
pub record IsPrintable (printer : PrinterPort) (site : ℕ) (values : List ActOperand) : Type 0 where
  pub site_fits : site < 2 ^ printer.site_width
  pub few : length values ≤ printer.values

-- globals have 1, 2, 4 or 8 banks each, one global's behind another's, and at most 2 ^ 63 elements
pub record AreRightSpreads (globals : List IntegerType) (spreads : List Spread) : Type 0 where
  pub count : length spreads ≡ length globals
  pub powers : (x : ℕ) (s : Spread) → slice_get spreads x ≡ Some s → IsSmallPower s.count
  pub short : (x : ℕ) (s : Spread) → slice_get spreads x ≡ Some s → s.length ≤ 2 ^ 63
  pub firsts : (x : ℕ) (s : Spread) → slice_get spreads x ≡ Some s → s.first ≡ bank_total (take x spreads)
  pub within : (x : ℕ) (s : Spread) → slice_get spreads x ≡ Some s → s.first + s.count ≤ bank_total spreads
  pub few : bank_total spreads < 2 ^ 32
  pub apart : (x y k l : ℕ) (s t : Spread) → slice_get spreads x ≡ Some s → slice_get spreads y ≡ Some t → k < s.count → l < t.count → s.first + k ≡ t.first + l → x ≡ y
  pub all : (n : ℕ) → n < bank_total spreads → (x : ℕ) × (s : Spread) × (slice_get spreads x ≡ Some s) × (s.first ≤ n) × (n < s.first + s.count)

-- the code of a thread, planned with enough registers, whose acts lead to stages, and with a printer that can print what it prints; another thread than main
-- has its argument in a variable of 64 bits
pub record IsServed (shape : Shape) (code : ThreadCode) (plan : Planned) : Type 0 where
  pub argument : shape.is_main ≡ false → IsTypedArgument code.argument code.variables
  pub spreads : AreRightSpreads shape.globals shape.spreads
  pub arrays : (a : ℕ) (array : Array) → slice_get code.arrays a ≡ Some array → (1 ≤ array.length) × (array.length < 2 ^ 31)
  pub registers : (l k x : ℕ) (b : Block) (p : BlockPlan) (o : Operation) → slice_get code.stages l ≡ Some (stage.Run b) → slice_get plan.stages l ≡ Some (planned.Run p) →
      slice_get b.operations k ≡ Some o → register_at p.registers k ≡ Some x → x < plan.registers
  pub site_low : 1 ≤ shape.served.printer.site_width
  pub site_high : shape.served.printer.site_width ≤ 64
  pub prints : (l site next : ℕ) (values : List ActOperand) → slice_get code.stages l ≡ Some (stage.Act (Print site values) next) → IsPrintable shape.served.printer site values
  -- acts lead to stages
  pub leads : (l : ℕ) (a : Act) (next : ℕ) → slice_get code.stages l ≡ Some (stage.Act a next) → (a ≡ Return → ⊥) → next ≤ length code.stages
  -- what acts name and hand over is of the types that it says
  pub typed : (l : ℕ) (a : Act) (next : ℕ) (call : Call) → slice_get code.stages l ≡ Some (stage.Act a next) → request_of shape.is_main a ≡ Some call → (j : ℕ) (v : ActOperand) →
      slice_get call.operands j ≡ Some v → IsTypedActOperand code v
