-- What is asked of cores: the first links, and one more link.
use Rattle.std.specs.Prelude.{◌≡◌, ℕ, suc, ◌≤◌, List, ◌<◌, length, replicate, slice_get, Some}
use Rattle.hls_ints.specs.Types.{IntegerType}
use Rattle.bank_partition.specs.declared.banks.Spread.{Spread}
use Rattle.block_ir.specs.declared.service.Service.{Service}
use Rattle.block_ir.specs.declared.service.Service.TheVariants.{Mutex, Barrier, ThreadIds, Printer}
use Rattle.block_ir.specs.declared.code.ThreadCode.{ThreadCode}
use Rattle.netlist.specs.declared.netlist.Signal.{Signal}
use Rattle.netlist.specs.declared.netlist.Module.{Module}
use Rattle.verilog_meaning.specs.Readings.{width, Reading}
use Rattle.operator_wires.specs.Gives.{Grows}
use Rattle.operator_wires.specs.Built.{Base, IsEarlier, AreWires}
use Rattle.block_datapath.specs.declared.registers.Held.{Held}
use Rattle.block_datapath.specs.declared.registers.Registers.{Registers}
use Rattle.block_datapath.specs.Requests.{AreBankChains, AreAsMany, HaveWidths, asked_at, nothing_asked}
use Rattle.block_datapath.specs.Accesses.{HaveBankWidths}
use Rattle.thread_slots.specs.declared.requests.Request.{Request}
use Rattle.thread_slots.specs.declared.requests.Requests.{Requests}
use Rattle.thread_slots.specs.declared.shape.Served.{Served}
use Rattle.thread_slots.specs.Links.{AddsBit}
use Rattle.thread_slots.specs.Services.{number_width, value_count}
use Rattle.thread_slots.specs.Wired.{AreSlots, LinkFields}
use Rattle.circuit.specs.Modules.{Obeys}

-- what is asked of the cores of a service
abbrev pub group : Requests → Service → Request
group c Mutex = c.mutex
group c Barrier = c.barrier
group c ThreadIds = c.thread_ids
group c Printer = c.printer

-- ---- one more link

-- the bits are one bit wide
abbrev pub IsAskBit : List Signal → Request → Type 0
IsAskBit new q = (m : Module) → Grows new m.signals → width m q.wants ≡ 1

abbrev pub AreAskBits : List Signal → Requests → Type 0
AreAskBits new c = (s : Service) → IsAskBit new (group c s)

-- where a condition holds a core is asked
pub record WantsRequest (old new : List Signal) (before after : Request) (condition : ℕ) : Type 0 where
  pub grows : Grows old new
  pub bit : AddsBit new before.wants after.wants condition
  pub same : after ≡ record before { wants = after.wants }

-- ---- how they are put together

-- a request stands, whose number is so wide
pub record RequestStands (base : Base) (signals : List Signal) (w : ℕ) (q : Request) : Type 0 where
  pub wants : IsEarlier signals base q.wants 1
  pub object : IsEarlier signals base q.object 64
  pub fields : LinkFields base signals w q.fields

-- wires are added, and it stands
pub record KeepsRequest (base : Base) (old new : List Signal) (w : ℕ) (q : Request) : Type 0 where
  pub wires : AreWires base old new
  pub stands : RequestStands base new w q

module _ (base : Base) (code : ThreadCode) (registers : Registers) (served : Served) (globals : List IntegerType) (spreads : List Spread) (bits wide own : List Held) where
  pub record AreAskLinks (signals : List Signal) (c : Requests) : Type 0 where
    pub slots : AreSlots base signals code registers
    pub site_low : 1 ≤ served.printer.site_width
    pub site_high : served.printer.site_width ≤ 64
    pub requests : (s : Service) → RequestStands base signals (number_width served s) (group c s)
    pub banks : AreBankChains signals base bits wide own c.banks
    pub widths : HaveBankWidths globals spreads bits wide own

  pub record KeepsAskLinks (old new : List Signal) (c : Requests) : Type 0 where
    pub wires : AreWires base old new
    pub linked : AreAskLinks new c

-- the bit of a request stands
pub record LinksBit (base : Base) (old new : List Signal) (q : Request) : Type 0 where
  pub wires : AreWires base old new
  pub wants : IsEarlier new base q.wants 1

abbrev pub BitIsLinked : List Signal → List Signal → Request → Request → ℕ → Type 0
BitIsLinked old new before after condition =
    (base : Base) → IsEarlier old base before.wants 1 → IsEarlier old base condition 1 → LinksBit base old new after

-- nothing is asked, by a number of this width and so many values
pub record BeginsRequest (old new : List Signal) (w values : ℕ) (q : Request) : Type 0 where
  pub grows : Grows old new
  pub bit : IsAskBit new q
  pub count : length q.fields ≡ suc values
  pub silent : (m : Module) (r : Reading) → Grows new m.signals → Obeys m r → r.signal q.wants ≡ 0
  pub wired : (base : Base) → base.first ≤ length old → 1 ≤ w → w ≤ 64 → KeepsRequest base old new w q

-- of no core, with words of these widths
pub record BeginsAsking (old new : List Signal) (served : Served) (words : List ℕ) (c : Requests) : Type 0 where
  pub grows : Grows old new
  pub bits : AreAskBits new c
  pub counts : (s : Service) → length (group c s).fields ≡ suc (value_count served s)
  pub many : AreAsMany (length words) c.banks
  pub silent : (s : Service) (m : Module) (r : Reading) → Grows new m.signals → Obeys m r → r.signal (group c s).wants ≡ 0
  pub nothing : (m : Module) (r : Reading) (j : ℕ) → Grows new m.signals → Obeys m r → j < length words → asked_at r c.banks j ≡ nothing_asked

-- and they stand
abbrev pub BeginsLinked : List Signal → List Signal → Served → List ℕ → Requests → Type 0
BeginsLinked old new served words c =
    (base : Base) (code : ThreadCode) (registers : Registers) (globals : List IntegerType) (spreads : List Spread) (bits wide own : List Held) →
    AreSlots base old code registers →
    1 ≤ served.printer.site_width → served.printer.site_width ≤ 64 → ((x w : ℕ) → slice_get words x ≡ Some w → (1 ≤ w) × (w ≤ 64)) →
    HaveWidths bits (replicate (length words) 1) → HaveWidths wide (replicate (length words) 64) → HaveWidths own words → HaveBankWidths globals spreads bits wide own →
    KeepsAskLinks base code registers served globals spreads bits wide own old new c
