-- What a thread asks of cores in a state: of all stages, and which requests have not been granted.
use Rattle.std.specs.Prelude.{◌≡◌, ℕ, ◌+◌, ◌-◌, ◌<◌, ◌≤◌, ◌^◌, Bool, true, not, ◌&&◌, ◌||◌, nat_eq, nat_lt, if◌then◌else◌, List, [], ◌∷◌, ◌++◌, length, map, take, replicate}
use Rattle.std.specs.Prelude.{slice_get, Option, Some, None}
use Rattle.hls_ints.specs.Types.{IntegerType, width_of}
use Rattle.bank_partition.specs.declared.banks.Spread.{Spread}
use Rattle.block_ir.specs.declared.code.ThreadCode.{ThreadCode}
use Rattle.block_ir.specs.declared.plan.Planned.{Planned}
use Rattle.netlist.specs.declared.netlist.Signal.{Signal}
use Rattle.operator_wires.specs.Gives.{Grows}
use Rattle.operator_wires.specs.Built.{Base, IsEarlier, AreWires, Adds}
use Rattle.block_datapath.specs.declared.registers.Held.{Held}
use Rattle.block_datapath.specs.declared.registers.Registers.{Registers}
use Rattle.block_datapath.specs.Globals.{bank_total}
use Rattle.block_datapath.specs.declared.requests.BankRequests.{BankRequests}
use Rattle.block_datapath.specs.Requests.{HaveWidths}
use Rattle.block_datapath.specs.Accesses.{HaveBankWidths}
use Rattle.hls_ints.specs.Residues.{bit_of}
use Rattle.block_ir.specs.declared.service.Service.{Service}
use Rattle.block_ir.specs.declared.service.Service.TheVariants.{Mutex, Barrier, ThreadIds, Printer}
use Rattle.netlist.specs.declared.netlist.Module.{Module}
use Rattle.verilog_meaning.specs.Readings.{Reading, width}
use Rattle.circuit.specs.Modules.{Obeys}
use Rattle.planned_block.specs.Advance.{any_below}
use Rattle.thread_slots.specs.declared.shape.Served.{Served}
use Rattle.thread_slots.specs.declared.requests.Request.{Request}
use Rattle.thread_slots.specs.declared.requests.Requests.{Requests}
use Rattle.thread_asks.specs.declared.asking.Caller.{Caller}
use Rattle.thread_requests.specs.Banks.{AreOneEach, SpreadsRequests}
use Rattle.thread_requests.specs.declared.early.Acts.{Acts}
use Rattle.thread_requests.specs.declared.early.Objects.{Objects}
use Rattle.thread_requests.specs.declared.early.Early.{Early}
use Rattle.thread_asks.specs.Met.{NamesMet, AllNamed}
use Rattle.thread_asks.specs.Asking.{AsksAll}
use Rattle.thread_slots.specs.Requests.{group, AreAskLinks, BeginsAsking, KeepsAskLinks}
use Rattle.thread_requests.specs.Needing.{NeedsMore, FitStages, IsNeedOfFirst}
use Rattle.thread_slots.specs.Bits.{HasBit, HaveBits, NotOf, BothOf, WithOf, NumberOf, MakesBits, MakesAny, AreBitsOf, AddsNots, AddsBoths, AddsWiths, AddsNumbers}
use Rattle.thread_slots.specs.Wired.{AreSlots, FitStates}

abbrev pub held_width : Held → ℕ
held_width h = h.width

abbrev pub copies_of : ℕ → Option ℕ → List ℕ
copies_of n None = []
copies_of n (Some v) = replicate n v

-- for each bank what its global has
abbrev pub spread_out : List Spread → List ℕ → List ℕ
spread_out [] values = []
spread_out (s ∷ spreads) [] = []
spread_out (s ∷ spreads) (v ∷ values) = replicate s.count v ++ spread_out spreads values

-- what is wanted: of banks, and of those that acts ask, kind by kind
abbrev pub wants_of : Requests → List ℕ
wants_of c = c.banks.wants ++ c.mutex.wants ∷ c.barrier.wants ∷ c.thread_ids.wants ∷ c.printer.wants ∷ []

-- the first links of this code stand
abbrev pub BeginsLinkedOf : ThreadCode → Registers → Served → List ℕ → List Signal → List Signal → Requests → Type 0
BeginsLinkedOf code registers served words old new c =
    (base : Base) (globals : List IntegerType) (spreads : List Spread) (bits wide own : List Held) → AreSlots base old code registers →
    1 ≤ served.printer.site_width → served.printer.site_width ≤ 64 → ((x w : ℕ) → slice_get words x ≡ Some w → (1 ≤ w) × (w ≤ 64)) →
    HaveWidths bits (replicate (length words) 1) → HaveWidths wide (replicate (length words) 64) → HaveWidths own words → HaveBankWidths globals spreads bits wide own →
    KeepsAskLinks base code registers served globals spreads bits wide own old new c

-- nobody is asked: requests with words as wide as these
pub record BeginsRequests (code : ThreadCode) (registers : Registers) (served : Served) (words : List ℕ) (old new : List Signal) (c : Requests) : Type 0 where
  pub with_begin : List Signal
  pub begins : BeginsAsking old new served words c
  pub met : NamesMet code registers (length code.stages) with_begin new c.barrier.object
  pub wired : BeginsLinkedOf code registers served words old new c

-- ---- what all stages ask

-- the same is asked of those that acts ask, and this of banks
abbrev pub with_banks : Requests → BankRequests → Requests
with_banks c banks = record c { banks = banks }

-- links are laid for globals, each as if it stood in one bank, and spread to the banks behind them
pub record AsksGlobals (globals : List IntegerType) (code : ThreadCode) (registers : Registers) (caller : Caller) (plan : Planned) (old new : List Signal) (c : Requests)
    (done : ℕ) : Type 0 where
  pub start : Requests
  pub with_start : List Signal
  pub whole : BankRequests
  pub with_whole : List Signal
  pub one_each : List Spread
  pub are_one_each : AreOneEach (length globals) one_each
  pub begins : BeginsAsking old with_start caller.served (map width_of globals) start
  pub met : AllNamed code registers (length code.stages) with_start start.barrier.object
  pub asks : AsksAll globals one_each code registers caller plan with_start with_whole start (with_banks c whole) done
  pub spreads : SpreadsRequests registers.spreads with_whole new whole c.banks

-- the banks of each global stand behind those before it, and there is an input for each bank
pub record FitSpreads (globals : List IntegerType) (registers : Registers) : Type 0 where
  pub count : length registers.spreads ≡ length globals
  pub firsts : (x : ℕ) (s : Spread) → slice_get registers.spreads x ≡ Some s → s.first ≡ bank_total (take x registers.spreads)
  pub words : length registers.words ≡ bank_total registers.spreads

-- and they stand
pub record AsksBanks (globals : List IntegerType) (code : ThreadCode) (registers : Registers) (caller : Caller) (plan : Planned) (old new : List Signal) (c : Requests)
    (done : ℕ) : Type 0 where
  pub asks : AsksGlobals globals code registers caller plan old new c done
  pub wired : 1 ≤ caller.served.printer.site_width → caller.served.printer.site_width ≤ 64 → FitStates registers plan → FitSpreads globals registers →
      (base : Base) (bits wide own : List Held) → AreSlots base old code registers → HaveBankWidths globals registers.spreads bits wide own →
      length bits ≡ length registers.words → length wide ≡ length registers.words → length own ≡ length registers.words →
      KeepsAskLinks base code registers caller.served globals registers.spreads bits wide own old new c × IsEarlier new base done 1

-- ---- which of the cores that acts ask are open

-- of two groups of bits, the first of which has n
abbrev pub joined_bits : ℕ → (ℕ → Bool) → (ℕ → Bool) → ℕ → Bool
joined_bits n f g k = if nat_lt k n then f k else g (k - n)

-- core k, by what is wanted of each kind, and of which object
abbrev pub act_open : Served → (Service → Bool) → (Service → ℕ) → ℕ → Bool
act_open served wants object =
    joined_bits served.mutexes (λ k. nat_eq (object Mutex) k && wants Mutex)
    (joined_bits served.barriers (λ k. nat_eq (object Barrier) k && wants Barrier) (joined_bits (bit_of served.thread_ids) (λ k. wants ThreadIds) (λ k. wants Printer)))

abbrev pub act_count : Served → ℕ
act_count served = served.mutexes + (served.barriers + (bit_of served.thread_ids + 1))

-- a request's object has 64 bits
pub record HasObject (m : Module) (r : Reading) (q : Request) : Type 0 where
  pub wide : width m q.object ≡ 64
  pub fits : r.signal q.object < 2 ^ 64

-- of each of so many objects whether it is named, and whether it is wanted
pub record OpensObjects (q : Request) (count : ℕ) (old new : List Signal) (o : Objects) : Type 0 where
  pub with_names : List Signal
  pub small : count < 2 ^ 64
  pub names : MakesBits old with_names count o.names (NumberOf q.object)
  pub names_wired : AddsNumbers old with_names q.object o.names
  pub opens : MakesBits with_names new (length o.names) o.opens (WithOf o.names q.wants)
  pub opens_wired : AddsWiths with_names new o.names q.wants o.opens

pub record ActsStand (base : Base) (old new : List Signal) (acts : Acts) : Type 0 where
  pub wires : AreWires base old new
  pub opens : AreBitsOf base new acts.opens
  pub barriers : AreBitsOf base new acts.barriers

-- OF EACH CORE that acts ask whether it is open
pub record OpensActs (served : Served) (requests : Requests) (old new : List Signal) (acts : Acts) : Type 0 where
  pub grows : Grows old new
  pub count : length acts.opens ≡ act_count served
  pub barriers_count : length acts.barriers ≡ served.barriers
  pub shows : (m : Module) (r : Reading) (wants : Service → Bool) → Grows new m.signals → Obeys m r → ((s : Service) → HasBit m r (group requests s).wants (wants s)) →
      ((s : Service) → HasObject m r (group requests s)) → HaveBits m r acts.opens (act_count served) (act_open served wants (λ s. r.signal (group requests s).object))
  pub names : (m : Module) (r : Reading) → Grows new m.signals → Obeys m r → HasObject m r requests.barrier →
      HaveBits m r acts.barriers served.barriers (λ k. nat_eq (r.signal requests.barrier.object) k)
  pub wired : (base : Base) → ((s : Service) → IsEarlier old base (group requests s).wants 1) → ((s : Service) → IsEarlier old base (group requests s).object 64) →
      ActsStand base old new acts

-- whether a core is wanted that is not there: of these none is open
pub record IsLost (requests : Requests) (opens : List ℕ) (old new : List Signal) (lost : ℕ) : Type 0 where
  pub grows : Grows old new
  pub shows : (m : Module) (r : Reading) (wants : Service → Bool) (opened : ℕ → Bool) → Grows new m.signals → Obeys m r →
      ((s : Service) → HasBit m r (group requests s).wants (wants s)) → HaveBits m r opens (length opens) opened →
      HasBit m r lost (((wants Mutex || wants Barrier) || wants ThreadIds) && not (any_below (λ k. true && opened k) (length opens)))
  pub wired : (base : Base) → ((s : Service) → IsEarlier old base (group requests s).wants 1) → AreBitsOf base old opens → Adds base old new 1 lost

-- which banks are open: those that are wanted, and whose global's access has not been granted
pub record OpensBanks (spreads : List Spread) (granted wants : List ℕ) (old new : List Signal) (opens : List ℕ) : Type 0 where
  pub free : List ℕ
  pub with_free : List Signal
  pub frees : MakesBits old with_free (length (spread_out spreads granted)) free (NotOf (spread_out spreads granted))
  pub frees_wired : AddsNots old with_free (spread_out spreads granted) free
  pub shows : MakesBits with_free new (length wants) opens (BothOf wants free)
  pub wired : AddsBoths with_free new wants free opens

-- what stands on a base behind the inputs
pub record AreEarly (base : Base) (old new : List Signal) (early : Early) (code : ThreadCode) (registers : Registers) (served : Served) (globals : List IntegerType)
    (bits wide own : List Held) :
    Type 0 where
  pub wires : AreWires base old new
  pub linked : AreAskLinks base code registers served globals registers.spreads bits wide own new early.requests
  pub opens : AreBitsOf base new early.opens
  pub barriers : AreBitsOf base new early.barriers
  pub lost : IsEarlier new base early.lost 1
  pub need : IsEarlier new base early.need 1
  pub done : IsEarlier new base early.done 1

pub record LaysEarly (globals : List IntegerType) (code : ThreadCode) (registers : Registers) (granted : List ℕ) (caller : Caller) (plan : Planned) (old new : List Signal)
    (early : Early) : Type 0 where
  pub grows : Grows old new
  pub free : List ℕ
  pub bank_opens : List ℕ
  pub acts : Acts
  pub held : ℕ
  pub with_asks : List Signal
  pub with_needs : List Signal
  pub with_free : List Signal
  pub with_open : List Signal
  pub with_acts : List Signal
  pub with_lost : List Signal
  pub asked : AsksGlobals globals code registers caller plan old with_asks early.requests early.done
  pub holds : NeedsMore registers (FitStages registers code plan) (IsNeedOfFirst registers code plan (length code.stages)) with_asks with_needs early.done
      held
  pub frees : MakesBits with_needs with_free (length (spread_out registers.spreads granted)) free (NotOf (spread_out registers.spreads granted))
  pub opens : MakesBits with_free with_open (length early.requests.banks.wants) bank_opens (BothOf early.requests.banks.wants free)
  pub opens_acts : OpensActs caller.served early.requests with_open with_acts acts
  pub loses : IsLost early.requests acts.opens with_acts with_lost early.lost
  pub open_is : early.opens ≡ bank_opens ++ acts.opens
  pub barriers_are : early.barriers ≡ acts.barriers
  pub needs : MakesAny with_lost new held (wants_of early.requests) (λ k. true) (length (wants_of early.requests)) early.need

-- and it stands
pub record LaysEarlyWired (globals : List IntegerType) (code : ThreadCode) (registers : Registers) (granted : List ℕ) (caller : Caller) (plan : Planned)
    (old new : List Signal)
    (early : Early) : Type 0 where
  pub lays : LaysEarly globals code registers granted caller plan old new early
  pub wired : 1 ≤ caller.served.printer.site_width → caller.served.printer.site_width ≤ 64 → (base : Base) (bits wide own : List Held) → FitStates registers plan →
      FitSpreads globals registers → AreSlots base old code registers → AreBitsOf base old (spread_out registers.spreads granted) →
      length (spread_out registers.spreads granted) ≡ length registers.words →
      HaveBankWidths globals registers.spreads bits wide own → HaveWidths bits (replicate (length (map held_width registers.words)) 1) →
      HaveWidths wide (replicate (length (map held_width registers.words)) 64) → HaveWidths own (map held_width registers.words) →
      ((x w : ℕ) → slice_get (map held_width registers.words) x ≡ Some w → (1 ≤ w) × (w ≤ 64)) → AreEarly base old new early code registers caller.served globals bits wide own
