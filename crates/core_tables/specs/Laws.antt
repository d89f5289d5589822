-- The cores, the arbiter and the ports of a table of modules fit its layout.
use Rattle.std.specs.Prelude.{◌≡◌, ℕ, ◌+◌, ◌^◌, ◌<◌, Bool, List, length, Some, slice_get, slice_index}
use Rattle.netlist.specs.declared.netlist.Module.{Module}
use Rattle.circuit.specs.Rows.{EachOf}
use Rattle.circuit.specs.Interfaces.{first_of, HasInterface}
use Rattle.top_parts.specs.declared.layout.Core.{Core}
use Rattle.top_wiring.specs.Parts.{core_outputs, thread_outputs, ask_widths}
use Rattle.top_wiring.specs.Ports.{threads, asked, asked_before, told_before, thread_inputs, core_inputs, arbiter_inputs, arbiter_outputs}
use Rattle.top_wiring.specs.Top.{IsSmall}
use Rattle.top_wiring.specs.Sound.{WritesIn, IsOf}
use Rattle.top_wiring.specs.Leaves.{IsThreadLeaf, AreLeaves}
use Rattle.top_wiring.specs.Machine.{IsThreadAt, IsCoreAt, IsArbiterAt}
use Rattle.bank_arbiter.specs.Arbiter as arbiter
use Rattle.leaf_machine.specs.Standing.{IsSilent}
use Rattle.leaf_machine.specs.Leaves.{LeafPorts, leaf_thread, leaf_places, IsSlotBit, IsThreadLeaf as IsLeafOfThread}
use Rattle.printer_cores.specs.declared.printer.Shape.{Shape as PrinterShape}
use Rattle.leaf_machine.specs.Ports as port
use Rattle.core_family.specs.Family.{CoreKind, Bank, Mutex, Barrier, ThreadIds, Printer, machine_at, places_at}
use Rattle.core_tables.specs.Tables.{PlacedCore, Table, HasCores, layout_of, modules_of, kinds_in, ports_of}

-- THE PORTS OF THREADS: a layout asks of a thread's module the ports of its cores, in their order
pub record HasThreadPorts (t : Table) : Type 0 where
  pub inputs : thread_inputs (layout_of t) ≡ port.thread_inputs (ports_of t)
  pub outputs : thread_outputs (ask_widths (layout_of t).cores) ≡ port.thread_outputs (ports_of t)
  pub asked : (k : ℕ) → asked_before (layout_of t) k ≡ port.ask_place (ports_of t) k
  pub told : (k : ℕ) → told_before (layout_of t) k ≡ port.told_place (ports_of t) k

abbrev pub ThreadsHavePorts : Type 0
ThreadsHavePorts = (t : Table) → HasThreadPorts t

-- how many numbers each core of a table is asked with, and how many it tells
module _ (t : Table) where
  abbrev pub parts : ℕ → ℕ
  parts k = (machine_at (kinds_in t) k).parts

  abbrev pub told : ℕ → ℕ
  told k = (machine_at (kinds_in t) k).told

  -- at the places of the layout a thread's module is a thread's machine, whose requests, need and done follow no answer
  pub record ThreadStands (m : Module) (leaf : LeafPorts) : Type 0 where
    pub late : ℕ → Bool
    pub early : IsThreadLeaf (layout_of t) late m
    pub promise : IsThreadAt (layout_of t) (leaf_thread m leaf) (leaf_places m leaf) (machine_at (kinds_in t)) m
    pub interface : HasInterface m (thread_inputs (layout_of t)) (thread_outputs (ask_widths (layout_of t).cores))
    pub done : leaf.done ≡ first_of m (thread_outputs (ask_widths (layout_of t).cores)) + (asked (layout_of t) + 1)

-- THREADS FIT: so is each module with the ports of the cores
abbrev pub ThreadsFit : Type 0
ThreadsFit =
    (t : Table) (name : List ℕ) (m : Module) (inputs : ℕ) (leaf : LeafPorts) → port.IsRoutineModule name (ports_of t) m inputs leaf →
    IsLeafOfThread m inputs leaf (length t.cores) (parts t) (told t) → IsSlotBit m inputs leaf (length t.cores) (parts t) (told t) leaf.done →
    ThreadStands t m leaf

-- core k of the layout has its module, which keeps the promise of its machine
pub record CoreStands (t : Table) (k : ℕ) (c : Core) : Type 0 where
  pub body : Module
  pub listed : slice_get (modules_of t) c.module ≡ Some body
  pub promise : IsCoreAt (layout_of t) (machine_at (kinds_in t) k) (places_at (kinds_in t) k) c body
  pub interface : HasInterface body (core_inputs (layout_of t) c) (core_outputs (threads (layout_of t)) c)

pub record ArbiterStands (t : Table) : Type 0 where
  pub listed : slice_get (modules_of t) (layout_of t).arbiter ≡ Some t.arbiter
  pub promise : IsArbiterAt (layout_of t) (arbiter.places (threads (layout_of t))) t.arbiter
  pub interface : HasInterface t.arbiter (arbiter_inputs (layout_of t)) (arbiter_outputs (layout_of t))

-- the module of each thread has a property
abbrev pub EachThread : Table → (ℕ → Module → Type 0) → Type 0
EachThread t P = (i number : ℕ) → slice_get t.threads i ≡ Some number → (m : Module) × (slice_get t.routines number ≡ Some m) × P i m

-- THE TABLE FITS: where its cores are there, the layout is small, and cores and arbiters keep their promises at its places; and no signal of the
-- net depends on itself, where what threads put out depends on no grant
pub record FitsLayout (t : Table) : Type 0 where
  pub small : IsSmall (layout_of t)
  pub cores : (k : ℕ) (c : Core) → slice_get (layout_of t).cores k ≡ Some c → CoreStands t k c
  pub arbiters : ArbiterStands t
  pub routines : (number : ℕ) (m : Module) → slice_get t.routines number ≡ Some m → slice_get (modules_of t) number ≡ Some m
  pub leaves : (late : ℕ → ℕ → Bool) → EachThread t (λ i m. IsThreadLeaf (layout_of t) (late i) m) → AreLeaves (layout_of t) (modules_of t)

abbrev pub TablesFit : Type 0
TablesFit = (t : Table) → HasCores t → FitsLayout t

-- ---- names

abbrev pub SameOf : CoreKind → ℕ → CoreKind → ℕ → Type 0
SameOf (Bank s) n (Bank r) m = (s.name ≡ r.name) × (s.number ≡ r.number)
SameOf (Mutex s) n (Mutex r) m = n ≡ m
SameOf (Barrier s) n (Barrier r) m = n ≡ m
SameOf (ThreadIds s) n (ThreadIds r) m = Unit {0}
SameOf (Printer s) n (Printer r) m = Unit {0}
SameOf _ n _ m = ⊥

-- numbers are words
abbrev pub IsLow : CoreKind → ℕ → Type 0
IsLow (Bank s) n = s.number < 2 ^ 64
IsLow _ n = n < 2 ^ 64

-- two cores are one: banks of one global and one number, mutexes and barriers of one number, the core of the thread ids, the printer
abbrev pub SameCore : PlacedCore → PlacedCore → Type 0
SameCore a b = SameOf a.kind a.number b.kind b.number

-- and that each stands once, with a number that a name can have
pub record StandOnce (t : Table) : Type 0 where
  pub low : (k : ℕ) (c : PlacedCore) → slice_get t.cores k ≡ Some c → IsLow c.kind c.number
  pub once : (k l : ℕ) (c d : PlacedCore) → slice_get t.cores k ≡ Some c → slice_get t.cores l ≡ Some d → SameCore c d → k ≡ l

-- THE NAMES OF CORES: they begin with u, and are apart
pub record HasNames (t : Table) : Type 0 where
  pub begin : (k : ℕ) (c : Core) → slice_get (layout_of t).cores k ≡ Some c → slice_index c.name 0 ≡ 117
  pub apart : (k l : ℕ) (c d : Core) → slice_get (layout_of t).cores k ≡ Some c → slice_get (layout_of t).cores l ≡ Some d → c.name ≡ d.name → k ≡ l

abbrev pub CoresAreNamed : Type 0
CoresAreNamed = (t : Table) → StandOnce t → HasNames t

-- ---- who writes

-- the modules of threads write nothing, the modules of cores are used, and one of the cores is the printer
pub record HasPrinter (t : Table) : Type 0 where
  pub silent : (number : ℕ) (m : Module) → slice_get t.routines number ≡ Some m → EachOf IsSilent m.actions
  pub used : (j : ℕ) (m : Module) → slice_get t.kinds j ≡ Some m → (k : ℕ) × (c : PlacedCore) × (slice_get t.cores k ≡ Some c) × (c.place ≡ j)
  pub place : ℕ
  pub core : PlacedCore
  pub shape : PrinterShape
  pub listed : slice_get t.cores place ≡ Some core
  pub is : core.kind ≡ Printer shape

-- ONE MODULE WRITES: the printer's alone, and it has one instance
pub record OneWrites (t : Table) : Type 0 where
  pub one : (k l : ℕ) → WritesIn (layout_of t) (modules_of t) k → WritesIn (layout_of t) (modules_of t) l → k ≡ l
  pub placed : (k : ℕ) → WritesIn (layout_of t) (modules_of t) k → (j : ℕ) × IsOf (layout_of t) (modules_of t) j k
  pub once : (k i j : ℕ) → WritesIn (layout_of t) (modules_of t) k → IsOf (layout_of t) (modules_of t) i k → IsOf (layout_of t) (modules_of t) j k → i ≡ j

abbrev pub PrintersWrite : Type 0
PrintersWrite = (t : Table) → HasCores t → StandOnce t → HasPrinter t → OneWrites t
