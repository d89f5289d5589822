-- The kinds of cores of a net as one family: what a core of each kind is, where its module has its ports, and when a module is one of it.
use Rattle.std.specs.Prelude.{◌≡◌, ℕ, zero, suc, false, replicate, List, [], ◌∷◌, slice_index, Option, Some, None, slice_get, Bool}
use Rattle.netlist.specs.declared.netlist.Module.{Module}
use Rattle.circuit.specs.Modules.{IsLeaf}
use Rattle.circuit.specs.Interfaces.{IsTableModule}
use Rattle.circuit.specs.Machines.{CoreMachine, CorePlaces, IsCore}
use Rattle.bank_cores.specs.declared.bank.Shape.{Shape as BankShape}
use Rattle.bank_cores.specs.Bank.{IsBank}
use Rattle.bank_cores.specs.Machine as bank
use Rattle.mutex_cores.specs.declared.mutex.Shape.{Shape as MutexShape}
use Rattle.mutex_cores.specs.Mutex.{IsMutex}
use Rattle.mutex_cores.specs.Machine as mutex
use Rattle.barrier_cores.specs.declared.barrier.Shape.{Shape as BarrierShape}
use Rattle.barrier_cores.specs.Barrier.{IsBarrier}
use Rattle.barrier_cores.specs.Machine as barrier
use Rattle.thread_id_cores.specs.declared.thread_ids.Shape.{Shape as ThreadIdsShape}
use Rattle.thread_id_cores.specs.ThreadIds.{IsThreadIdsModule}
use Rattle.thread_id_cores.specs.Machine as thread_ids
use Rattle.printer_cores.specs.declared.printer.Shape.{Shape as PrinterShape}
use Rattle.printer_cores.specs.Printer.{IsPrinter}
use Rattle.printer_cores.specs.Machine as printer
use Rattle.leaf_machine.specs.Ports.{CorePort}

-- a bank of a global, a mutex, a barrier, the core of the thread ids, the printer
pub data CoreKind : Type 0 where
  Bank : (shape : BankShape) → CoreKind
  Mutex : (shape : MutexShape) → CoreKind
  Barrier : (shape : BarrierShape) → CoreKind
  ThreadIds : (shape : ThreadIdsShape) → CoreKind
  Printer : (shape : PrinterShape) → CoreKind

-- ---- machines

-- past the cores of a net: nobody is granted anything
abbrev pub no_machine : CoreMachine
no_machine = record {
  State = Unit {0};
  Ask = Unit {0};
  start = tt;
  parts = 1;
  ask_of = λ f. tt;
  eligible = λ s i a. false;
  act = λ s i a. s;
  prints = λ s i a. [];
  told = 0;
  tells = λ s i j. 0;
}

abbrev pub no_places : CorePlaces no_machine
no_places = record {
  shows = λ r s. Unit {0};
  ask = λ j i. 0;
  offer = λ i. 0;
  grant = λ i. 0;
  tell = λ j i. 0;
}

abbrev pub machine_of : Option CoreKind → CoreMachine
machine_of None = no_machine
machine_of (Some (Bank s)) = bank.bank_machine s
machine_of (Some (Mutex s)) = mutex.mutex_machine s
machine_of (Some (Barrier s)) = barrier.barrier_machine s.threads
machine_of (Some (ThreadIds s)) = thread_ids.thread_ids_machine s
machine_of (Some (Printer s)) = printer.printer_machine s

abbrev pub places_of : (o : Option CoreKind) → CorePlaces (machine_of o)
places_of None = no_places
places_of (Some (Bank s)) = bank.bank_places s
places_of (Some (Mutex s)) = mutex.mutex_places s
places_of (Some (Barrier s)) = barrier.barrier_places s.threads
places_of (Some (ThreadIds s)) = thread_ids.thread_ids_places s
places_of (Some (Printer s)) = printer.printer_places s

-- core k of a list
abbrev pub machine_at : List CoreKind → ℕ → CoreMachine
machine_at cores k = machine_of (slice_get cores k)

abbrev pub places_at : (cores : List CoreKind) → (k : ℕ) → CorePlaces (machine_at cores k)
places_at cores k = places_of (slice_get cores k)

-- what a bank has; another core has none
abbrev pub words_of : (o : Option CoreKind) → (machine_of o).State → bank.Words
words_of (Some (Bank b)) s = s
words_of _ s = record { words = []; kept = [] }

-- ---- ports

abbrev pub port_of : CoreKind → CorePort
port_of (Bank s) = record { asks = 1 ∷ 1 ∷ 64 ∷ s.width ∷ []; told = s.width ∷ [] }
port_of (Mutex s) = record { asks = 1 ∷ 2 ∷ []; told = [] }
port_of (Barrier s) = record { asks = 1 ∷ 2 ∷ 64 ∷ []; told = 1 ∷ [] }
port_of (ThreadIds s) = record { asks = 1 ∷ 2 ∷ 64 ∷ 64 ∷ []; told = 1 ∷ 64 ∷ [] }
port_of (Printer s) = record { asks = 1 ∷ 16 ∷ replicate s.values 64; told = [] }

-- the width of part j of an ask, and of number j that is told
abbrev pub ask_width : Option CoreKind → ℕ → ℕ
ask_width None j = 1
ask_width (Some s) j = slice_index (port_of s).asks j

abbrev pub told_width : Option CoreKind → ℕ → ℕ
told_width (Some (Bank s)) j = s.width
told_width (Some (Barrier s)) j = 1
told_width (Some (ThreadIds s)) zero = 1
told_width (Some (ThreadIds s)) (suc j) = 64
told_width _ j = 0

-- ---- modules

-- of so many threads
abbrev pub threads_of : CoreKind → ℕ
threads_of (Bank s) = s.threads
threads_of (Mutex s) = s.threads
threads_of (Barrier s) = s.threads
threads_of (ThreadIds s) = s.threads
threads_of (Printer s) = s.threads

-- addresses are words
abbrev pub IsAddressed : CoreKind → Type 0
IsAddressed (Bank s) = s.address_width ≡ 64
IsAddressed _ = Unit {0}

-- the module of a shape and nothing else
abbrev pub IsTable : CoreKind → Module → Type 0
IsTable (Bank s) m = IsBank s m
IsTable (Mutex s) m = IsMutex s m
IsTable (Barrier s) m = IsBarrier s m
IsTable (ThreadIds s) m = IsThreadIdsModule s m
IsTable (Printer s) m = IsPrinter s m

-- the input ports stand before this place
abbrev pub inputs_of : CoreKind → ℕ
inputs_of (Bank s) = bank.inputs s
inputs_of (Mutex s) = mutex.inputs s
inputs_of (Barrier s) = barrier.inputs s.threads
inputs_of (ThreadIds s) = thread_ids.inputs s
inputs_of (Printer s) = printer.inputs s

abbrev pub input_widths : CoreKind → List ℕ
input_widths (Bank s) = bank.input_widths s
input_widths (Mutex s) = mutex.input_widths s
input_widths (Barrier s) = barrier.input_widths s.threads
input_widths (ThreadIds s) = thread_ids.input_widths s
input_widths (Printer s) = printer.input_widths s

abbrev pub output_widths : CoreKind → List ℕ
output_widths (Bank s) = bank.output_widths s
output_widths (Mutex s) = mutex.output_widths s
output_widths (Barrier s) = barrier.output_widths s.threads
output_widths (ThreadIds s) = thread_ids.output_widths s
output_widths (Printer s) = printer.output_widths s

-- the grants, and what follows from them
abbrev pub is_late : CoreKind → ℕ → Bool
is_late (Bank s) = bank.is_late s
is_late (Mutex s) = mutex.is_late s
is_late (Barrier s) = barrier.is_late s.threads
is_late (ThreadIds s) = thread_ids.is_late s
is_late (Printer s) = printer.is_late s

-- a module is a core of so many threads: it is that of its shape, keeps its machine's promise, and can stand in a table
pub record IsCoreModule (threads : ℕ) (shape : CoreKind) (m : Module) : Type 0 where
  pub asked_by : threads_of shape ≡ threads
  pub addressed : IsAddressed shape
  pub core : IsCore (machine_of (Some shape)) (places_of (Some shape)) (threads_of shape) m
  pub leaf : IsLeaf m (inputs_of shape) (is_late shape)
  pub table : IsTable shape m
  pub stands : IsTableModule m (input_widths shape) (output_widths shape)
