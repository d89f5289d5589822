-- A whole table: its modules are sound together, and keep their promises as one machine.
use Rattle.std.specs.Prelude.{◌≡◌, ℕ, ◌+◌, ◌<◌, List, ◌++◌, length, Some, slice_get, codes}
use Rattle.netlist.specs.declared.netlist.Module.{Module}
use Rattle.circuit.specs.Interfaces.{IsTableModule}
use Rattle.circuit.specs.Wiring.{NetPlaces}
use Rattle.top_wiring.specs.Ports.{threads, cores}
use Rattle.top_wiring.specs.Sound.{AreSound}
use Rattle.top_wiring.specs.Machine.{KeepPromises}
use Rattle.bank_arbiter.specs.Arbiter as arbiter
use Rattle.leaf_machine.specs.Leaves.{LeafPorts, leaf_thread, leaf_places}
use Rattle.leaf_machine.specs.Ports as port
use Rattle.core_family.specs.Family.{CoreKind, Bank, Mutex, Barrier, ThreadIds, Printer, machine_at, places_at}
use Rattle.core_tables.specs.Tables.{PlacedCore, Table, HasCores, layout_of, modules_of, kinds_in, ports_of}
use Rattle.core_tables.specs.Laws.{StandOnce, HasPrinter, ThreadStands}

-- a module of a function, or of threads without one
pub data IsThreadName (x : List ℕ) : Type 0 where
  OfFunction : (name : List ℕ) (is : x ≡ codes "fn_" ++ name) → IsThreadName x
  OfIdle : (is : x ≡ codes "idle") → IsThreadName x

-- the modules of threads have the ports of the cores, and names of their own
pub record HasRoutines (t : Table) : Type 0 where
  pub stands : (number : ℕ) (m : Module) → slice_get t.routines number ≡ Some m → IsTableModule m (port.thread_inputs (ports_of t)) (port.thread_outputs (ports_of t))
  pub named : (number : ℕ) (m : Module) → slice_get t.routines number ≡ Some m → IsThreadName m.name
  pub apart : (i j : ℕ) (m n : Module) → slice_get t.routines i ≡ Some m → slice_get t.routines j ≡ Some n → m.name ≡ n.name → i ≡ j

-- two shapes have one module: banks of one global and one number, mutexes that begin alike, all barriers
abbrev pub SameModule : CoreKind → CoreKind → Type 0
SameModule (Bank s) (Bank r) = (s.name ≡ r.name) × (s.number ≡ r.number)
SameModule (Mutex s) (Mutex r) = s.initialised ≡ r.initialised
SameModule (Barrier s) (Barrier r) = Unit {0}
SameModule (ThreadIds s) (ThreadIds r) = Unit {0}
SameModule (Printer s) (Printer r) = Unit {0}
SameModule _ _ = ⊥

-- and it stands once
abbrev pub KindsStandOnce : Table → Type 0
KindsStandOnce t = (k l : ℕ) (c d : PlacedCore) → slice_get t.cores k ≡ Some c → slice_get t.cores l ≡ Some d → SameModule c.kind d.kind → c.place ≡ d.place

pub record IsWholeTable (t : Table) : Type 0 where
  pub cores : HasCores t
  pub once : StandOnce t
  pub kinds : KindsStandOnce t
  pub printer : HasPrinter t
  pub routines : HasRoutines t

-- THE MODULES ARE SOUND: together they are, so that their net's text is a well-formed net
abbrev pub TablesAreSound : Type 0
TablesAreSound = (t : Table) → IsWholeTable t → AreSound (layout_of t) (modules_of t)

-- ---- one machine

-- of the modules of threads
module _ (t : Table) (modules : ℕ → Module) (leaves : ℕ → LeafPorts) where
  abbrev pub places_of : NetPlaces (threads (layout_of t)) (cores (layout_of t)) (λ i. leaf_thread (modules i) (leaves i)) (machine_at (kinds_in t))
  places_of = record {
    thread_at = λ i. i;
    core_at = λ k. threads (layout_of t) + k;
    arbiter_at = λ k. threads (layout_of t) + cores (layout_of t) + k;
    thread = λ i. leaf_places (modules i) (leaves i);
    core = places_at (kinds_in t);
    arbiter = λ k. arbiter.places (threads (layout_of t));
  }

  -- they are those that the table names, and stand at the places of the layout
  pub record AreThreads : Type 0 where
    pub runs : (i number : ℕ) → slice_get t.threads i ≡ Some number → slice_get t.routines number ≡ Some (modules i)
    pub stands : (i : ℕ) → i < length t.threads → ThreadStands t (modules i) (leaves i)

-- THE MODULES KEEP THEIR PROMISES: at the places of the layout, each as its machine
abbrev pub TablesKeepPromises : Type 0
TablesKeepPromises =
    (t : Table) (modules : ℕ → Module) (leaves : ℕ → LeafPorts) → IsWholeTable t →
    AreThreads t modules leaves →
    KeepPromises (layout_of t) (λ i. leaf_thread (modules i) (leaves i)) (machine_at (kinds_in t)) (places_of t modules leaves) (modules_of t)
