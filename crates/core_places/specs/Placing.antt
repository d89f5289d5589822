-- The cores of a program's hardware, each with the place of its module and its number among the cores of its kind.
use Rattle.std.specs.Prelude.{◌≡◌, ℕ, ◌+◌, ◌-◌, Bool, not, nat_lt, if◌then◌else◌, List, [], ◌∷◌, ◌++◌, length, map, Some, slice_get}
use Rattle.std.specs.List.{list_any}
use Rattle.hls_ints.specs.Residues.{bit_of}
use Rattle.netlist.specs.declared.netlist.Module.{Module}
use Rattle.circuit.specs.Rows.{EachOf}
use Rattle.top_wiring.specs.Parts.{each_from}
use Rattle.bank_cores.specs.declared.bank.Shape.{Shape as BankShape}
use Rattle.mutex_cores.specs.declared.mutex.Shape.{Shape as MutexShape}
use Rattle.core_tables.specs.Family.{CoreKind, Bank, Mutex, Barrier, ThreadIds, Printer, IsCoreModule}
use Rattle.core_tables.specs.Tables.{PlacedCore, Table, HasModule, kinds_in}
use Rattle.core_tables.specs.Whole.{KindsStandOnce}
use Rattle.core_family.specs.declared.cores.Cores.{Cores}
use Rattle.core_family.specs.Kinds.{barrier, thread_ids, one_if, kinds_of}

-- a module of a core of so many threads, of this kind, stands there
pub record HasKind (threads : ℕ) (modules : List Module) (place : ℕ) (s : CoreKind) : Type 0 where
  pub body : Module
  pub listed : slice_get modules place ≡ Some body
  pub is : IsCoreModule threads s body

-- of each of these kinds a module, in their order
pub record AreModules (threads : ℕ) (kinds : List CoreKind) (modules : List Module) : Type 0 where
  pub count : length modules ≡ length kinds
  pub each : (j : ℕ) (s : CoreKind) → slice_get kinds j ≡ Some s → HasKind threads modules j s

module _ (w : Cores) where
  -- ---- the modules of cores, each once

  -- whether a mutex is uninitialised at the start, and whether one is free then
  abbrev pub has_unset : Bool
  has_unset = list_any (λ (m : MutexShape). not m.initialised) w.mutexes

  abbrev pub has_free : Bool
  has_free = list_any (λ (m : MutexShape). m.initialised) w.mutexes

  abbrev pub mutex : Bool → CoreKind
  mutex initialised = Mutex (record { threads = w.threads; initialised = initialised })

  abbrev pub objects : List CoreKind
  objects = (map Bank w.banks ++ one_if has_unset (mutex Bool.false)) ++ one_if has_free (mutex Bool.true)

  -- each bank, the mutex that is uninitialised at the start, the one that is free then, the barrier, the thread ids, the printer; each where there is such a core
  abbrev pub distinct : List CoreKind
  distinct = ((objects ++ one_if (nat_lt 0 w.barriers) (barrier w)) ++ one_if w.thread_ids (thread_ids w)) ++ Printer w.printer ∷ []

  abbrev pub unset_at : ℕ
  unset_at = length w.banks

  abbrev pub free_at : ℕ
  free_at = unset_at + bit_of has_unset

  abbrev pub barrier_at : ℕ
  barrier_at = free_at + bit_of has_free

  abbrev pub thread_ids_at : ℕ
  thread_ids_at = barrier_at + bit_of (nat_lt 0 w.barriers)

  abbrev pub printer_at : ℕ
  printer_at = thread_ids_at + bit_of w.thread_ids

  -- ---- the cores

  -- the place of the module of core k, which is of this kind
  abbrev pub place_of : ℕ → CoreKind → ℕ
  place_of k (Bank b) = k
  place_of k (Mutex m) = if m.initialised then free_at else unset_at
  place_of k (Barrier s) = barrier_at
  place_of k (ThreadIds s) = thread_ids_at
  place_of k (Printer s) = printer_at

  -- and its number: mutexes and barriers are numbered from 0, and others have number 0
  abbrev pub number_of : ℕ → CoreKind → ℕ
  number_of k (Mutex m) = k - length w.banks
  number_of k (Barrier s) = k - length w.banks - length w.mutexes
  number_of k _ = 0

  abbrev pub placed_core : ℕ → CoreKind → PlacedCore
  placed_core k s = record { kind = s; place = place_of k s; number = number_of k s }

  abbrev pub placed : List PlacedCore
  placed = each_from placed_core 0 (kinds_of w)

  -- the modules of the cores, which have as many threads
  pub record AreKinds (modules : List Module) : Type 0 where
    pub are : AreModules w.threads distinct modules
    pub mutexes : EachOf (λ (m : MutexShape). m.threads ≡ w.threads) w.mutexes

  -- banks have names of their own
  abbrev pub BanksApart : Type 0
  BanksApart = (i j : ℕ) (b d : BankShape) → slice_get w.banks i ≡ Some b → slice_get w.banks j ≡ Some d → b.name ≡ d.name → b.number ≡ d.number → i ≡ j

-- by number of the core: mutexes and barriers are numbered from 0, and others have number 0
abbrev pub IsNumbered : Cores → ℕ → CoreKind → ℕ → Type 0
IsNumbered w k (Bank s) n = Unit {0}
IsNumbered w k (Mutex s) n = k ≡ length w.banks + n
IsNumbered w k (Barrier s) n = k ≡ length w.banks + length w.mutexes + n
IsNumbered w k (ThreadIds s) n = n ≡ 0
IsNumbered w k (Printer s) n = n ≡ 0

-- THE CORES ARE PLACED: in a table with these cores and their modules each core has its module, and each module stands once, for some core
pub record ArePlaced (w : Cores) (t : Table) : Type 0 where
  pub shapes : kinds_in t ≡ kinds_of w
  pub numbered : (k : ℕ) (c : PlacedCore) → slice_get t.cores k ≡ Some c → IsNumbered w k c.kind c.number
  pub each : (k : ℕ) (c : PlacedCore) → slice_get t.cores k ≡ Some c → HasModule t c
  pub used : (j : ℕ) (m : Module) → slice_get t.kinds j ≡ Some m → (k : ℕ) × (c : PlacedCore) × (slice_get t.cores k ≡ Some c) × (c.place ≡ j)
  pub once : BanksApart w → KindsStandOnce t

abbrev pub CoresArePlaced : Type 0
CoresArePlaced = (w : Cores) (t : Table) → t.cores ≡ placed w → length t.threads ≡ w.threads → AreKinds w t.kinds → ArePlaced w t
