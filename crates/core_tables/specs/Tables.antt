-- What a net of any number of threads and cores is laid out of.
use Rattle.std.specs.Prelude.{◌≡◌, ℕ, ◌+◌, ◌<◌, ◌≤◌, ◌^◌, List, ◌∷◌, ◌++◌, length, map, Some, slice_get, codes}
use Rattle.netlist.specs.declared.netlist.Module.{Module}
use Rattle.verilog_meaning.specs.Names.{numbered}
use Rattle.circuit.specs.Rows.{EachOf}
use Rattle.circuit.specs.Modules.{IsLeaf}
use Rattle.circuit.specs.Interfaces.{IsTableModule}
use Rattle.circuit.specs.Arbitration.{Arbitrates}
use Rattle.bank_arbiter.specs.Arbiter as arbiter
use Rattle.top_parts.specs.declared.layout.Core.{Core}
use Rattle.top_parts.specs.declared.layout.Layout.{Layout}
use Rattle.leaf_machine.specs.Ports.{CorePort}
use Rattle.core_family.specs.Family.{CoreKind, Bank, Mutex, Barrier, ThreadIds, Printer, port_of, IsCoreModule}
use Rattle.core_tables.specs.Fits.{core_of}

-- a core, the place of its module among the modules of cores, and its number among the cores of its kind
pub record PlacedCore : Type 0 where
  pub kind : CoreKind
  pub place : ℕ
  pub number : ℕ

pub record Table : Type 0 where
  -- for each hardware thread the number of its module
  pub threads : List ℕ
  -- the modules of threads, main's first
  pub routines : List Module
  pub arbiter : Module
  -- in the order of their arbiters
  pub cores : List PlacedCore
  -- the modules of cores, each once
  pub kinds : List Module

-- the name of the instance of a core
abbrev pub core_name : CoreKind → ℕ → List ℕ
core_name (Bank s) number = numbered (codes "u_" ++ s.name) s.number
core_name (Mutex s) number = numbered (codes "umutex") number
core_name (Barrier s) number = numbered (codes "ubarrier") number
core_name (ThreadIds s) number = codes "ufork_0"
core_name (Printer s) number = codes "uprinter_0"

-- where the modules of cores begin
abbrev pub kinds_at : Table → ℕ
kinds_at t = length t.routines + 1

abbrev pub laid_core : ℕ → PlacedCore → Core
laid_core first c = core_of c.kind (first + c.place) (core_name c.kind c.number)

abbrev pub layout_of : Table → Layout
layout_of t = record { threads = t.threads; cores = map (laid_core (kinds_at t)) t.cores; arbiter = length t.routines }

-- the modules of threads, the arbiter, those of cores
abbrev pub modules_of : Table → List Module
modules_of t = t.routines ++ t.arbiter ∷ t.kinds

abbrev pub kinds_in : Table → List CoreKind
kinds_in t = map (λ (c : PlacedCore). c.kind) t.cores

abbrev pub ports_of : Table → List CorePort
ports_of t = map (λ (c : PlacedCore). port_of c.kind) t.cores

-- ---- when it is one

-- of so many threads
pub record IsArbiterModule (threads : ℕ) (m : Module) : Type 0 where
  pub arbitrates : Arbitrates threads (arbiter.places threads) m
  pub leaf : IsLeaf m (arbiter.inputs threads) arbiter.never
  pub table : arbiter.IsArbiter threads m
  pub stands : IsTableModule m (arbiter.input_widths threads) (arbiter.output_widths threads)

-- the module of a core is there
pub record HasModule (t : Table) (c : PlacedCore) : Type 0 where
  pub body : Module
  pub listed : slice_get t.kinds c.place ≡ Some body
  pub is : IsCoreModule (length t.threads) c.kind body

-- a printer has few values
abbrev pub IsNarrow : CoreKind → Type 0
IsNarrow (Printer s) = s.values ≤ 4
IsNarrow _ = Unit {0}

pub record HasCores (t : Table) : Type 0 where
  pub some : 1 ≤ length t.threads
  pub few_threads : length t.threads ≤ 64
  pub few_cores : length t.cores < 2 ^ 15
  pub narrow : EachOf (λ (c : PlacedCore). IsNarrow c.kind) t.cores
  pub granting : IsArbiterModule (length t.threads) t.arbiter
  pub each : (k : ℕ) (c : PlacedCore) → slice_get t.cores k ≡ Some c → HasModule t c
  -- each thread has one of the modules
  pub threads : (i number : ℕ) → slice_get t.threads i ≡ Some number → number < length t.routines
