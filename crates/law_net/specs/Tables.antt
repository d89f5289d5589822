-- The table of the modules that are laid out for the parts of a program's hardware.
use Rattle.std.specs.Prelude.{◌≡◌, ℕ, ◌<◌, ◌≤◌, length, Some, slice_get}
use Rattle.c_program.specs.Tree.{Program}
use Rattle.netlist.specs.declared.netlist.Module.{Module}
use Rattle.core_tables.specs.Tables.{PlacedCore, Table, IsArbiterModule, HasModule, kinds_in}
use Rattle.core_tables.specs.Whole.{IsThreadName, KindsStandOnce, IsWholeTable}
use Rattle.net_emitter.specs.Placing.{IsNumbered}
use Rattle.law_cycle.specs.Built.{Parts, IsBuilt}
use Rattle.law_cycle.specs.Kinds.{kinds_of}

-- each thread has its module, each module is one of a thread, and they have names of their own
pub record HaveThreads (K : Parts) (t : Table) : Type 0 where
  pub count : length t.threads ≡ K.cores.threads
  pub runs : (i number : ℕ) → slice_get t.threads i ≡ Some number → slice_get t.routines number ≡ Some (K.bodies i).body
  pub named : (i : ℕ) → i < K.cores.threads → IsThreadName (K.bodies i).body.name
  pub run : (number : ℕ) (m : Module) → slice_get t.routines number ≡ Some m → (i : ℕ) × (slice_get t.threads i ≡ Some number)
  pub apart : (i j : ℕ) (m n : Module) → slice_get t.routines i ≡ Some m → slice_get t.routines j ≡ Some n → m.name ≡ n.name → i ≡ j

-- and the cores are those of the parts, each with its module, and each module is one of a core, and stands once
pub record IsLaidTable (K : Parts) (t : Table) : Type 0 where
  pub threads : HaveThreads K t
  pub granting : IsArbiterModule K.cores.threads t.arbiter
  pub shapes : kinds_in t ≡ kinds_of K.cores
  pub numbered : (k : ℕ) (c : PlacedCore) → slice_get t.cores k ≡ Some c → IsNumbered K.cores k c.kind c.number
  pub each : (k : ℕ) (c : PlacedCore) → slice_get t.cores k ≡ Some c → HasModule t c
  pub used : (j : ℕ) (m : Module) → slice_get t.kinds j ≡ Some m → (k : ℕ) × (c : PlacedCore) × (slice_get t.cores k ≡ Some c) × (c.place ≡ j)
  pub kinds : KindsStandOnce t
  pub narrow : K.cores.printer.values ≤ 4

-- THE TABLE IS WHOLE: so is each table of the parts of a program
abbrev pub LaidTablesAreWhole : Type 0
LaidTablesAreWhole = (P : Program) (K : Parts) (t : Table) → IsBuilt P K → IsLaidTable K t → IsWholeTable t
