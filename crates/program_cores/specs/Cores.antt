-- The cores of a program's hardware.
use Rattle.std.specs.Prelude.{◌≡◌, ℕ, ◌^◌, ◌<◌, nat_lt, List, length, replicate}
use Rattle.std.specs.List.{flat_map}
use Rattle.c_program.specs.Tree.{Program}
use Rattle.c_program.specs.declared.tree.MutexObject.{MutexObject}
use Rattle.c_program.specs.Limits.{barrier_elements}
use Rattle.c_program.specs.Weight.{thread_count}
use Rattle.bank_partition.specs.declared.banks.Spread.{Spread}
use Rattle.mutex_cores.specs.declared.mutex.Shape.{Shape as MutexShape}
use Rattle.law_banks.specs.Partition.{ArePartitioned}
use Rattle.core_family.specs.declared.cores.Cores.{Cores}
use Rattle.core_places.specs.Placing.{placed}
use Rattle.core_places.specs.Kinds.{HaveModules}
use Rattle.law_cycle.specs.Built.{AreMutexes, IsPrinterOf}

-- a mutex for each element of the objects, free at the start where the object is initialised
abbrev pub object_mutexes : ℕ → MutexObject → List MutexShape
object_mutexes threads object = replicate object.length (record { threads = threads; initialised = object.initialised })

abbrev pub mutex_shapes : ℕ → List MutexObject → List MutexShape
mutex_shapes threads objects = flat_map (object_mutexes threads) objects

-- the cores of a program: its banks, a mutex and a barrier for each element that is declared, a core of the thread ids where there are threads beside
-- main, and a printer of four values
pub record AreCoresOf (P : Program) (spreads : List Spread) (w : Cores) : Type 0 where
  pub threads : w.threads ≡ thread_count P
  pub banked : ArePartitioned P w.threads spreads w.banks
  pub mutexes : AreMutexes P w.threads w.mutexes
  pub barriers : w.barriers ≡ barrier_elements P
  pub thread_ids : w.thread_ids ≡ nat_lt 1 w.threads
  pub printer : IsPrinterOf P w.threads w.printer
  pub values : w.printer.values ≡ 4
  -- each has a module, and they are few
  pub modules : HaveModules w
  pub few : length (placed w) < 2 ^ 15
