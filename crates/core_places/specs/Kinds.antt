-- When the cores of a program have modules.
use Rattle.std.specs.Prelude.{◌≡◌, ℕ, ◌≤◌}
use Rattle.circuit.specs.Rows.{EachOf}
use Rattle.bank_cores.specs.declared.bank.Shape.{Shape as BankShape}
use Rattle.bank_cores.specs.Bank.{IsShape as IsBankShape}
use Rattle.mutex_cores.specs.declared.mutex.Shape.{Shape as MutexShape}
use Rattle.printer_cores.specs.Printer.{IsShape as IsPrinterShape}
use Rattle.core_tables.specs.Family.{CoreKind, Bank, Mutex, Barrier, ThreadIds, Printer}
use Rattle.core_family.specs.declared.cores.Cores.{Cores}

-- a bank of so many threads that has a module, with addresses of 64 bits
pub record IsWantedBank (threads : ℕ) (b : BankShape) : Type 0 where
  pub asked_by : b.threads ≡ threads
  pub addressed : b.address_width ≡ 64
  pub shape : IsBankShape b

-- a kind that has a module
abbrev pub IsRight : CoreKind → Type 0
IsRight (Bank b) = IsWantedBank b.threads b
IsRight (Mutex m) = m.threads ≤ 64
IsRight (Barrier s) = s.threads ≤ 64
IsRight (ThreadIds s) = (1 ≤ s.threads) × (s.threads ≤ 64)
IsRight (Printer s) = IsPrinterShape s

-- each of the cores has a module, of as many threads
pub record HaveModules (w : Cores) : Type 0 where
  pub some : 1 ≤ w.threads
  pub few : w.threads ≤ 64
  pub banks : EachOf (IsWantedBank w.threads) w.banks
  pub mutexes : EachOf (λ (m : MutexShape). m.threads ≡ w.threads) w.mutexes
  pub asked_by : w.printer.threads ≡ w.threads
  pub printer : IsPrinterShape w.printer
