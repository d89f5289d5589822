-- The kind of a core as the code holds it.
use Rattle.core_family.specs.declared.cores.CoreKind.{CoreKind as Held}
use Rattle.core_family.specs.declared.cores.CoreKind.TheVariants as held
use Rattle.core_family.specs.Family.{CoreKind, Bank, Mutex, Barrier, ThreadIds, Printer}

abbrev pub kind_of : Held → CoreKind
kind_of (held.Bank shape) = Bank shape.now
kind_of (held.Mutex shape) = Mutex shape
kind_of (held.Barrier threads) = Barrier (record { threads = threads })
kind_of (held.ThreadIds threads) = ThreadIds (record { threads = threads })
kind_of (held.Printer shape) = Printer shape.now
