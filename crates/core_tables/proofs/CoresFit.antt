-- Each core fits a layout of as many threads.
use Rattle.std.proofs.Common.{ℕ, Some, sym, subst}
use Rattle.netlist.specs.declared.netlist.Module.{Module}
use Rattle.top_wiring.specs.Ports.{threads}
use Rattle.core_family.specs.Family.{CoreKind, Bank, Mutex, Barrier, ThreadIds, Printer, machine_of, places_of, threads_of, port_of, is_late, IsCoreModule}
use Rattle.core_tables.specs.Fits.{CoresFit}
use Rattle.core_tables.proofs.CoreStands.{StandsFor, at, interface, leaf}
use Rattle.core_tables.proofs.Banks.{bank_stands_for}
use Rattle.core_tables.proofs.Mutexes.{mutex_stands_for}
use Rattle.core_tables.proofs.Barriers.{barrier_stands_for}
use Rattle.core_tables.proofs.ThreadIds.{thread_ids_stand_for}
use Rattle.core_tables.proofs.Printer.{printer_fits}

-- its ports stand in order, for so many threads
abbrev InOrder : CoreKind → ℕ → Module → Type 0
InOrder shape n m = StandsFor n (port_of shape).asks (port_of shape).told (machine_of (Some shape)) (places_of (Some shape)) (is_late shape) m

-- a module of so many threads is one of its own number of threads
own : (shape : CoreKind) (n : ℕ) (m : Module) → IsCoreModule n shape m → IsCoreModule (threads_of shape) shape m
own shape n m is = subst (λ k. IsCoreModule k shape m) (sym is.asked_by) is

as_many : (shape : CoreKind) (n : ℕ) (m : Module) → IsCoreModule n shape m → InOrder shape (threads_of shape) m → InOrder shape n m
as_many shape n m is stands = subst (λ k. InOrder shape k m) is.asked_by stands

pub cores_fit : CoresFit
cores_fit layout (Bank s) number name m is =
    let b = as_many (Bank s) (threads layout) m is (bank_stands_for s m (own (Bank s) (threads layout) m is)) in record {
      at = at layout _ _ number name _ _ _ m b;
      leaf = leaf layout _ _ number name _ _ _ m b;
      interface = interface layout _ _ number name _ _ _ m b;
    }
cores_fit layout (Mutex s) number name m is =
    let b = as_many (Mutex s) (threads layout) m is (mutex_stands_for s m (own (Mutex s) (threads layout) m is)) in record {
      at = at layout _ _ number name _ _ _ m b;
      leaf = leaf layout _ _ number name _ _ _ m b;
      interface = interface layout _ _ number name _ _ _ m b;
    }
cores_fit layout (Barrier s) number name m is =
    let b = as_many (Barrier s) (threads layout) m is (barrier_stands_for s m (own (Barrier s) (threads layout) m is)) in record {
      at = at layout _ _ number name _ _ _ m b;
      leaf = leaf layout _ _ number name _ _ _ m b;
      interface = interface layout _ _ number name _ _ _ m b;
    }
cores_fit layout (ThreadIds s) number name m is =
    let b = as_many (ThreadIds s) (threads layout) m is (thread_ids_stand_for s m (own (ThreadIds s) (threads layout) m is)) in record {
      at = at layout _ _ number name _ _ _ m b;
      leaf = leaf layout _ _ number name _ _ _ m b;
      interface = interface layout _ _ number name _ _ _ m b;
    }
cores_fit layout (Printer s) number name m is = printer_fits layout number name s m is
