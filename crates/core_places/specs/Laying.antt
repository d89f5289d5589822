-- The layout of threads and cores.
use Rattle.std.specs.Prelude.{ℕ, ◌+◌, if◌then◌else◌, List, map}
use Rattle.top_parts.specs.declared.layout.Layout.{Layout}
use Rattle.core_tables.specs.Family.{CoreKind, Bank, Mutex, Barrier, ThreadIds, Printer}
use Rattle.core_tables.specs.Tables.{laid_core}
use Rattle.core_family.specs.declared.cores.Cores.{Cores}
use Rattle.core_places.specs.declared.layout.Places.{Places}
use Rattle.core_places.specs.Placing.{unset_at, free_at, barrier_at, thread_ids_at, printer_at, placed}

-- the numbers of the modules of mutexes that are uninitialised at the start, of those that are free then, of barriers, of the core of the thread ids
-- and of the printer, where the modules of cores are numbered from this one on
abbrev pub places_of : ℕ → Cores → Places
places_of first w = record {
  first = first;
  unset = first + unset_at w;
  free = first + free_at w;
  barrier = first + barrier_at w;
  thread_ids = first + thread_ids_at w;
  printer = first + printer_at w;
}

-- of core k, which is of this kind
abbrev pub place_in : Places → ℕ → CoreKind → ℕ
place_in at k (Bank b) = at.first + k
place_in at k (Mutex m) = if m.initialised then at.free else at.unset
place_in at k (Barrier s) = at.barrier
place_in at k (ThreadIds s) = at.thread_ids
place_in at k (Printer s) = at.printer

-- of these threads, with so many modules of threads: those come first, then the arbiter, then those of cores
abbrev pub layout_of : List ℕ → ℕ → Cores → Layout
layout_of threads routines w = record { threads = threads; cores = map (laid_core (routines + 1)) (placed w); arbiter = routines }
