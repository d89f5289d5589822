-- The list of a program's cores, in the order of their arbiters: banks, mutexes, barriers, the core of the thread ids where there is one, the printer.
use Rattle.std.specs.Prelude.{Bool, if◌then◌else◌, List, [], ◌∷◌, ◌++◌, map, replicate}
use Rattle.leaf_machine.specs.Ports.{CorePort}
use Rattle.core_family.specs.declared.cores.Cores.{Cores}
use Rattle.core_family.specs.Family.{CoreKind, Bank, Mutex, Barrier, ThreadIds, Printer, port_of}

abbrev pub barrier : Cores → CoreKind
barrier c = Barrier (record { threads = c.threads })

abbrev pub thread_ids : Cores → CoreKind
thread_ids c = ThreadIds (record { threads = c.threads })

-- a kind where it is wanted
abbrev pub one_if : Bool → CoreKind → List CoreKind
one_if wanted kind = if wanted then kind ∷ [] else []

abbrev pub barrier_kinds : Cores → List CoreKind
barrier_kinds c = replicate c.barriers (barrier c)

abbrev pub thread_ids_kinds : Cores → List CoreKind
thread_ids_kinds c = one_if c.thread_ids (thread_ids c)

-- the cores behind the banks
abbrev pub act_kinds : Cores → List CoreKind
act_kinds c = map Mutex c.mutexes ++ (barrier_kinds c ++ (thread_ids_kinds c ++ (Printer c.printer ∷ [])))

abbrev pub kinds_of : Cores → List CoreKind
kinds_of c = map Bank c.banks ++ act_kinds c

-- what a thread's module asks of them and is told by them
abbrev pub ports_of : Cores → List CorePort
ports_of c = map port_of (kinds_of c)
