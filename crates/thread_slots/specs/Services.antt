-- The cores that acts ask, behind the banks: mutexes, barriers, the core of the thread ids, the printer.
use Rattle.std.specs.Prelude.{ℕ, suc, Bool, true, false, List, [], ◌∷◌, ◌++◌, replicate}
use Rattle.block_ir.specs.Asked.{Numbers, printer_core}
use Rattle.block_ir.specs.declared.service.Service.{Service}
use Rattle.block_ir.specs.declared.service.Service.TheVariants.{Mutex, Barrier, ThreadIds, Printer}
use Rattle.thread_slots.specs.declared.shape.Served.{Served}

-- the core of the thread ids, if there is one
abbrev pub if_thread_ids : {X : Type 0} → Bool → List X → List X
if_thread_ids true xs = xs
if_thread_ids false xs = []

-- OF EACH CORE that acts ask its kind, in the order of the cores
abbrev pub services : Served → List Service
services served = replicate served.mutexes Mutex ++ (replicate served.barriers Barrier ++ (if_thread_ids served.thread_ids (ThreadIds ∷ []) ++ Printer ∷ []))

-- how many cores of each kind there are, with so many banks
abbrev pub numbers_with : ℕ → Served → Numbers
numbers_with banks served = record { banks = banks; mutexes = served.mutexes; barriers = served.barriers; thread_ids = served.thread_ids }

-- how many in all
abbrev pub core_count : ℕ → Served → ℕ
core_count banks served = suc (printer_core (numbers_with banks served))

-- the widths of what they tell: each barrier whether the thread waits, and the core of the thread ids whether the thread runs, and with which argument
abbrev pub news_widths : Served → List ℕ
news_widths served = replicate served.barriers 1 ++ if_thread_ids served.thread_ids (1 ∷ 64 ∷ [])

-- ---- requests

-- how wide the number of a request is, which is an operation, or the number of a site, and how many values a request has at most
abbrev pub number_width : Served → Service → ℕ
number_width served Printer = served.printer.site_width
number_width served _ = 2

abbrev pub value_count : Served → Service → ℕ
value_count served Mutex = 0
value_count served Barrier = 1
value_count served ThreadIds = 2
value_count served Printer = served.printer.values
