-- The cores as the theory of planned hardware has them, by the machine's numbers: when one may grant what an act asks, what a grant does, and
-- what a thread is told.
use Rattle.std.specs.Prelude.{ℕ, Bool, true, false, nat_eq, nat_lt, if◌then◌else◌, List, [], ◌++◌, Option, Some, None, slice_get, slice_index}
use Rattle.c_program.specs.Tree.{Piece}
use Rattle.block_ir.specs.Asked.{Asked, Numbers, barrier_core, thread_ids_core, first_word, second_word}
pub use Rattle.block_refine.specs.Acts.{printed_words}
use Rattle.core_states.specs.Machines.{CoreMutex, mutex_eligible, mutex_after, CoreBarrier, barrier_eligible, barrier_after, IdTable, ids_eligible, ids_after}

-- of a bank nothing is said: what banks have is the memory and the words of slots
pub data Core : Type 0 where
  OfBank : Core
  OfMutex : (lock : CoreMutex) → Core
  OfBarrier : (gate : CoreBarrier) → Core
  OfThreadIds : (thread_ids : IdTable) → Core
  OfPrinter : (bytes : List ℕ) → Core

-- ---- what is granted, and what a grant does

-- where there is such a format
abbrev pub text_at : Option (List Piece) → List ℕ → List ℕ
text_at None ws = []
text_at (Some format) ws = printed_words format ws

-- whether the core may grant thread i what it asks
abbrev pub may_grant : Core → ℕ → Asked → Bool
may_grant OfBank i a = false
may_grant (OfMutex l) i a = mutex_eligible l a.number
may_grant (OfBarrier g) i a = barrier_eligible g i a.number
may_grant (OfThreadIds t) i a = ids_eligible t a.number (first_word a.values)
may_grant (OfPrinter bytes) i a = true

-- threads is how many there are, formats those of the text by number
module _ (threads : ℕ) (formats : List (List Piece)) where
  -- the core after a grant to thread i
  abbrev pub granted : Core → ℕ → Asked → Core
  granted OfBank i a = OfBank
  granted (OfMutex l) i a = OfMutex (mutex_after l i a.number)
  granted (OfBarrier g) i a = OfBarrier (barrier_after threads g i a.number (first_word a.values))
  granted (OfThreadIds t) i a = OfThreadIds (ids_after t i a.number (first_word a.values) (second_word a.values))
  granted (OfPrinter bytes) i a = OfPrinter (bytes ++ text_at (slice_get formats a.number) a.values)

  -- and all cores after it: core k has changed
  abbrev pub core_after : ℕ → ℕ → Asked → (ℕ → Core) → ℕ → Core
  core_after k i a c j = if nat_eq j k then granted (c j) i a else c j

-- ---- what a thread is told

-- a core that is no barrier's has none that wait, and one that is not that of the thread ids has none that run
abbrev pub no_barrier : CoreBarrier
no_barrier = record { count = 0; waiting = [] }

abbrev pub no_thread_ids : IdTable
no_thread_ids = record { statuses = []; arguments = [] }

abbrev pub barrier_in : Core → CoreBarrier
barrier_in (OfBarrier g) = g
barrier_in _ = no_barrier

abbrev pub thread_ids_in : Core → IdTable
thread_ids_in (OfThreadIds t) = t
thread_ids_in _ = no_thread_ids

abbrev pub status_in : Core → ℕ → ℕ
status_in k i = slice_index (thread_ids_in k).statuses i

abbrev pub argument_in : Core → ℕ → ℕ
argument_in k i = slice_index (thread_ids_in k).arguments i

abbrev pub waits_in : Core → ℕ → Bool
waits_in k i = nat_lt 0 (slice_index (barrier_in k).waiting i)

module _ (N : Numbers) (c : ℕ → Core) where
  -- the status of thread i, 0 unused, 1 running, 2 finished; and its argument, a word of 64 bits
  abbrev pub status_at : ℕ → ℕ
  status_at i = status_in (c (thread_ids_core N)) i

  abbrev pub argument_at : ℕ → ℕ
  argument_at i = argument_in (c (thread_ids_core N)) i

  -- whether barrier n says that thread i waits
  abbrev pub waits_bit : ℕ → ℕ → Bool
  waits_bit n i = waits_in (c (barrier_core N n)) i
