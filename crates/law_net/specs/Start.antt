-- The cores and the slots before the first cycle; and all threads of a program as hardware of planned blocks.
use Rattle.std.specs.Prelude.{◌≡◌, ℕ, ◌<◌, nat_eq, if◌then◌else◌, true, false, [], length, replicate, Some, slice_get}
use Rattle.c_program.specs.Tree.{Program}
use Rattle.c_program.specs.Limits.{mutex_elements, barrier_elements}
use Rattle.c_program.specs.Weight.{bound}
use Rattle.c_program.specs.Resolved.{IsResolved}
use Rattle.thread_semantics.specs.declared.object.MutexState.{MutexState}
use Rattle.thread_semantics.specs.State.{start}
use Rattle.interleaving.specs.Hardware.{IsPlanned}
use Rattle.interleaving.specs.Progress.{IsTimed}
use Rattle.bank_partition.specs.declared.banks.Spread.{Spread}
use Rattle.std.specs.Prelude.{List}
use Rattle.planned_block.specs.Plan.{KeepsOrders}
use Rattle.planned_block.specs.Slot.{Slot, AreBanks}
use Rattle.planned_block.specs.Hardware.{changes_left, planned_hardware}
use Rattle.race_model.specs.Source.{local_of, c_source}
use Rattle.thread_promise.specs.Globals.{bank_of}
use Rattle.block_ir.specs.Asked.{Numbers, mutex_core, barrier_core, thread_ids_core, printer_core}
use Rattle.law_threads.specs.Cores.{Core, OfMutex, OfBarrier, OfThreadIds, OfPrinter}
use Rattle.law_threads.specs.Stands.{mutex_of, StandsFor}
use Rattle.block_refine.specs.Routines.{Codes, rest_of, blocks_of, plans_of}
use Rattle.law_threads.specs.Requests.{AreNumbers}
use Rattle.law_threads.specs.Surroundings.{routine_of, around, hardware_code}
use Rattle.law_threads.specs.Laws.{AreCoded, Rests}

-- a mutex and a barrier for each element
pub record CountElements (P : Program) (N : Numbers) : Type 0 where
  pub mutexes : N.mutexes ≡ mutex_elements P
  pub barriers : N.barriers ≡ barrier_elements P

-- the cores before the first cycle: mutexes are what the program initialises them to, barriers are not initialised, no thread id is in use, and
-- nothing is printed
pub record AreFirst (P : Program) (N : Numbers) (T : ℕ) (c : ℕ → Core) : Type 0 where
  pub mutexes : (n : ℕ) (m : MutexState) → slice_get (start P).mutexes n ≡ Some m → c (mutex_core N n) ≡ OfMutex (mutex_of m)
  pub barriers : (n : ℕ) → n < N.barriers → c (barrier_core N n) ≡ OfBarrier (record { count = 0; waiting = replicate T 0 })
  -- whatever arguments it has
  pub thread_ids : N.thread_ids ≡ true → (given : List ℕ) × (length given ≡ T) × (c (thread_ids_core N) ≡ OfThreadIds (record { statuses = replicate T 0; arguments = given }))
  pub printer : c (printer_core N) ≡ OfPrinter []

-- the slot of thread i before its first move: main is at its first stage, another thread rests; whatever its variables, arrays, registers and words have
pub record IsFresh (P : Program) (codes : Codes) (i : ℕ) (q : Slot) : Type 0 where
  pub routine : q.routine ≡ routine_of P i
  pub stage : q.stage ≡ (if nat_eq i 0 then 0 else rest_of codes (routine_of P i))
  pub state : q.state ≡ 0
  pub granted : (k : ℕ) → q.granted k ≡ false

module _ (P : Program) (codes : Codes) (N : Numbers) (T : ℕ) (spreads : List Spread) (chain : ℕ → ℕ → ℕ) where
  -- THE START: the first cores stand for the first state, and each thread rests
  pub record StartsThere (c : ℕ → Core) (slots : ℕ → Slot) : Type 0 where
    pub stands : StandsFor N T c (start P)
    pub rests : (i : ℕ) → Rests P codes N T spreads chain c i (local_of (start P) i) (slots i)

  abbrev pub ThreadsStart : Type 0
  ThreadsStart = IsResolved P → AreNumbers P N T → CountElements P N → AreCoded P codes chain → (c : ℕ → Core) → AreFirst P N T c → (slots : ℕ → Slot)
      → ((i : ℕ) → IsFresh P codes i (slots i)) → StartsThere c slots

  -- THREADS ARE PLANNED: the theory's premises on the hardware of all threads
  abbrev pub ThreadsArePlanned : Type 0
  ThreadsArePlanned =
      IsResolved P → AreNumbers P N T → AreCoded P codes chain → ((f l : ℕ) → KeepsOrders (blocks_of codes f l) (plans_of codes f l)) → AreBanks (bank_of spreads) →
      IsPlanned (c_source P) (planned_hardware (bank_of spreads) (hardware_code codes chain) (around P codes N T) (bound P))
      × IsTimed (planned_hardware (bank_of spreads) (hardware_code codes chain) (around P codes N T) (bound P)) (bound P) (changes_left (hardware_code codes chain))
