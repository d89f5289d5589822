-- How the cores that acts ask stand for the state of the program, of T hardware threads.
use Rattle.std.specs.Prelude.{◌≡◌, ℕ, ◌<◌, true, if◌then◌else◌, List, length, ℤ, pos, Some, slice_get, slice_index}
use Rattle.hls_ints.specs.Residues.{bit_of}
use Rattle.thread_semantics.specs.declared.object.MutexState.{MutexState}
use Rattle.thread_semantics.specs.declared.object.MutexState.TheVariants as mutex
use Rattle.thread_semantics.specs.State.{Slot, Barrier, Awaits, State}
use Rattle.thread_semantics.specs.Step.{is_unused, is_running, is_waiter}
use Rattle.block_ir.specs.Asked.{Numbers, mutex_core, barrier_core, thread_ids_core, printer_core}
use Rattle.core_states.specs.Machines.{CoreMutex, Unset, Free, Owned, CoreBarrier, IdTable}
use Rattle.law_threads.specs.Cores.{Core, OfMutex, OfBarrier, OfThreadIds, OfPrinter}

abbrev pub mutex_of : MutexState → CoreMutex
mutex_of mutex.Uninitialised = Unset
mutex_of mutex.Free = Free
mutex_of (mutex.Owned i) = Owned i

abbrev pub status_of : Slot → ℕ
status_of slot = if is_unused slot then 0 else (if is_running (Some slot) then 1 else 2)

pub record CoreBarrierStands (T : ℕ) (g : CoreBarrier) (b : Barrier) : Type 0 where
  pub sized : length g.waiting ≡ T
  pub bits : (i : ℕ) → i < T → slice_index g.waiting i ≡ bit_of (is_waiter i b)
  pub count : (count : ℤ) (waiters : List ℕ) → b ≡ Awaits count waiters → pos g.count ≡ count

-- the core of a barrier, and that of the thread ids; id 0 is main, which is not kept there
pub record BarrierStands (T : ℕ) (k : Core) (b : Barrier) : Type 0 where
  pub gate : CoreBarrier
  pub is : k ≡ OfBarrier gate
  pub stands : CoreBarrierStands T gate b

pub record ThreadIdsStand (T : ℕ) (k : Core) (slots : List Slot) : Type 0 where
  pub thread_ids : IdTable
  pub is : k ≡ OfThreadIds thread_ids
  pub statuses : length thread_ids.statuses ≡ T
  pub arguments : length thread_ids.arguments ≡ T
  pub main : slice_index thread_ids.statuses 0 ≡ 0
  pub each : (i : ℕ) (slot : Slot) → 0 < i → slice_get slots i ≡ Some slot → slice_index thread_ids.statuses i ≡ status_of slot

-- THE CORES STAND FOR THE STATE
pub record StandsFor (N : Numbers) (T : ℕ) (c : ℕ → Core) (s : State) : Type 0 where
  pub mutexes : (n : ℕ) (m : MutexState) → slice_get s.mutexes n ≡ Some m → c (mutex_core N n) ≡ OfMutex (mutex_of m)
  pub barriers : (n : ℕ) (b : Barrier) → slice_get s.barriers n ≡ Some b → BarrierStands T (c (barrier_core N n)) b
  pub thread_ids : N.thread_ids ≡ true → ThreadIdsStand T (c (thread_ids_core N)) s.slots
  pub output : c (printer_core N) ≡ OfPrinter s.output
  -- and there is one for each
  pub mutex_count : length s.mutexes ≡ N.mutexes
  pub barrier_count : length s.barriers ≡ N.barriers
