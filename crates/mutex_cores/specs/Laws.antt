-- Laws of the machine of a mutex.
use Rattle.std.specs.Prelude.{◌≡◌, ℕ, true, false}
use Rattle.circuit.specs.Turns.{WaitsForAsks}
use Rattle.core_states.specs.Machines.{CoreMutex, Unset, Free, Owned, is_owned}
use Rattle.mutex_cores.specs.declared.mutex.Shape.{Shape}
use Rattle.mutex_cores.specs.Machine.{Ask, mutex_machine, mutex_places}

-- why a request may not be granted
pub data IsBlocked (s : CoreMutex) (a : Ask) : Type 0 where
  Silent : (asks : a.asks ≡ false) → IsBlocked s a
  Taken : (operation : a.operation ≡ 1) (thread : ℕ) (owned : s ≡ Owned thread) → IsBlocked s a

-- WHAT BLOCKS: nothing is asked, or a lock is asked of a mutex that a thread owns, and nothing else
pub record BlocksWhere (shape : Shape) (s : CoreMutex) (i : ℕ) (a : Ask) : Type 0 where
  pub why : (mutex_machine shape).eligible s i a ≡ false → IsBlocked s a
  pub so : IsBlocked s a → (mutex_machine shape).eligible s i a ≡ false

abbrev pub LockBlocked : Type 0
LockBlocked = (shape : Shape) (s : CoreMutex) (i : ℕ) (a : Ask) → BlocksWhere shape s i a

-- WHAT A GRANT DOES: whom a lock is granted owns the mutex, which nobody did; after an unlock or an init it is free, and after a destroy unset;
-- and right after a lock no lock may be granted
pub record DoesWhere (shape : Shape) (s : CoreMutex) (i : ℕ) (a : Ask) : Type 0 where
  pub unowned : a.operation ≡ 1 → is_owned s ≡ false
  pub locked : a.operation ≡ 1 → (mutex_machine shape).act s i a ≡ Owned i
  pub begun : a.operation ≡ 0 → (mutex_machine shape).act s i a ≡ Free
  pub unlocked : a.operation ≡ 2 → (mutex_machine shape).act s i a ≡ Free
  pub destroyed : a.operation ≡ 3 → (mutex_machine shape).act s i a ≡ Unset
  pub held : a.operation ≡ 1 → (j : ℕ) (b : Ask) → b.operation ≡ 1 → (mutex_machine shape).eligible ((mutex_machine shape).act s i a) j b ≡ false

abbrev pub LockIsGranted : Type 0
LockIsGranted = (shape : Shape) (s : CoreMutex) (i : ℕ) (a : Ask) → (mutex_machine shape).eligible s i a ≡ true → DoesWhere shape s i a

-- WHO ASKS NOTHING WAITS: every reading shows a lock, and nothing is offered to whom the first part of an ask is 0
abbrev pub MutexWaits : Type 0
MutexWaits = (shape : Shape) → WaitsForAsks (mutex_machine shape) (mutex_places shape)
