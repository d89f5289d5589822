-- The order of the steps of a run: which depend on one another, and which happen before which (Lamport 1978).
use Rattle.std.specs.Prelude.{◌≡◌, ◌⊎◌, ℕ, ◌+◌, Bool, true, false, ◌&&◌, ◌||◌, if◌then◌else◌, nat_eq, List, [], ◌∷◌, length, ℤ, Option, Some, None, slice_get}
use Rattle.std.specs.Prelude.{unsigned_abs, Contains}
use Rattle.std.specs.List.{list_any}
use Rattle.c_program.specs.Tree.{Program}
use Rattle.thread_semantics.specs.Work.{Act}
use Rattle.thread_semantics.specs.State.{Slot, Running, Barrier, Awaits, State}
use Rattle.thread_semantics.specs.Move.{Move, Acts, Ends, Impossible, move}
use Rattle.thread_semantics.specs.Step.{Steps, object_operand, step}
use Rattle.thread_semantics.specs.Races.{Touch, touched, id_of_move}
pub use Rattle.race_model.specs.Orderly.{waits_in}

abbrev pub move_in : Program → State → Option Slot → Move
move_in P s (Some (Running frames)) = move P s.globals frames
move_in P s slot = Impossible

-- the next move of thread i, whether or not it is blocked
abbrev pub next_move : Program → State → ℕ → Move
next_move P s i = move_in P s (slice_get s.slots i)

-- Dependence.

-- the mutex, or the barrier, on which an act is
abbrev pub mutex_of_act : Act → List ℤ → Option ℕ
mutex_of_act Act.MutexInit operands = Some (object_operand operands)
mutex_of_act Act.MutexDestroy operands = Some (object_operand operands)
mutex_of_act Act.MutexLock operands = Some (object_operand operands)
mutex_of_act Act.MutexUnlock operands = Some (object_operand operands)
mutex_of_act act operands = None

abbrev pub barrier_of_act : Act → List ℤ → Option ℕ
barrier_of_act Act.BarrierInit operands = Some (object_operand operands)
barrier_of_act Act.BarrierDestroy operands = Some (object_operand operands)
barrier_of_act Act.BarrierWait operands = Some (object_operand operands)
barrier_of_act act operands = None

abbrev pub mutex_of_move : Move → Option ℕ
mutex_of_move (Acts offset act operands frames) = mutex_of_act act operands
mutex_of_move m = None

abbrev pub barrier_of_move : Move → Option ℕ
barrier_of_move (Acts offset act operands frames) = barrier_of_act act operands
barrier_of_move m = None

abbrev pub awaited_by : Act → List ℤ → Option ℕ
awaited_by Act.BarrierWait operands = Some (object_operand operands)
awaited_by act operands = None

-- the barrier at which a move waits
abbrev pub awaited : Move → Option ℕ
awaited (Acts offset act operands frames) = awaited_by act operands
awaited m = None

abbrev pub ends : Move → Bool
ends (Ends offset reads) = true
ends m = false

-- one place is touched by both, and written by one of them
pub record Conflict (earlier later : List Touch) : Type 0 where
  pub first : Touch
  pub second : Touch
  pub first_in : Contains earlier first
  pub second_in : Contains later second
  pub same : first.place ≡ second.place
  pub written : (first.written || second.written) ≡ true

-- the later move n, of thread j, depends on the earlier one m, of another thread
pub data Depends (m : Move) (j : ℕ) (n : Move) : Type 0 where
  OnData : (conflict : Conflict (touched m) (touched n)) → Depends m j n
  OnMutex : (x : ℕ) (first : mutex_of_move m ≡ Some x) (second : mutex_of_move n ≡ Some x) → Depends m j n
  OnBarrier : (x : ℕ) (first : barrier_of_move m ≡ Some x) (second : barrier_of_move n ≡ Some x) → Depends m j n
  OnId : (x : ℕ) (first : id_of_move m ≡ Some x) (second : id_of_move n ≡ Some x) → Depends m j n
  -- the return of main, which ends the program, is behind every step
  OnAll : (main : j ≡ 0) (return : ends n ≡ true) → Depends m j n

abbrev pub prints_by : Act → Bool
prints_by (Act.Print format) = true
prints_by act = false

-- whether a move is a printf
abbrev pub prints : Move → Bool
prints (Acts offset act operands frames) = prints_by act
prints m = false

pub record BothPrint (m n : Move) : Type 0 where
  pub first : prints m ≡ true
  pub second : prints n ≡ true

-- the same, where of two moves that print the later one depends on the earlier one
abbrev pub DependsOrPrints : Move → ℕ → Move → Type 0
DependsOrPrints m j n = Depends m j n ⊎ BothPrint m n

-- Happens-before: a step happens before each step of a thread that has heard of it by then. Its own thread has; a thread
-- that is created hears what its creator has heard, who joins a thread hears what that one has heard, and the threads
-- that a barrier lets go hear what any of them has heard.

abbrev pub is_in : ℕ → List ℕ → Bool
is_in j threads = list_any (nat_eq j) threads

-- the threads that a barrier lets go where thread i comes to it
abbrev pub let_go : ℕ → Option Barrier → List ℕ
let_go i (Some (Awaits count waiters)) = if nat_eq (length waiters + 1) (unsigned_abs count) then i ∷ waiters else []
let_go i barrier = []

-- who has heard of a step once thread i acts, where these had heard of it before
abbrev pub told_by_act : State → ℕ → Act → ℕ → (ℕ → Bool) → ℕ → Bool
told_by_act s i (Act.Create routine) n heard j = heard j || (nat_eq j n && heard i)
told_by_act s i Act.Join n heard j = heard j || (nat_eq j i && heard n)
told_by_act s i Act.BarrierWait n heard j =
    heard j || (is_in j (let_go i (slice_get s.barriers n)) && list_any heard (let_go i (slice_get s.barriers n)))
told_by_act s i act n heard j = heard j

abbrev pub told : State → ℕ → Move → (ℕ → Bool) → ℕ → Bool
told s i (Acts offset act operands frames) heard = told_by_act s i act (object_operand operands) heard
told s i m heard = heard

-- the wait m of thread i, which has taken no step since, and the wait n in the state s are of one meeting
pub record Meet (s : State) (i : ℕ) (m : Move) (again : Bool) (n : Move) : Type 0 where
  pub barrier : ℕ
  pub first : awaited m ≡ Some barrier
  pub second : awaited n ≡ Some barrier
  pub still : again ≡ false
  pub waits : waits_in i (slice_get s.barriers barrier) ≡ true

-- in the run list from s each step that depends, by D, on the earlier move m of thread i is of a thread that has heard of it,
-- but for waits of one meeting; again: whether thread i has gone on since
abbrev pub AllOrderedBy : (Move → ℕ → Move → Type 0) → Program → ℕ → Move → (ℕ → Bool) → Bool → State → List ℕ → Type 0
AllOrderedBy D P i m heard again s [] = Unit {0}
AllOrderedBy D P i m heard again s (j ∷ list) =
    (D m j (next_move P s j) → (heard j ≡ true) ⊎ Meet s i m again (next_move P s j))
    × ((t : State) → step P s j ≡ Steps t → AllOrderedBy D P i m (told s j (next_move P s j) heard) (again || nat_eq j i) t list)

abbrev pub AllOrdered : Program → ℕ → Move → (ℕ → Bool) → Bool → State → List ℕ → Type 0
AllOrdered P i m heard again s list = AllOrderedBy Depends P i m heard again s list
