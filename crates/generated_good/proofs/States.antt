-- The states of a generated program until main returns: where each thread stands, and what it may touch there.
use Rattle.std.proofs.Common.{◌≡◌, ◌≢◌, ℕ, zero, suc, ◌<◌, ◌≤◌, List, [], ◌∷◌, length}
use Rattle.std.specs.Prelude.{◌⊎◌, Bool, true, false, ℤ, pos, Option, Some, slice_get}
use Rattle.std.specs.List.{AllByRecursion}
use Rattle.hls_ints.specs.Types.{int_type, unsigned_int}
use Rattle.c_program.specs.declared.tree.Storage.TheVariants.{Static}
use Rattle.c_program.specs.declared.tree.BinaryOperator.TheVariants.{Less, Add}
use Rattle.c_program.specs.Tree.{Expression, ObjectPlace, ThreadCall, Piece, Statement, Function, GlobalVariable, Program}
use Rattle.thread_semantics.specs.declared.cause.BlockedCause.{BlockedCause}
use Rattle.thread_semantics.specs.declared.object.MutexState.{MutexState}
use Rattle.thread_semantics.specs.declared.object.MutexState.TheVariants.{Uninitialised, Owned}
use Rattle.thread_semantics.specs.Memory.{Location}
use Rattle.thread_semantics.specs.Work.{Work, Do, Next, Turn, Perform, Act, Loop, Onward, for_loop, settled}
use Rattle.thread_semantics.specs.State.{Frame, Slot, Unused, Running, Finished, State}
use Rattle.thread_semantics.specs.Step.{Steps, Blocks, step}
use Rattle.thread_semantics.specs.Races.{Touch, thread_touched}
use Rattle.generated_program.specs.Worker.{int_number}
use Rattle.generated_program.specs.Main.{counter, counter_place, counted, created, joined, printed}
use Rattle.generated_good.proofs.FirstStatement.{Left}
use Rattle.generated_good.proofs.WorkerValues.{Cells, Locals}
use Rattle.generated_good.proofs.SafeStatements.{Safe}

-- the program of such functions and globals
abbrev pub made : Function → Function → GlobalVariable → GlobalVariable → ℕ → Program
made worker main sum elements threads = record {
  functions = worker ∷ main ∷ [];
  main = 1;
  globals = sum ∷ elements ∷ [];
  threads = record { length = threads; routine = Some 0 } ∷ [];
  mutexes = record { length = 1; initialised = false } ∷ [];
  barriers = [];
}

-- ---- what a state is made of

pub record Parts : Type 0 where
  -- s, and the elements of g
  pub total : ℤ
  pub own : List ℤ
  -- main's call, and the other threads
  pub frame : Frame
  pub workers : List Slot
  pub mutex : MutexState
  pub output : List ℕ

abbrev pub globals_of : Parts → List (List ℤ)
globals_of p = (p.total ∷ []) ∷ p.own ∷ []

abbrev pub state_of : Parts → State
state_of p = record {
  globals = globals_of p;
  slots = Running (p.frame ∷ []) ∷ p.workers;
  mutexes = p.mutex ∷ [];
  barriers = [];
  output = p.output;
  ended = false;
}

-- ---- a worker

abbrev pub worker_frame : Cells → List Work → List ℤ → Frame
worker_frame locals work kept = record { function = 0; locals = locals; work = work; kept = kept }

-- the worker of that number, from 0 on, has the mutex or not
abbrev pub Held : Bool → MutexState → ℕ → Type 0
Held true m j = m ≡ Owned (suc j)
Held false m j = m ≢ Owned (suc j)

pub data WorkerAt (threads : ℕ) (m : MutexState) (j : ℕ) (f : Frame) : Type 0 where
  Stands : (locals : Cells) (k : List Work) (ss : List Statement) (n : ℕ) (hold : Bool) (is : f ≡ worker_frame locals (settled Onward k) []) (left : Left k ss)
      (safe : Safe threads ss n hold) (l : Locals n j locals) (held : Held hold m j) → WorkerAt threads m j f
  Locking : (locals : Cells) (k : List Work) (ss : List Statement) (n offset : ℕ)
      (is : f ≡ worker_frame locals (Perform offset Act.MutexLock ∷ k) (pos 0 ∷ [])) (left : Left k ss)
      (safe : Safe threads ss n true) (l : Locals n j locals) (held : m ≢ Owned (suc j)) → WorkerAt threads m j f
  Unlocking : (locals : Cells) (k : List Work) (ss : List Statement) (n offset : ℕ)
      (is : f ≡ worker_frame locals (Perform offset Act.MutexUnlock ∷ k) (pos 0 ∷ [])) (left : Left k ss)
      (safe : Safe threads ss n false) (l : Locals n j locals) (held : m ≡ Owned (suc j)) → WorkerAt threads m j f

-- the thread id of a worker, where those from lo to below hi are created and not joined
pub data WorkerSlot (threads lo hi : ℕ) (m : MutexState) (j : ℕ) (o : Option Slot) : Type 0 where
  Idle : (away : (j < lo) ⊎ (hi ≤ j)) (is : o ≡ Some Unused) → WorkerSlot threads lo hi m j o
  Over : (from : lo ≤ j) (to : j < hi) (is : o ≡ Some Finished) → WorkerSlot threads lo hi m j o
  Works : (from : lo ≤ j) (to : j < hi) (f : Frame) (is : o ≡ Some (Running (f ∷ []))) (at : WorkerAt threads m j f) → WorkerSlot threads lo hi m j o

-- ---- main

abbrev pub main_frame : Option ℤ → List Work → List ℤ → Frame
main_frame i work kept = record { function = 1; locals = (i ∷ []) ∷ []; work = work; kept = kept }

-- main's loops
pub data Round : Type 0 where
  Creates : Round
  Joins : Round
  Prints : Round

abbrev pub format : List Piece
format = Piece.Conversion unsigned_int ∷ Piece.Text (10 ∷ []) ∷ []

module _ (threads : ℕ) (at : ℕ → ℕ) where
  abbrev pub first_at : Round → ℕ
  first_at Creates = at 2
  first_at Joins = at 6
  first_at Prints = at 10

  abbrev pub test_at : Round → ℕ
  test_at Creates = at 3
  test_at Joins = at 7
  test_at Prints = at 11

  abbrev pub step_at : Round → ℕ
  step_at Creates = at 4
  step_at Joins = at 8
  step_at Prints = at 12

  abbrev pub call_at : Round → ℕ
  call_at Creates = at 5
  call_at Joins = at 9
  call_at Prints = at 13

  abbrev pub element : Expression
  element = Expression.Element Static 1 threads unsigned_int counter

  abbrev pub body_of : Round → Statement
  body_of Creates = created threads (at 5)
  body_of Joins = joined threads (at 9)
  body_of Prints = printed (at 13) element

  abbrev pub act_of_round : Round → Act
  act_of_round Creates = Act.Create 0
  act_of_round Joins = Act.Join
  act_of_round Prints = Act.Print format

  abbrev pub round_statement : Round → Statement
  round_statement c = counted threads (first_at c) (test_at c) (step_at c) (body_of c)

  abbrev pub test_of : Round → Statement
  test_of c = Statement.Test (test_at c) (Expression.Binary Less int_type counter (int_number threads))

  abbrev pub step_of : Round → Statement
  step_of c = Statement.Update (step_at c) counter_place Add int_type (int_number 1)

  abbrev pub loop_of : Round → Loop
  loop_of c = for_loop (test_of c) (step_of c) (Statement.Block (body_of c))

  -- the work where the loop's condition is next
  abbrev pub asked_work : Round → List Work → List Work
  asked_work c k = Do (test_of c) ∷ Turn (loop_of c) ∷ k

  abbrev pub initialisation : Statement
  initialisation = Statement.Thread (at 1) (ThreadCall.MutexInit (ObjectPlace.Single 0))

  abbrev pub total_print : Statement
  total_print = printed (at 14) (Expression.Variable Static 0 unsigned_int)

  abbrev pub destruction : Statement
  destruction = Statement.Thread (at 15) (ThreadCall.MutexDestroy (ObjectPlace.Single 0))

  abbrev pub last_return : Statement
  last_return = Statement.Return (at 16) (Some (int_number 0))

  -- what stands behind a loop
  abbrev pub behind : Round → List Statement
  behind Creates = round_statement Joins ∷ round_statement Prints ∷ total_print ∷ destruction ∷ last_return ∷ []
  behind Joins = round_statement Prints ∷ total_print ∷ destruction ∷ last_return ∷ []
  behind Prints = total_print ∷ destruction ∷ last_return ∷ []

  -- which workers are created and not joined, where the loop has done so many turns
  abbrev pub IsCount : Round → ℕ → ℕ → ℕ → Type 0
  IsCount Creates n lo hi = (lo ≡ 0) × (hi ≡ n)
  IsCount Joins n lo hi = (lo ≡ n) × (hi ≡ threads)
  IsCount Prints n lo hi = (lo ≡ threads) × (hi ≡ threads)

  abbrev pub AreOperands : Round → ℕ → List ℤ → Type 0
  AreOperands Creates n kept = kept ≡ pos (suc n) ∷ pos n ∷ []
  AreOperands Joins n kept = kept ≡ pos (suc n) ∷ []
  AreOperands Prints n kept = Unit {0}

pub data MainAt (threads : ℕ) (at : ℕ → ℕ) (lo hi : ℕ) (ready : Bool) (f : Frame) : Type 0 where
  Declaring : (i : Option ℤ) (k : List Work) (is : f ≡ main_frame i (settled Onward k) [])
      (left : Left k (Statement.Declare (at 0) 0 0 ∷ initialisation threads at ∷ round_statement threads at Creates ∷ behind threads at Creates))
      (lo_is : lo ≡ 0) (hi_is : hi ≡ 0) (not_yet : ready ≡ false) → MainAt threads at lo hi ready f
  Naming : (i : Option ℤ) (k : List Work) (is : f ≡ main_frame i (settled Onward k) [])
      (left : Left k (initialisation threads at ∷ round_statement threads at Creates ∷ behind threads at Creates)) (lo_is : lo ≡ 0) (hi_is : hi ≡ 0)
      (not_yet : ready ≡ false) → MainAt threads at lo hi ready f
  Initialising : (i : Option ℤ) (k : List Work) (is : f ≡ main_frame i (Perform (at 1) Act.MutexInit ∷ k) (pos 0 ∷ []))
      (left : Left k (round_statement threads at Creates ∷ behind threads at Creates)) (lo_is : lo ≡ 0) (hi_is : hi ≡ 0) (not_yet : ready ≡ false) →
      MainAt threads at lo hi ready f
  Beginning : (c : Round) (i : Option ℤ) (k : List Work) (is : f ≡ main_frame i (settled Onward k) [])
      (left : Left k (round_statement threads at c ∷ behind threads at c)) (count : IsCount threads at c 0 lo hi) (on : ready ≡ true) →
      MainAt threads at lo hi ready f
  Testing : (c : Round) (n : ℕ) (k : List Work) (is : f ≡ main_frame (Some (pos n)) (asked_work threads at c k) [])
      (left : Left k (behind threads at c)) (most : n ≤ threads) (count : IsCount threads at c n lo hi) (on : ready ≡ true) → MainAt threads at lo hi ready f
  Calling : (c : Round) (n : ℕ) (k : List Work) (is : f ≡ main_frame (Some (pos n)) (Do (body_of threads at c) ∷ Next (loop_of threads at c) ∷ k) [])
      (left : Left k (behind threads at c)) (less : n < threads) (count : IsCount threads at c n lo hi) (on : ready ≡ true) → MainAt threads at lo hi ready f
  Acting : (c : Round) (n : ℕ) (k : List Work) (kept : List ℤ)
      (is : f ≡ main_frame (Some (pos n)) (Perform (call_at threads at c) (act_of_round threads at c) ∷ Next (loop_of threads at c) ∷ k) kept)
      (operands : AreOperands threads at c n kept) (left : Left k (behind threads at c)) (less : n < threads) (count : IsCount threads at c n lo hi)
      (on : ready ≡ true) → MainAt threads at lo hi ready f
  Stepping : (c : Round) (n : ℕ) (k : List Work) (is : f ≡ main_frame (Some (pos n)) (Do (step_of threads at c) ∷ asked_work threads at c k) [])
      (left : Left k (behind threads at c)) (less : n < threads) (count : IsCount threads at c (suc n) lo hi) (on : ready ≡ true) →
      MainAt threads at lo hi ready f
  Summing : (i : Option ℤ) (k : List Work) (is : f ≡ main_frame i (settled Onward k) [])
      (left : Left k (behind threads at Prints)) (lo_is : lo ≡ threads) (hi_is : hi ≡ threads) (on : ready ≡ true) → MainAt threads at lo hi ready f
  Showing : (i : Option ℤ) (k : List Work) (kept : List ℤ) (is : f ≡ main_frame i (Perform (at 14) (Act.Print format) ∷ k) kept)
      (left : Left k (destruction threads at ∷ last_return threads at ∷ [])) (lo_is : lo ≡ threads) (hi_is : hi ≡ threads) (on : ready ≡ true) →
      MainAt threads at lo hi ready f
  Clearing : (i : Option ℤ) (k : List Work) (is : f ≡ main_frame i (settled Onward k) [])
      (left : Left k (destruction threads at ∷ last_return threads at ∷ [])) (lo_is : lo ≡ threads) (hi_is : hi ≡ threads) (on : ready ≡ true) →
      MainAt threads at lo hi ready f
  Destroying : (i : Option ℤ) (k : List Work) (is : f ≡ main_frame i (Perform (at 15) Act.MutexDestroy ∷ k) (pos 0 ∷ []))
      (left : Left k (last_return threads at ∷ [])) (lo_is : lo ≡ threads) (hi_is : hi ≡ threads) (on : ready ≡ true) → MainAt threads at lo hi ready f
  Returning : (i : Option ℤ) (k : List Work) (is : f ≡ main_frame i (settled Onward k) [])
      (left : Left k (last_return threads at ∷ [])) (lo_is : lo ≡ threads) (hi_is : hi ≡ threads) (off : ready ≡ false) → MainAt threads at lo hi ready f

module _ (threads : ℕ) (at : ℕ → ℕ) where
  -- ---- the whole

  abbrev pub IsReady : Bool → MutexState → Type 0
  IsReady true m = m ≢ Uninitialised
  IsReady false m = m ≡ Uninitialised

  -- the thread of that number is a worker that runs
  pub record HasOwner (workers : List Slot) (i : ℕ) : Type 0 where
    pub number : ℕ
    pub is : i ≡ suc number
    pub frames : List Frame
    pub runs : slice_get workers number ≡ Some (Running frames)

  pub record Live (p : Parts) : Type 0 where
    pub own_length : length p.own ≡ threads
    pub workers_length : length p.workers ≡ threads
    pub lo : ℕ
    pub hi : ℕ
    pub ready : Bool
    pub main : MainAt threads at lo hi ready p.frame
    pub mutex : IsReady ready p.mutex
    pub needs : ready ≡ false → hi ≤ lo
    pub slots : (j : ℕ) → j < threads → WorkerSlot threads lo hi p.mutex j (slice_get p.workers j)
    pub owner : (i : ℕ) → p.mutex ≡ Owned i → HasOwner p.workers i

  -- main touches data only where no other thread lives; a worker its own element, and the sum while it has the mutex
  abbrev pub IsAllowed : Parts → ℕ → Location → Type 0
  IsAllowed p zero place = (j : ℕ) → j < threads → slice_get p.workers j ≡ Some Unused
  IsAllowed p (suc j) place = (place ≡ record { variable = 1; index = j }) ⊎ ((place.variable ≡ 0) × (p.mutex ≡ Owned (suc j)))

  abbrev pub AreAllowed : Parts → ℕ → List Touch → Type 0
  AreAllowed p i touches = AllByRecursion (λ (a : Touch). IsAllowed p i a.place) touches

-- the program goes on, or has ended
pub data Invariant (threads : ℕ) (at : ℕ → ℕ) (s : State) : Type 0 where
  GoesOn : (p : Parts) (is : s ≡ state_of p) (live : Live threads at p) → Invariant threads at s
  Ended : (ended : s.ended ≡ true) (quiet : (i : ℕ) (frames : List Frame) → slice_get s.slots i ≡ Some (Running frames) → ⊥) → Invariant threads at s

-- what the next step of a thread comes to
pub data Outcome (threads : ℕ) (at : ℕ → ℕ) (P : Program) (p : Parts) (i : ℕ) : Type 0 where
  Waits : (cause : BlockedCause) (is : step P (state_of p) i ≡ Blocks cause) → Outcome threads at P p i
  Goes : (t : State) (is : step P (state_of p) i ≡ Steps t) (holds : Invariant threads at t)
      (touches : AreAllowed threads at p i (thread_touched P (state_of p) (slice_get (state_of p).slots i))) → Outcome threads at P p i
