-- What is kept of a run stands for its steps (Lamport 1978: who has heard of a step is behind it).
use Rattle.std.specs.Prelude.{◌≡◌, ◌⊎◌, ℕ, ◌≤◌, Bool, true, false, List, ◌++◌, Some, slice_get, Contains}
use Rattle.c_program.specs.Tree.{Program}
use Rattle.thread_semantics.specs.Memory.{Location}
use Rattle.thread_semantics.specs.State.{State, start}
use Rattle.thread_semantics.specs.Move.{Move}
use Rattle.thread_semantics.specs.Step.{Steps, after}
use Rattle.thread_semantics.specs.Races.{Touch, touched}
use Rattle.run_races.specs.Order.{next_move, awaited, prints, waits_in, Depends, DependsOrPrints, AllOrderedBy}
use Rattle.run_races.specs.Clean.{IsOrderedBy}
use Rattle.run_check.specs.declared.clocks.Stamp.{Stamp}
use Rattle.run_check.specs.Class.{class_of, mutex_of, barrier_of, id_of}
use Rattle.run_check.specs.Shadow.{Shadow, stamp}
use Rattle.run_check.specs.Unordered.{StepOf, has_heard, Sets, PrintsUnordered}

-- who has heard of this step has heard of an earlier one
pub record Covers (clock : ℕ → ℕ → ℕ) (step : Stamp) (heard : ℕ → Bool) : Type 0 where
  pub past : step.number ≤ clock step.thread step.thread
  pub known : (j : ℕ) → step.number ≤ clock j step.thread → heard j ≡ true

-- no thread has heard of more steps of a thread than it has taken
abbrev pub HasPeaks : (ℕ → ℕ → ℕ) → Type 0
HasPeaks clock = (j k : ℕ) → clock j k ≤ clock k k

-- thread i, whose wait this was, still waits there
pub record IsWaiting (s : State) (i : ℕ) (m : Move) (again : Bool) (x : ℕ) : Type 0 where
  pub at : awaited m ≡ Some x
  pub still : again ≡ false
  pub waits : waits_in i (slice_get s.barriers x) ≡ true

-- what is kept stands for the earlier move m of thread i, of which these threads have heard
pub record StandsFor (s : State) (K : Shadow) (i : ℕ) (m : Move) (heard : ℕ → Bool) (again : Bool) : Type 0 where
  pub number : ℕ
  pub own : Covers K.clock (stamp i number) heard
  pub written : (t : Touch) → Contains (touched m) t → t.written ≡ true → Covers K.clock (K.write t.place) heard
  pub was_read : (t : Touch) → Contains (touched m) t → t.written ≡ false → Covers K.clock (stamp i (K.read t.place i)) heard
  pub print : K.one_output ≡ true → prints m ≡ true → Covers K.clock K.print heard
  pub mutex : (x : ℕ) → mutex_of (class_of m) ≡ Some x → Covers K.clock (K.mutex x) heard
  pub id : (x : ℕ) → id_of (class_of m) ≡ Some x → Covers K.clock (K.id x) heard
  pub barrier : (x : ℕ) → barrier_of (class_of m) ≡ Some x → Covers K.clock (K.barrier x) heard ⊎ IsWaiting s i m again x

-- the list is, by the dependence D, an ordered run as far as it goes: it is one with each rest in which the steps that what is
-- kept stands for are ordered
abbrev pub GoesOn : (Move → ℕ → Move → Type 0) → Program → List ℕ → State → Shadow → Type 0
GoesOn D P list s K =
    (rest : List ℕ) →
    ((i : ℕ) (m : Move) (h : ℕ → Bool) (again : Bool) → StandsFor s K i m h again → AllOrderedBy D P i m h again s rest) →
    IsOrderedBy D P s rest → IsOrderedBy D P (start P) (list ++ rest)

-- the stamp is that of a step of the list, such a one: who has heard of that step has heard of as many of its thread
pub record IsTraced (P : Program) (list : List ℕ) (clock : ℕ → ℕ → ℕ) (step : Stamp) (Is : State → ℕ → Type 0) : Type 0 where
  pub at : StepOf P list
  pub thread : at.thread ≡ step.thread
  pub is : Is at.state at.thread
  pub heard : (j : ℕ) → has_heard P list at j ≡ true → step.number ≤ clock j step.thread

abbrev pub Traced : Program → List ℕ → (ℕ → ℕ → ℕ) → Stamp → (State → ℕ → Type 0) → Type 0
Traced P list clock step Is = (step.number ≡ 0) ⊎ IsTraced P list clock step Is

-- the next step of thread i touches that place, or writes it; is on that mutex, or that thread id; prints
abbrev pub Touches : Program → Location → State → ℕ → Type 0
Touches P p s i = (t : Touch) × Contains (touched (next_move P s i)) t × (t.place ≡ p)

abbrev pub Writes : Program → Location → State → ℕ → Type 0
Writes P p s i = (t : Touch) × Contains (touched (next_move P s i)) t × (t.place ≡ p) × (t.written ≡ true)

abbrev pub UsesMutex : Program → ℕ → State → ℕ → Type 0
UsesMutex P x s i = mutex_of (class_of (next_move P s i)) ≡ Some x

abbrev pub UsesId : Program → ℕ → State → ℕ → Type 0
UsesId P x s i = id_of (class_of (next_move P s i)) ≡ Some x

abbrev pub Prints : Program → State → ℕ → Type 0
Prints P s i = prints (next_move P s i) ≡ true

abbrev pub Any : State → ℕ → Type 0
Any s i = Unit {0}

-- all that is kept is of steps of the list
pub record IsOf (P : Program) (list : List ℕ) (K : Shadow) : Type 0 where
  pub own : (k : ℕ) → Traced P list K.clock (stamp k (K.clock k k)) Any
  pub write : (p : Location) → Traced P list K.clock (K.write p) (Writes P p)
  pub read : (p : Location) (k : ℕ) → Traced P list K.clock (stamp k (K.read p k)) (Touches P p)
  pub mutex : (x : ℕ) → Traced P list K.clock (K.mutex x) (UsesMutex P x)
  pub barrier : (x : ℕ) → Traced P list K.clock (K.barrier x) (Sets P x)
  pub id : (x : ℕ) → Traced P list K.clock (K.id x) (UsesId P x)
  pub print : Traced P list K.clock K.print (Prints P)

-- the list leads to the state s, and it is a clean run as far as it goes, whose prints are ordered too where that is kept, and not where it isn't
pub record IsShown (P : Program) (list : List ℕ) (s : State) (K : Shadow) : Type 0 where
  pub taken : after P list ≡ Steps s
  pub peaks : HasPeaks K.clock
  pub kept : IsOf P list K
  pub clean : GoesOn Depends P list s K
  pub outputs : K.one_output ≡ true → GoesOn DependsOrPrints P list s K
  pub outputs_lost : K.one_output ≡ false → PrintsUnordered P list
