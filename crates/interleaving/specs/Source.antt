-- A program of threads, of which no more is known than what its steps touch.
-- What a step is, the language's definition says; here stands what the theory of interleaving needs of it.
use Rattle.std.specs.Prelude.{◌≡◌, ℕ, List, [], ◌∷◌, ◌++◌, Bool}
use Rattle.interleaving.specs.Memory.{Location, Memory, Access, reads_of, memory_after}

-- what a state has for the next step of one thread
pub data Outcome (State : Type 0) : Type 0 where
  StepsTo : (to : State) → Outcome State
  Blocked : Outcome State
  Undefined : Outcome State

-- what a thread's next step is, as far as the thread's own local state and the shared memory tell
pub data View (Value Local : Type 0) : Type 0 where
  -- a move: it makes these accesses and leaves this local state
  Moves : (to : Local) (accesses : List (Access Value)) → View Value Local
  -- an act (of a mutex, a barrier, thread ids, the output), also where it is blocked or undefined; or the thread does not run
  Acts : View Value Local
  -- the return of the thread's outermost function: no act, it ends the thread and touches what its value reads
  Ends : (reads : List Location) → View Value Local
  -- undefined, whatever the other threads are at
  Fails : View Value Local

pub record Source (Value Local State : Type 0) : Type 0 where
  pub start : State
  pub step : State → ℕ → Outcome State
  pub is_ended : State → Bool
  pub is_live : State → ℕ → Bool
  pub local : State → ℕ → Local
  pub memory : State → Memory Value
  pub view : Local → Memory Value → View Value Local

-- what such a step touches, in order
abbrev pub touched_by : {Value Local : Type 0} → View Value Local → List (Access Value)
touched_by (Moves to accesses) = accesses
touched_by Acts = []
touched_by (Ends reads) = reads_of reads
touched_by Fails = []

-- a step that is not taken touches no data
abbrev pub if_taken : {Value State : Type 0} → Outcome State → List (Access Value) → List (Access Value)
if_taken (StepsTo t) es = es
if_taken Blocked es = []
if_taken Undefined es = []

abbrev pub IsNoAct : {Value Local : Type 0} → View Value Local → Type 0
IsNoAct (Moves to accesses) = Unit {0}
IsNoAct Acts = ⊥
IsNoAct (Ends reads) = Unit {0}
IsNoAct Fails = Unit {0}

-- one move of a run: the local state that it leaves, and its accesses
pub record Move (Value Local : Type 0) : Type 0 where
  pub to : Local
  pub accesses : List (Access Value)

-- all the accesses of a run, in order
abbrev pub accesses_of : {Value Local : Type 0} → List (Move Value Local) → List (Access Value)
accesses_of [] = []
accesses_of (h ∷ hs) = h.accesses ++ accesses_of hs

-- the local state where a run from x ends
abbrev pub end_of : {Value Local : Type 0} → Local → List (Move Value Local) → Local
end_of x [] = x
end_of x (h ∷ hs) = end_of h.to hs

module _ {Value Local State : Type 0} (P : Source Value Local State) where
  -- the next step of thread i in state s
  abbrev pub view_at : State → ℕ → View Value Local
  view_at s i = P.view (P.local s i) (P.memory s)

  -- what the next step of thread i touches
  abbrev pub footprint : State → ℕ → List (Access Value)
  footprint s i = if_taken (P.step s i) (touched_by (view_at s i))

  -- these are the next steps of a thread that runs alone from x and m, each of them a move
  abbrev pub RunsAlone : Local → Memory Value → List (Move Value Local) → Type 0
  RunsAlone x m [] = Unit {0}
  RunsAlone x m (h ∷ hs) = (P.view x m ≡ Moves h.to h.accesses) × RunsAlone h.to (memory_after h.accesses m) hs
