-- Two steps of a run that depend on one another, of which the earlier one doesn't happen before the later one (Lamport 1978).
use Rattle.std.specs.Prelude.{◌≡◌, ℕ, Bool, true, false, nat_eq, List, [], ◌∷◌, ◌++◌, Some, length}
use Rattle.c_program.specs.Tree.{Program}
use Rattle.thread_semantics.specs.State.{State}
use Rattle.thread_semantics.specs.Move.{Move}
use Rattle.thread_semantics.specs.Step.{Stepped, Steps, step, after}
use Rattle.run_races.specs.Order.{next_move, told, awaited, prints, Depends}
use Rattle.run_check.specs.Class.{class_of, barrier_set, released_by}

-- who has heard of a step behind this list, where these had before it
abbrev pub heard_behind : Program → Stepped → List ℕ → (ℕ → Bool) → ℕ → Bool
heard_behind P stepped [] heard = heard
heard_behind P (Steps s) (i ∷ list) heard = heard_behind P (step P s i) list (told s i (next_move P s i) heard)
heard_behind P stepped (i ∷ list) heard = heard

-- a step of the list, the next one of a thread in a state: that thread and the rest of the list
pub record StepOf (P : Program) (list : List ℕ) : Type 0 where
  pub before : List ℕ
  pub thread : ℕ
  pub behind : List ℕ
  pub is : list ≡ before ++ thread ∷ behind
  pub state : State
  pub taken : after P before ≡ Steps state

-- who has heard of it behind the list
abbrev pub has_heard : (P : Program) (list : List ℕ) → StepOf P list → ℕ → Bool
has_heard P list e = heard_behind P (Steps e.state) (e.thread ∷ e.behind) (nat_eq e.thread)

-- the next step of thread i sets that barrier up, takes it away or, by a wait, lets threads go there
abbrev pub Sets : Program → ℕ → State → ℕ → Type 0
Sets P x s i = barrier_set (class_of (next_move P s i)) (released_by s i (class_of (next_move P s i))) ≡ Some x

-- a run of so many steps, on which main hasn't returned, leads to a state in which a thread takes such a step, which depends on a step of
-- the run of which the thread hasn't heard, so that this one doesn't happen before it. A wait at a barrier is so by an earlier act there
-- that isn't a wait of one meeting with it
pub record ComesUnordered (P : Program) (steps : ℕ) (Is : Move → Type 0) : Type 0 where
  pub list : List ℕ
  pub count : length list ≡ steps
  pub state : State
  pub taken : after P list ≡ Steps state
  pub running : state.ended ≡ false
  pub thread : ℕ
  pub next : State
  pub goes : step P state thread ≡ Steps next
  pub kind : Is (next_move P state thread)
  pub earlier : StepOf P list
  pub depends : Depends (next_move P earlier.state earlier.thread) thread (next_move P state thread)
  pub sets : (x : ℕ) → awaited (next_move P state thread) ≡ Some x → Sets P x earlier.state earlier.thread
  pub unheard : has_heard P list earlier thread ≡ false

-- two steps of the list print, and the thread of the later one hasn't heard of the earlier one
pub record PrintsUnordered (P : Program) (list : List ℕ) : Type 0 where
  pub later : StepOf P list
  pub prints_later : prints (next_move P later.state later.thread) ≡ true
  pub earlier : StepOf P later.before
  pub prints_earlier : prints (next_move P earlier.state earlier.thread) ≡ true
  pub unheard : has_heard P later.before earlier later.thread ≡ false
