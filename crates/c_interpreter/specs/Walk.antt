-- How a walk along a list of thread numbers ends.
use Rattle.std.specs.Prelude.{◌≡◌, ◌≤◌, ◌<◌, ◌+◌, ℕ, false, true, List, length, take, Option, Some, None, slice_get}
use Rattle.turns.specs.declared.Turn.{Turn}
use Rattle.c_program.specs.Tree.{Program}
use Rattle.thread_semantics.specs.State.{State}
use Rattle.thread_semantics.specs.Step.{Stepped, Steps, Blocks, Undefines, step, after}
use Rattle.c_interpreter.specs.declared.walk.WalkEnd.{WalkEnd}
use Rattle.c_interpreter.specs.declared.walk.WalkEnd.TheVariants as ends

abbrev pub Numbers : Type 0
Numbers = List ℕ

-- the first n listed steps lead to the state s, and none before the last of them ends main
pub record Takes (P : Program) (list : List ℕ) (n : ℕ) (s : State) : Type 0 where
  pub within : n ≤ length list
  pub taken : after P (take n list) ≡ Steps s
  pub earlier : (m : ℕ) (t : State) → m < n → after P (take m list) ≡ Steps t → t.ended ≡ false

-- the step at an index, from the state to which those before it lead, is this
pub record Comes (P : Program) (list : List ℕ) (index thread : ℕ) (s : State) (stepped : Stepped) : Type 0 where
  pub before : Takes P list index s
  pub running : s.ended ≡ false
  pub there : slice_get list index ≡ Some thread
  pub answer : step P s thread ≡ stepped

abbrev pub Prints : (State → Type 0) → List ℕ → Type 0
Prints Is output = (s : State) × Is s × (s.output ≡ output)

abbrev pub IsWalk : Program → List ℕ → WalkEnd → List ℕ → Type 0
IsWalk P list (ends.Ended steps) output = Prints (λ s. Takes P list steps s × (s.ended ≡ true)) output
IsWalk P list (ends.Listed steps) output =
    Prints (λ s. Takes P list steps s × (s.ended ≡ false) × (steps ≡ length list)) output
IsWalk P list (ends.Blocked index thread cause) output =
    Prints (λ s. Comes P list index thread s (Blocks cause)) output
IsWalk P list (ends.Undefined index offset cause) output =
    Prints (λ s. (thread : ℕ) × Comes P list index thread s (Undefines offset cause)) output

-- a list has one end, and one output
abbrev pub WalksOnce : Program → Type 0
WalksOnce P = (list : Numbers) (e f : WalkEnd) (x y : Numbers) → IsWalk P list e x → IsWalk P list f y → (e ≡ f) × (x ≡ y)

abbrev pub EachWalkEnds : Program → Type 0
EachWalkEnds P = (list : Numbers) → (end : WalkEnd) × (output : Numbers) × IsWalk P list end output

-- A walk under way.

-- the first n listed steps lead to the state s, and main hasn't returned there
pub record IsAt (P : Program) (list : List ℕ) (n : ℕ) (s : State) : Type 0 where
  pub so_far : Takes P list n s
  pub running : s.ended ≡ false

-- the list has the numbers of this turn from that index on
abbrev pub Lists : List ℕ → ℕ → Turn → Type 0
Lists list first turn = (k : ℕ) → k < turn.steps → slice_get list (first + k) ≡ Some turn.thread

-- the walk has come to the state s after n steps, or has ended so
abbrev pub WalksOn : Program → List ℕ → ℕ → State → Option WalkEnd → Type 0
WalksOn P list n s None = IsAt P list n s
WalksOn P list n s (Some end) = IsWalk P list end s.output
