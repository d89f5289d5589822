-- What is told of a text by one run of its program.
use Rattle.std.specs.Prelude.{◌≡◌, ℕ, ◌≤◌, true, false, Bool, List, [], ◌∷◌, ◌++◌, length, Option, Some, None, slice_get, string_bytes}
use Rattle.c_token.specs.Spelling.{Bytes}
use Rattle.c_program.specs.Tree.{GlobalVariable, Program}
use Rattle.thread_semantics.specs.declared.cause.UndefinedCause.{UndefinedCause}
use Rattle.thread_semantics.specs.Memory.{Location}
use Rattle.thread_semantics.specs.State.{State, start}
use Rattle.thread_semantics.specs.Step.{Steps, Undefines, step, after, IsDeadlocked}
use Rattle.thread_semantics.specs.Races.{Races, IsGood}
use Rattle.turns.specs.declared.Turn.{Turn}
use Rattle.turns.specs.Turns.{threads_of}
use Rattle.c_accepted.specs.Profile.{IsAccepted}
use Rattle.run_races.specs.Clean.{IsClean}
use Rattle.run_check.specs.Offsets.{step_offset}
use Rattle.run_check.specs.Race.{LeadsTo}
use Rattle.run_check.specs.Verdict.{IsReason}
use Rattle.check_command.specs.declared.run.RunTold.{RunTold}
use Rattle.check_command.specs.declared.run.RunTold.TheVariants as told

abbrev pub name_in : Option GlobalVariable → Bytes
name_in None = []
name_in (Some g) = g.name

-- the name of the global of that number
abbrev pub global_name : Program → ℕ → Bytes
global_name P n = name_in (slice_get P.globals n)

-- a clean run of so many steps shows the program good; each interleaving, carried on, comes to main's return within as many steps;
-- with one output, it then prints what the run prints
pub record IsShownGood (P : Program) (steps : ℕ) (one_output : Bool) : Type 0 where
  pub list : List ℕ
  pub count : length list ≡ steps
  pub clean : IsClean P (start P) list
  pub good : IsGood P
  pub ends : (other : List ℕ) (s : State) → after P other ≡ Steps s → (length other ≤ steps) × (IsDeadlocked P s → ⊥)
  pub once : one_output ≡ true → (t : State) → after P list ≡ Steps t → (other : List ℕ) (s : State) → after P other ≡ Steps s → s.ended ≡ true → s.output ≡ t.output

-- behind the turns two threads race at the global of this name, by the steps at these bytes: the program is not good
pub record IsShownRacing (P : Program) (turns : List Turn) (first second : ℕ) (name : Bytes) : Type 0 where
  pub state : State
  pub leads : LeadsTo P turns state
  pub one : ℕ
  pub other : ℕ
  pub place : Location
  pub races : Races P state one other place
  pub first_at : first ≡ step_offset P state one
  pub second_at : second ≡ step_offset P state other
  pub named : name ≡ global_name P place.variable
  pub bad : IsGood P → ⊥

-- of the turns the last step is undefined, for this cause at this byte, and main hasn't returned before it: the program is not good
pub record IsShownUndefined (P : Program) (turns : List Turn) (offset : ℕ) (cause : UndefinedCause) : Type 0 where
  pub before : List ℕ
  pub thread : ℕ
  pub list : threads_of turns ≡ before ++ thread ∷ []
  pub state : State
  pub taken : after P before ≡ Steps state
  pub running : state.ended ≡ false
  pub undefined : step P state thread ≡ Undefines offset cause
  pub bad : IsGood P → ⊥

abbrev pub IsRunTold : Program → RunTold → Type 0
IsRunTold P (told.Good steps one_output) = IsShownGood P steps one_output
IsRunTold P (told.Race turns first second name) = IsShownRacing P turns.items first second (string_bytes name)
IsRunTold P (told.Undefined turns offset cause) = IsShownUndefined P turns.items offset cause
IsRunTold P (told.Unknown steps reason) = IsReason P steps reason

-- the text is accepted as a program of which this is told
abbrev pub IsRunToldOf : Bytes → RunTold → Type 0
IsRunToldOf text t = (P : Program) × (w : ℕ) × IsAccepted text P w × IsRunTold P t
