-- A run under way.
use Rattle.std.specs.Prelude.{◌≡◌, ℕ, ◌+◌, true, false, List, [], ◌∷◌, ◌++◌, length}
use Rattle.c_program.specs.Tree.{Program}
use Rattle.thread_semantics.specs.Step.{Undefines, is_blocked, step}
use Rattle.c_state.specs.View.{state_of}
use Rattle.turns.specs.Turns.{threads_of}
use Rattle.run_check.specs.declared.run.Run.{Run}
use Rattle.run_check.specs.declared.run.Progress.{Progress}
use Rattle.run_check.specs.declared.run.Progress.TheVariants as progress
use Rattle.thread_semantics.specs.Races.{Touch}
use Rattle.run_check.specs.declared.class.Class.{Class}
use Rattle.run_check.specs.declared.class.Class.TheVariants as class
use Rattle.run_check.specs.declared.known.Note.{Note}
use Rattle.run_check.specs.declared.known.Note.TheVariants as note
use Rattle.run_check.specs.declared.run.Reason.{Reason}
use Rattle.run_check.specs.declared.run.Reason.TheVariants as reason
use Rattle.run_check.specs.Clocks.{clock}
use Rattle.run_check.specs.Shadow.{IsNoted, Misses}
use Rattle.run_check.specs.Known.{shadow_of}
use Rattle.run_check.specs.Shown.{IsShown}
use Rattle.run_check.specs.Verdict.{IsReason}

-- its turns are shown, as many as it says
pub record IsRun (P : Program) (run : Run) : Type 0 where
  pub shown : IsShown P (threads_of run.turns.items) (state_of run.state) (shadow_of run.known)
  pub count : length (threads_of run.turns.items) ≡ run.steps

-- the step of a run is noted; its state is the one behind that step
pub record IsNotedRun (old new : Run) (i : ℕ) (c : Class) (touches : List Touch) (released : List ℕ) : Type 0 where
  pub state : new.state ≡ old.state
  pub noted : IsNoted (shadow_of old.known) (shadow_of new.known) i c touches released old.state.ended
  pub turns : threads_of new.turns.items ≡ threads_of old.turns.items ++ i ∷ []
  pub steps : new.steps ≡ old.steps + 1

-- what became of a step of a run that was to be noted
abbrev pub IsNotedAs : Run → Run → ℕ → Class → List Touch → List ℕ → Note → Type 0
IsNotedAs old new i c touches released note.Kept = IsNotedRun old new i c touches released
IsNotedAs old new i c touches released note.Unordered =
    (new.steps ≡ old.steps) × Misses (shadow_of old.known) (clock old.known.clocks.items i) c touches old.state.ended
IsNotedAs old new i c touches released note.NoRoom = new.steps ≡ old.steps

-- the run is as it was
pub record IsSameRun (old new : Run) : Type 0 where
  pub state : state_of new.state ≡ state_of old.state
  pub known : new.known ≡ old.known
  pub turns : new.turns ≡ old.turns
  pub steps : new.steps ≡ old.steps

-- why a run that comes to such a step, not ordered, shows nothing
abbrev pub reason_of : Class → Reason
reason_of (class.UsesMutex n) = reason.MutexLocked
reason_of (class.Waits n) = reason.BarrierWaited
reason_of c = reason.Unordered

-- where main hasn't returned, the run shows nothing for this reason
abbrev pub IsHeldUp : Program → Run → Run → Reason → Type 0
IsHeldUp P old new r = IsRun P old → (state_of old.state).ended ≡ false → IsReason P new.steps r

abbrev pub IsAdvanced : Program → Run → Run → ℕ → Progress → Type 0
IsAdvanced P old new i progress.Stepped = IsRun P old → IsRun P new × (new.steps ≡ old.steps + 1)
IsAdvanced P old new i progress.Blocked = IsSameRun old new × (is_blocked (step P (state_of old.state) i) ≡ true)
IsAdvanced P old new i (progress.Undefined thread offset cause) =
    IsSameRun old new × (step P (state_of old.state) thread ≡ Undefines offset cause)
IsAdvanced P old new i (progress.Unordered thread other class) = IsHeldUp P old new (reason_of class)
IsAdvanced P old new i progress.NoRoom = IsHeldUp P old new reason.TooFewSteps

-- what the next step of a run comes to
abbrev pub IsNext : Program → Run → Run → Progress → Type 0
IsNext P old new progress.Stepped = IsRun P old → IsRun P new × (new.steps ≡ old.steps + 1)
IsNext P old new progress.Blocked =
    IsSameRun old new × ((i : ℕ) → is_blocked (step P (state_of old.state) i) ≡ true)
IsNext P old new (progress.Undefined thread offset cause) =
    IsSameRun old new × (step P (state_of old.state) thread ≡ Undefines offset cause)
IsNext P old new (progress.Unordered thread other class) = IsHeldUp P old new (reason_of class)
IsNext P old new progress.NoRoom = IsHeldUp P old new reason.TooFewSteps

-- what a run is that has come to such a step before main has returned
abbrev pub IsStopped : Program → Run → Progress → Type 0
IsStopped P run progress.Stepped = ⊥
IsStopped P run progress.Blocked =
    IsRun P run × ((state_of run.state).ended ≡ false) × ((i : ℕ) → is_blocked (step P (state_of run.state) i) ≡ true)
IsStopped P run (progress.Undefined thread offset cause) =
    IsRun P run × ((state_of run.state).ended ≡ false) × (step P (state_of run.state) thread ≡ Undefines offset cause)
IsStopped P run (progress.Unordered thread other class) = IsReason P run.steps (reason_of class)
IsStopped P run progress.NoRoom = IsReason P run.steps reason.TooFewSteps
