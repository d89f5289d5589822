-- What one run of a program shows.
use Rattle.std.specs.Prelude.{◌≡◌, ℕ, true, false, List, Some, length}
use Rattle.c_program.specs.Tree.{Program}
use Rattle.thread_semantics.specs.State.{State, start}
use Rattle.thread_semantics.specs.Step.{Steps, Undefines, step, after, IsDeadlocked}
use Rattle.turns.specs.Turns.{threads_of}
use Rattle.run_races.specs.Order.{mutex_of_move, awaited}
use Rattle.run_races.specs.Clean.{IsClean, IsOrdered}
use Rattle.run_check.specs.Race.{IsFound}
use Rattle.run_check.specs.Unordered.{ComesUnordered, PrintsUnordered}
use Rattle.run_check.specs.declared.run.Reason.{Reason}
use Rattle.run_check.specs.declared.run.Reason.TheVariants as reason
use Rattle.run_check.specs.declared.run.RunVerdict.{RunVerdict}
use Rattle.run_check.specs.declared.run.RunVerdict.TheVariants as verdict

-- a run of so many steps leads to such a state, and main hasn't returned there
abbrev pub Leads : Program → ℕ → (State → Type 0) → Type 0
Leads P steps Is =
    (list : List ℕ) × (s : State) × (length list ≡ steps) × (after P list ≡ Steps s) × (s.ended ≡ false) × Is s

abbrev pub IsReason : Program → ℕ → Reason → Type 0
IsReason P steps reason.TooFewSteps = Leads P steps (λ s. Unit {0})
IsReason P steps reason.Deadlock = Leads P steps (IsDeadlocked P)
-- two acts on one mutex are unordered
IsReason P steps reason.MutexLocked = ComesUnordered P steps (λ m. (x : ℕ) × (mutex_of_move m ≡ Some x))
-- a wait at a barrier and an earlier act there are unordered
IsReason P steps reason.BarrierWaited = ComesUnordered P steps (λ m. (x : ℕ) × (awaited m ≡ Some x))
-- two steps are unordered that depend on one another
IsReason P steps reason.Unordered = ComesUnordered P steps (λ m. Unit {0})

-- WHAT A RUN SHOWS
abbrev pub IsVerdict : Program → RunVerdict → Type 0
-- a clean run of so many steps: by the law of clean runs the program is good; with one output, one whose prints are ordered
-- too: by the law of those each interleaving that comes to main's return prints what this run prints; without, two prints of
-- it are unordered
IsVerdict P (verdict.Good steps one_output) =
    (list : List ℕ) × (length list ≡ steps) × IsClean P (start P) list × (one_output ≡ true → IsOrdered P (start P) list)
    × (one_output ≡ false → PrintsUnordered P list)
IsVerdict P (verdict.Race race) = IsFound P race
IsVerdict P (verdict.Undefined turns thread offset cause) =
    (s : State) × (after P (threads_of turns.items) ≡ Steps s) × (s.ended ≡ false)
    × (step P s thread ≡ Undefines offset cause)
IsVerdict P (verdict.Unknown steps reason) = IsReason P steps reason
