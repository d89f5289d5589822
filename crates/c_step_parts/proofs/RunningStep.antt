-- The step of a thread that runs and doesn't wait is that of its own part.
use Rattle.std.proofs.Common.{◌≡◌, ℕ, false, List, refl, Some}
use Rattle.std.specs.Prelude.{slice_get}
use Rattle.std.specs.List.{list_any}
use Rattle.c_program.specs.Tree.{Program}
use Rattle.thread_semantics.specs.State.{Frame, Running, State}
use Rattle.thread_semantics.specs.Move.{move}
use Rattle.thread_semantics.specs.Step.{moved, is_waiter, step}

pub step_runs : (P : Program) (s : State) (i : ℕ) (frames : List Frame) → slice_get s.slots i ≡ Some (Running frames) → list_any (is_waiter i) s.barriers ≡ false →
    step P s i ≡ moved P s i (move P s.globals frames)
step_runs P s i frames running calm = rw (running, calm) refl
