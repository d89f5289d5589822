-- What the code answers on the next step of a thread.
use Rattle.std.specs.Prelude.{◌≡◌, ℕ, false, List, ◌∷◌, Some, Result, Ok, Err, slice_get}
use Rattle.std.specs.List.{list_any}
use Rattle.c_program.specs.Tree.{Program}
use Rattle.thread_semantics.specs.declared.cause.BlockedCause.{BlockedCause}
use Rattle.thread_semantics.specs.State.{Frame, Running, State}
use Rattle.thread_semantics.specs.Move.{move}
use Rattle.thread_semantics.specs.Step.{Blocks, is_waiter, step}
use Rattle.c_step_parts.specs.declared.plan.Plan.{Plan}
use Rattle.c_step_parts.specs.Plan.{erased, plan_of}

-- thread i runs and doesn't wait at a barrier, and this is its own part of its next step
pub record IsPlan (P : Program) (s : State) (i : ℕ) (plan : Plan) : Type 0 where
  pub call : Frame
  pub callers : List Frame
  pub running : slice_get s.slots i ≡ Some (Running (call ∷ callers))
  pub calm : list_any (is_waiter i) s.barriers ≡ false
  pub planned : plan_of P plan call callers ≡ erased (move P s.globals (call ∷ callers))

-- the thread's own part of its next step, or why the step is blocked
abbrev pub IsPlanned : Program → State → ℕ → Result Plan BlockedCause → Type 0
IsPlanned P s i (Ok plan) = IsPlan P s i plan
IsPlanned P s i (Err cause) = step P s i ≡ Blocks cause
