-- What the code's plan of a step tells of the data that the step touches.
use Rattle.std.specs.Prelude.{ℕ, zero, suc, Bool, true, false, List, [], ◌∷◌, Option, None}
use Rattle.std.specs.List.{list_all}
use Rattle.thread_semantics.specs.State.{Frame, State}
use Rattle.thread_semantics.specs.Move.{Write}
use Rattle.thread_semantics.specs.Step.{is_unused, created_slots}
use Rattle.c_step_parts.specs.declared.plan.Plan.{Plan}
use Rattle.c_step_parts.specs.declared.plan.Plan.TheVariants as plan
use Rattle.c_state.specs.Change.{change_write}

abbrev pub plan_write : Plan → Option Write
plan_write (plan.Onward work kept change) = change_write change
plan_write (plan.Enter work callee) = None
plan_write (plan.Return offset value) = None
plan_write (plan.Perform offset act work) = None
plan_write (plan.Fault offset cause) = None
plan_write plan.Impossible = None

-- whether the outermost call of thread i may return: that of main only once each created thread is joined
abbrev pub may_end : State → ℕ → Bool
may_end s zero = list_all is_unused (created_slots s.slots)
may_end s (suc i) = true

abbrev pub may_return : State → ℕ → List Frame → Bool
may_return s i [] = may_end s i
may_return s i (g ∷ gs) = true

-- whether the step is taken and is no act
abbrev pub may_touch : State → ℕ → Plan → List Frame → Bool
may_touch s i (plan.Onward work kept change) callers = true
may_touch s i (plan.Enter work callee) callers = true
may_touch s i (plan.Return offset value) callers = may_return s i callers
may_touch s i (plan.Perform offset act work) callers = false
may_touch s i (plan.Fault offset cause) callers = false
may_touch s i plan.Impossible callers = false

abbrev pub has_callers : List Frame → Bool
has_callers [] = false
has_callers (g ∷ gs) = true
