-- The plans of a program: the code of each function that threads run, and its plan.
use Rattle.std.specs.Prelude.{◌≡◌, ℕ, List, length, map, Some, slice_get, string_bytes}
use Rattle.c_program.specs.Tree.{Program}
use Rattle.c_program.specs.Counting.{capped}
use Rattle.c_program.specs.Weight.{weight, thread_functions}
use Rattle.code_following.specs.Idle.{operation_limit}
use Rattle.code_following.specs.Typed.{IsThreadCode}
use Rattle.block_refine.specs.Routines.{RoutineCode}
use Rattle.code_merge.specs.Maximal.{IsMaximal}
use Rattle.fsm_plan.specs.Planned.{IsPlanned}
use Rattle.law_routines.specs.Plans.{IsRoutine}
use Rattle.program_modules.specs.Numbers.{name_if}
use Rattle.program_plans.specs.declared.PlannedFunction.{PlannedFunction}

-- the thread function f by its name: its code, whose blocks are maximal, with at most 4 operations in each for each unit of the program's weight,
-- which counts up to 1,000,000 here, but 2 fewer for each block without steps; and the one plan of this code
pub record IsPlannedFunction (P : Program) (f : ℕ) (p : PlannedFunction) : Type 0 where
  pub named : string_bytes p.name ≡ name_if (slice_get P.functions f)
  pub code : IsThreadCode P f p.code
  pub maximal : IsMaximal (operation_limit (capped (weight P)) p.code.stages) p.code
  pub planned : IsPlanned p.code p.plan

-- THE PLANS OF A PROGRAM: one for each thread function, in their order, main's first
pub record ArePlanned (P : Program) (plans : List PlannedFunction) : Type 0 where
  pub count : length plans ≡ length (thread_functions P)
  pub each : (k f : ℕ) (p : PlannedFunction) → slice_get (thread_functions P) k ≡ Some f → slice_get plans k ≡ Some p → IsPlannedFunction P f p

-- the code of a planned function with its plan
abbrev pub routine_of : PlannedFunction → RoutineCode
routine_of p = record { code = p.code; plan = p.plan }

-- PLANNED FUNCTIONS ARE ROUTINES: each one's plan is right, so it is what a machine is built of
abbrev pub PlannedAreRoutines : Type 0
PlannedAreRoutines =
    (P : Program) (plans : List PlannedFunction) → ArePlanned P plans → (k f : ℕ) (c : RoutineCode) → slice_get (thread_functions P) k ≡ Some f →
    slice_get (map routine_of plans) k ≡ Some c → IsRoutine P f c
