-- The code of each function that threads run, by a right plan.
use Rattle.std.specs.Prelude.{◌≡◌, ◌⊎◌, ℕ, ◌+◌, ◌*◌, nat_lt, if◌then◌else◌, List, [], Contains}
use Rattle.c_program.specs.Tree.{Program}
use Rattle.c_program.specs.Weight.{weight, thread_functions}
use Rattle.c_program.specs.Resolved.{IsResolved}
use Rattle.bank_partition.specs.Shapes.{spreads_from}
use Rattle.code_following.specs.Idle.{fall}
use Rattle.code_following.specs.Typed.{most_operations, IsThreadCode}
use Rattle.plan_conditions.specs.Right.{IsRightPlan}
use Rattle.block_ir.specs.declared.code.Stage.{Stage}
use Rattle.block_refine.specs.Routines.{RoutineCode, Codes, rest_of}
use Rattle.law_threads.specs.Laws.{AreCoded}
use Rattle.law_cycle.specs.Built.{IsCode}

-- the code of a thread function, by a right plan
pub record IsRoutine (P : Program) (f : ℕ) (c : RoutineCode) : Type 0 where
  pub code : IsThreadCode P f c.code
  pub plan : IsRightPlan c.code c.plan

-- the codes of all functions: each that threads run has one, and each other one has one or none
pub record AreRoutines (P : Program) (codes : Codes) : Type 0 where
  pub threads : (f : ℕ) → Contains (thread_functions P) f → IsRoutine P f (codes f)
  pub each : (f : ℕ) → IsRoutine P f (codes f) ⊎ ((codes f).code.stages ≡ [])

-- the chain of a stage has what the largest block takes, and before it 9 for each block without steps that may come first: 8 at
-- most for its operation, and 1
abbrev pub stage_chain : Program → List Stage → ℕ → ℕ
stage_chain P stages l = 9 * fall stages l + (8 * most_operations P stages + 1)

-- that of a rest or a meeting has room for the stage to which it leads
abbrev pub chain_of : Program → Codes → ℕ → ℕ → ℕ
chain_of P codes f l = if nat_lt l (rest_of codes f) then stage_chain P (codes f).code.stages l else 32 * weight P + 2

-- ROUTINES ARE CODED: such codes do what their threads do, with room for each wake
abbrev pub RoutinesAreCoded : Type 0
RoutinesAreCoded = (P : Program) (codes : Codes) → IsResolved P → AreRoutines P codes → AreCoded P codes (chain_of P codes)

-- ROUTINES ARE CODE: each is what the machine is built of, whatever the banks of the globals, a printf having at most 4 values
abbrev pub RoutinesAreCode : Type 0
RoutinesAreCode = (P : Program) (threads : List ℕ) (codes : Codes) → AreRoutines P codes → (f : ℕ) → IsCode P (spreads_from threads 0 0 P.globals) (codes f) 4
