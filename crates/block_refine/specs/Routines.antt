-- The code of each function that threads run as planned blocks, by function, and that it does the steps of a thread that runs
-- the function in the sense of the theory of planned hardware.
use Rattle.std.specs.Prelude.{◌≡◌, ℕ, ◌<◌, List, length, ℤ, Option, Some, None, slice_get}
use Rattle.c_program.specs.Tree.{Function, Program}
use Rattle.c_program.specs.Weight.{weight, bound}
use Rattle.c_program.specs.Resolved.{IsResolved}
use Rattle.thread_semantics.specs.State.{Frame, started}
use Rattle.block_ir.specs.declared.block.Block.{Block as CodeBlock}
use Rattle.block_ir.specs.declared.code.Stage.{Stage}
use Rattle.block_ir.specs.declared.code.Stage.TheVariants as stage
use Rattle.block_ir.specs.declared.code.ThreadCode.{ThreadCode}
use Rattle.block_ir.specs.declared.plan.Planned.{Planned}
use Rattle.interleaving.specs.Memory.{Memory}
use Rattle.planned_block.specs.Block.{Block, IsOrdered}
use Rattle.planned_block.specs.Plan.{Plan}
use Rattle.planned_block.specs.Hardware.{IsLowered as IsLoweredCode}
use Rattle.planned_block.specs.Following.{AtStage, FollowsOn, AreChains, no_spare, code_of}
use Rattle.race_model.specs.Source.{Local, running, c_source}
use Rattle.code_following.specs.Following.{HasArguments, IsLowered}
use Rattle.block_refine.specs.Threads.{block_at, plan_at, AtActOf, IsTyped}

-- ---- stages as planned blocks

-- the code of a function, planned
pub record RoutineCode : Type 0 where
  pub code : ThreadCode
  pub plan : Planned

-- the code of each function
abbrev pub Codes : Type 0
Codes = ℕ → RoutineCode

abbrev pub stage_at : Codes → ℕ → ℕ → Option Stage
stage_at codes f l = slice_get (codes f).code.stages l

-- a thread that runs the function rests behind so many stages
abbrev pub rest_of : Codes → ℕ → ℕ
rest_of codes f = length (codes f).code.stages

abbrev pub blocks_of : Codes → ℕ → ℕ → Block
blocks_of codes f l = block_at (stage_at codes f l)

abbrev pub plans_of : Codes → ℕ → ℕ → Plan
plans_of codes f l = plan_at (stage_at codes f l) (slice_get (codes f).plan.stages l)

-- each block has a plan, of one state or more
abbrev pub ArePlanned : Codes → Type 0
ArePlanned codes = (f l : ℕ) (b : CodeBlock) → stage_at codes f l ≡ Some (stage.Run b) → 0 < (plans_of codes f l).states

-- ---- acts

-- at an act a thread runs, and its next step is that act, whatever the globals are; Next holds of where it goes on. At a block
-- it is at no act, and past the last stage no code follows a thread
abbrev pub AtStageOf : Program → AtStage Local → Option Stage → Local → (ℕ → ℤ) → Memory ℤ → Type 0
AtStageOf P Next None x variables arrays = ⊥
AtStageOf P Next (Some (stage.Run b)) x variables arrays = ⊥
AtStageOf P Next (Some (stage.Act a next)) x variables arrays = (frames : List Frame) × (x ≡ running frames) × AtActOf P Next a next variables arrays frames

abbrev pub AtAct : Program → Codes → AtStage Local → Local → ℕ → ℕ → (ℕ → ℤ) → Memory ℤ → Type 0
AtAct P codes Next x f l variables arrays = AtStageOf P Next (stage_at codes f l) x variables arrays

-- ---- the laws

-- where a thread of a program and its code stand: the code does the thread's steps from there on
abbrev pub Starts : Program → Codes → Local → ℕ → ℕ → (ℕ → ℤ) → Memory ℤ → Type 0
Starts P codes x f l variables arrays = FollowsOn (c_source P) (IsTyped P) (AtAct P codes) (blocks_of codes) (plans_of codes) f x l variables arrays

-- LOWERED CODE FOLLOWS: a thread that begins with a function of the program stands at the first stage of its code, with its arguments in
-- their variable and whatever in the others, and the code does its steps
abbrev pub CodeFollows : Type 0
CodeFollows =
    (P : Program) (codes : Codes) (f : ℕ) (function : Function) → IsResolved P → slice_get P.functions f ≡ Some function → IsLowered P f (codes f).code → ArePlanned codes →
    (variables : ℕ → ℤ) (arrays : Memory ℤ) (arguments : List ℤ) → HasArguments (codes f).code.argument variables arguments →
    Starts P codes (running (started (slice_get P.functions f) f arguments)) f 0 variables arrays

-- BLOCKS ARE STEPS: so in every reachable state the run of a block is so many steps of its thread, with 64 times (the weight
-- and 1) changes of its slot for each step
abbrev pub BlocksAreSteps : Type 0
BlocksAreSteps =
    (P : Program) (codes : Codes) (chain : ℕ → ℕ → ℕ) → IsResolved P → ((f l : ℕ) → IsOrdered (blocks_of codes f l)) →
    AreChains (blocks_of codes) (plans_of codes) chain no_spare (weight P) →
    IsLoweredCode (c_source P) (code_of (blocks_of codes) (plans_of codes) chain no_spare) (Starts P codes) (bound P)
