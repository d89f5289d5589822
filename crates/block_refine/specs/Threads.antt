-- The stages of the code of a thread as planned blocks, and where a thread stands at an act of its code.
use Rattle.std.specs.Prelude.{◌≡◌, ℕ, List, [], map, length, ℤ, Option, Some, None}
use Rattle.c_program.specs.Tree.{GlobalVariable, Program}
use Rattle.thread_semantics.specs.State.{Frame}
use Rattle.thread_semantics.specs.Move.{move}
use Rattle.block_ir.specs.declared.code.Act.{Act as CodeAct}
use Rattle.block_ir.specs.declared.code.Act.TheVariants as act
use Rattle.block_ir.specs.declared.code.Stage.{Stage}
use Rattle.block_ir.specs.declared.code.Stage.TheVariants as stage
use Rattle.block_ir.specs.declared.plan.StagePlan.{StagePlan}
use Rattle.block_ir.specs.declared.plan.StagePlan.TheVariants as planned
use Rattle.interleaving.specs.Memory.{Memory}
use Rattle.planned_block.specs.Block.{Block, Jump}
use Rattle.planned_block.specs.Plan.{Plan}
use Rattle.plan_blocks.specs.View.{planned_view, plan_view}
use Rattle.planned_block.specs.Following.{AtStage}
use Rattle.race_model.specs.Source.{Local, running, memory_of}
use Rattle.code_following.specs.Following.{IsAct, IsEnd}

-- ---- stages as planned blocks

abbrev pub no_block : Block
no_block = record { operations = []; finals = []; next = Jump 0; steps = 0 }

-- an act has no block, and its plan no state
abbrev pub no_plan : Plan
no_plan = record { start = λ k. 0; states = 0; register = λ k. None; until = λ k. 0 }

abbrev pub block_at : Option Stage → Block
block_at (Some (stage.Run b)) = planned_view b
block_at _ = no_block

abbrev pub plan_at : Option Stage → Option StagePlan → Plan
plan_at (Some (stage.Run b)) (Some (planned.Run p)) = plan_view b p
plan_at s p = no_plan

-- ---- acts

-- the next step of a thread with these calls is that act, whatever the globals are; Next holds of where it goes on. A return is the last act
abbrev pub AtActOf : Program → AtStage Local → CodeAct → ℕ → (ℕ → ℤ) → Memory ℤ → List Frame → Type 0
AtActOf P Next act.Return next variables arrays frames = (globals : List (List ℤ)) → IsEnd (move P globals frames)
AtActOf P Next a next variables arrays frames =
    (globals : List (List ℤ)) → IsAct P variables a (move P globals frames) (λ after. Next (running after) next variables arrays)

-- ---- memories

-- the memory of some globals of the program's lengths
pub record IsTyped (P : Program) (m : Memory ℤ) : Type 0 where
  pub globals : List (List ℤ)
  pub lengths : map length globals ≡ map (λ (g : GlobalVariable). g.length) P.globals
  pub is : m ≡ memory_of globals
