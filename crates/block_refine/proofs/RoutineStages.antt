-- Code that does what a thread does, stage after stage, follows it in the sense of the theory of planned hardware.
use Rattle.std.proofs.Common.{◌≡◌, ℕ, zero, suc, ◌<◌, List, [], length, refl, ap, sym, ◌∙◌, subst, arith}
use Rattle.std.specs.Prelude.{ℤ, pos, Option, Some, None, slice_get, unwrap_or}
use mathlib.Core.Path.{fun_ext}
use Rattle.std.proofs.Math.Nat.{lt_irrefl}
use Rattle.c_program.specs.Tree.{Program}
use Rattle.c_program.specs.Resolved.{IsResolved}
use Rattle.thread_semantics.specs.State.{Frame}
use Rattle.thread_semantics.specs.Move.{Move, move}
use Rattle.block_ir.specs.Run.{Cells, Access as CodeAccess, Running as CodeRunning, block_run as code_run, variables_after, stage_after}
use Rattle.block_ir.specs.declared.block.Block.{Block as CodeBlock}
use Rattle.block_ir.specs.declared.code.Act.{Act as CodeAct}
use Rattle.block_ir.specs.declared.code.Act.TheVariants as act
use Rattle.block_ir.specs.declared.code.Stage.{Stage}
use Rattle.block_ir.specs.declared.code.Stage.TheVariants as stage
use Rattle.interleaving.specs.Memory.{Memory}
use Rattle.interleaving.specs.Source.{Move as SourceMove, accesses_of, end_of, RunsAlone}
use Rattle.interleaving.specs.Hardware.{OnlyMoves}
use Rattle.planned_block.specs.Block.{Block, operand_value, finished, leads_to}
use Rattle.planned_block.specs.Run.{Running, block_run}
use Rattle.plan_blocks.specs.View.{planned_view, memory_of as memory_of_cells, accesses_view}
use Rattle.plan_blocks.specs.Alike.{AreAlike}
use Rattle.plan_blocks.proofs.ViewRuns.{runs_alike}
use Rattle.planned_block.specs.Following.{AtStage, IsStage, Follows}
use Rattle.race_model.specs.Source.{Local, running, c_source}
use Rattle.race_model.proofs.Shape.{HasShape}
use Rattle.race_model.proofs.Moves.{AreFrames, IsMove, move_is}
use Rattle.code_following.specs.Following.{AfterMoves, HoldGlobals, IsAct, DoesSteps, DoesAct, DoesStage}
use Rattle.code_following.specs.Following.{Follows as CodeFollows}
use Rattle.block_refine.specs.Threads.{block_at, plan_at, AtActOf, IsTyped}
use Rattle.block_refine.specs.Routines.{Codes, stage_at, blocks_of, plans_of, ArePlanned, AtStageOf, AtAct}
use Rattle.block_refine.proofs.Steps.{RunEnds, only_moves, run_ends}

-- what the theory says of the next n stages
abbrev pub Followed : Program → Codes → ℕ → ℕ → AtStage Local
Followed P codes f = Follows (c_source P) (IsTyped P) (AtAct P codes) (blocks_of codes) (plans_of codes) f

module _ (P : Program) (R : IsResolved P) (codes : Codes) (planned : ArePlanned codes) (f : ℕ) where
  -- what the code's definition says of them gives what the theory says
  abbrev Gives : ℕ → Type 0
  Gives n =
      (l : ℕ) (variables : ℕ → ℤ) (arrays : Cells) (frames : List Frame) → AreFrames P frames → CodeFollows P (codes f).code.stages n l variables arrays frames →
      Followed P codes f n (running frames) l variables (memory_of_cells arrays)

  module _ (n : ℕ) (later : Gives n) (l : ℕ) (variables : ℕ → ℤ) (arrays : Cells) (frames : List Frame) (are : AreFrames P frames) where
    -- a block, from a memory of the program's globals
    module _ (b : CodeBlock) (q : stage_at codes f l ≡ Some (stage.Run b)) (does : DoesSteps P (CodeFollows P (codes f).code.stages n) b variables arrays frames)
        (m : Memory ℤ) (typed : IsTyped P m) where
      abbrev cells : Cells
      cells = λ x j. m (record { object = x; index = j })

      abbrev code_ran : CodeRunning
      code_ran = code_run b variables arrays cells

      abbrev ran : Running
      ran = block_run (planned_view b) variables (memory_of_cells arrays) m

      abbrev Next : List Frame → List CodeAccess → Type 0
      Next = λ after made. (code_ran.accesses ≡ made)
          × CodeFollows P (codes f).code.stages n (stage_after b variables code_ran) (variables_after b variables code_ran) code_ran.arrays after

      alike : AreAlike b variables code_ran ran
      alike = runs_alike b variables arrays cells

      here : blocks_of codes f l ≡ planned_view b
      here = ap block_at q

      shape : HasShape P typed.globals
      shape = record { lengths = typed.lengths }

      holds : HoldGlobals typed.globals cells
      holds x j v at = ap (λ (k : Memory ℤ). k (record { object = x; index = j })) typed.is ∙ ap (λ (o : Option ℤ). unwrap_or o (pos 0)) at

      after : AfterMoves P b.steps frames typed.globals [] Next
      after = does.steps typed.globals cells holds

      ended : (hs : List (SourceMove ℤ Local)) → RunsAlone (c_source P) (running frames) m hs → length hs ≡ (blocks_of codes f l).steps →
          RunEnds P R frames [] Next hs
      ended hs run e =
          run_ends P R b.steps frames typed.globals [] Next m are shape typed.is after hs run (e ∙ ap (λ (z : Block). z.steps) here)

      led : (hs : List (SourceMove ℤ Local)) → RunEnds P R frames [] Next hs →
          Followed P codes f n (end_of (running frames) hs) (leads_to (operand_value variables ran.values) (planned_view b).next)
          (finished (operand_value variables ran.values) (planned_view b).finals variables) ran.arrays
      led hs end =
          subst (λ x. Followed P codes f n x (leads_to (operand_value variables ran.values) (planned_view b).next)
          (finished (operand_value variables ran.values) (planned_view b).finals variables) ran.arrays) (sym end.ends)
          (subst (λ k. Followed P codes f n (running end.after) k (finished (operand_value variables ran.values) (planned_view b).finals variables) ran.arrays) (sym alike.stage)
          (subst (λ v. Followed P codes f n (running end.after) (stage_after b variables code_ran) v ran.arrays) (sym (fun_ext alike.variables_after_it))
          (subst (λ a. Followed P codes f n (running end.after) (stage_after b variables code_ran) (variables_after b variables code_ran) a) (sym (fun_ext alike.arrays))
          (later (stage_after b variables code_ran) (variables_after b variables code_ran) code_ran.arrays end.after end.are end.next.1))))

      block_stage : IsStage (c_source P) (IsTyped P) (AtAct P codes) (blocks_of codes) (plans_of codes) f (Followed P codes f n) (running frames) l variables
          (memory_of_cells arrays) m
      block_stage = record {
        only_moves =
            subst (λ (z : Block). OnlyMoves (c_source P) z.steps (running frames) m) (sym here)
            (only_moves P R b.steps frames typed.globals [] Next m are shape typed.is after);
        accesses = λ hs run e.
            let end = ended hs run e in
            subst (λ (z : Block). (block_run z variables (memory_of_cells arrays) m).accesses ≡ accesses_of hs) (sym here)
            (alike.accesses ∙ ap accesses_view end.next.0 ∙ end.accesses);
        leads = λ hs run e.
            subst (λ (z : Block). Followed P codes f n (end_of (running frames) hs)
            (leads_to (operand_value variables (block_run z variables (memory_of_cells arrays) m).values) z.next)
            (finished (operand_value variables (block_run z variables (memory_of_cells arrays) m).values) z.finals variables)
            (block_run z variables (memory_of_cells arrays) m).arrays) (sym here)
            (led hs (ended hs run e));
      }

    -- an act
    is_act : (a : CodeAct) (next : ℕ) (mv : Move) → IsMove P mv →
        IsAct P variables a mv (λ after. CodeFollows P (codes f).code.stages n next variables arrays after) →
        IsAct P variables a mv (λ after. Followed P codes f n (running after) next variables (memory_of_cells arrays))
    is_act a next (Move.Moves new reads write) is k = k
    is_act a next (Move.Acts offset c operands new) is k = (k.0, later next variables arrays new is.0 k.1)
    is_act a next (Move.Ends offset reads) is k = k
    is_act a next (Move.Faults offset cause) is k = tt
    is_act a next Move.Impossible is k = absurd is

    at_act : (a : CodeAct) (next : ℕ) → DoesAct P (CodeFollows P (codes f).code.stages n) a next variables arrays frames →
        AtActOf P (Followed P codes f n) a next variables (memory_of_cells arrays) frames
    at_act act.Return next does = does
    at_act a next does = λ globals. is_act a next (move P globals frames) (move_is P R globals frames are) (does globals)

    at_stage : (o : Option Stage) → stage_at codes f l ≡ o → DoesStage P (CodeFollows P (codes f).code.stages n) o variables arrays frames →
        Followed P codes f (suc n) (running frames) l variables (memory_of_cells arrays)
    at_stage None q does = absurd does
    at_stage (Some (stage.Run b)) q does =
        (λ some m typed. block_stage b q does m typed, λ none. let some = planned f l b q in absurd (omega arith))
    at_stage (Some (stage.Act a next)) q does = (
      λ some. absurd (lt_irrefl 0 (subst (λ o. 0 < (plan_at o (slice_get (codes f).plan.stages l)).states) q some)),
      λ none. subst (λ o. AtStageOf P (Followed P codes f n) o (running frames) variables (memory_of_cells arrays)) (sym q) (frames, refl, at_act a next does),
    )

  pub follows : (n : ℕ) → Gives n
  follows zero l variables arrays frames are does = tt
  follows (suc n) l variables arrays frames are does = at_stage n (follows n) l variables arrays frames are (stage_at codes f l) refl does
