-- What the acts of the code of any thread are to the program: the steps of the thread that are no moves.
use Rattle.std.specs.Prelude.{◌≡◌, ◌≢◌, ℕ, List, ℤ, Some, true}
use Rattle.c_program.specs.Tree.{Program}
use Rattle.c_program.specs.Resolved.{IsResolved}
use Rattle.thread_semantics.specs.State.{Frame, Running, State}
use Rattle.thread_semantics.specs.Work.{Act}
use Rattle.thread_semantics.specs.Step.{Steps, with_slot, acted, step}
use Rattle.block_ir.specs.declared.code.Act.{Act as CodeAct}
use Rattle.block_ir.specs.declared.code.Act.TheVariants as act
use Rattle.block_ir.specs.declared.code.Stage.TheVariants as stage
use Rattle.interleaving.specs.Memory.{Location, Memory}
use Rattle.interleaving.specs.Source.{View, view_at}
use Rattle.interleaving.specs.Interleaving.{Reachable}
use Rattle.race_model.specs.Source.{local_of, running, c_source}
use Rattle.race_model.specs.Orderly.{is_over}
use Rattle.code_following.specs.Following.{SameAct}
use Rattle.block_refine.specs.Acts.{IsDefined, KeepsOthers}
use Rattle.block_refine.specs.Routines.{Codes, stage_at, Starts}

-- the next step of thread i, which has these calls, is that act of the program, which may also block; once it is done the thread goes on with
-- other calls at the stage next
pub record IsStepOf (P : Program) (codes : Codes) (s : State) (i f next : ℕ) (variables : ℕ → ℤ) (arrays : Memory ℤ) (a : CodeAct) : Type 0 where
  pub calls : List Frame
  pub runs : local_of s i ≡ running calls
  pub offset : ℕ
  pub act : Act
  pub operands : List ℤ
  pub frames : List Frame
  pub same : SameAct P variables a act operands
  pub view : view_at (c_source P) s i ≡ View.Acts
  pub steps : step P s i ≡ acted P (with_slot s i (Running frames)) i offset act operands
  pub starts : Starts P codes (running frames) f next variables arrays

-- ACTS ARE STEPS: where a thread stands at an act of its code, and its step is not undefined, that step is the act
abbrev pub ActsAreSteps : Type 0
ActsAreSteps =
    (P : Program) (codes : Codes) (s : State) (i f l next : ℕ) (variables : ℕ → ℤ) (arrays : Memory ℤ) (a : CodeAct) → IsResolved P →
    Reachable (c_source P) s → IsDefined P s i → Starts P codes (local_of s i) f l variables arrays →
    stage_at codes f l ≡ Some (stage.Act a next) → a ≢ act.Return → IsStepOf P codes s i f next variables arrays a

-- the return of main: the step of thread 0 ends the program and leaves the rest
pub record ReturnsThere (P : Program) (s : State) : Type 0 where
  pub state : State
  pub reads : List Location
  pub view : view_at (c_source P) s 0 ≡ View.Ends reads
  pub steps : step P s 0 ≡ Steps state
  pub output : state.output ≡ s.output
  pub ended : state.ended ≡ true
  pub keeps : KeepsOthers s 0 state
  pub over : is_over (local_of state 0) ≡ true

abbrev pub ReturnsAreSteps : Type 0
ReturnsAreSteps =
    (P : Program) (codes : Codes) (s : State) (f l next : ℕ) (variables : ℕ → ℤ) (arrays : Memory ℤ) → IsResolved P →
    Reachable (c_source P) s → IsDefined P s 0 → Starts P codes (local_of s 0) f l variables arrays →
    stage_at codes f l ≡ Some (stage.Act act.Return next) → ReturnsThere P s
