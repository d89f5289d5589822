-- Code in the making, and what of a thread's steps its whole does from there on.
use Rattle.std.specs.Prelude.{◌≡◌, ℕ, ◌+◌, ◌<◌, ◌≤◌, List, [], ◌∷◌, ◌++◌, length, map, ℤ, Option, Some, None, slice_get}
use Rattle.c_program.specs.declared.tree.LocalVariable.{LocalVariable}
use Rattle.c_program.specs.Tree.{Function, Program}
use Rattle.thread_semantics.specs.Memory.{element}
use Rattle.thread_semantics.specs.Work.{Work, Take, Onward, settled}
use Rattle.thread_semantics.specs.State.{Frame}
use Rattle.block_ir.specs.declared.block.Operation.{Operation}
use Rattle.block_ir.specs.declared.block.Block.{Block}
use Rattle.block_ir.specs.declared.code.Stage.{Stage}
use Rattle.block_ir.specs.declared.code.Stage.TheVariants as stage
use Rattle.block_ir.specs.Run.{Cells, Access, Running, operations_run, variables_after, stage_after}
use Rattle.code_following.specs.Following.{AfterMoves, Follows}
use Rattle.code_blocks.specs.declared.homes.Home.{Home}
use Rattle.code_blocks.specs.declared.homes.Home.TheVariants as home
use Rattle.code_blocks.specs.declared.open_block.OpenBlock.{OpenBlock}
use Rattle.code_blocks.specs.Needs.{AreBelow}
use Rattle.code_blocks.specs.Evaluating.{Holds, held_by}
use Rattle.code_blocks.specs.Closing.{HasNoted, IsFresh}

-- a call's locals have as many elements as they were declared with
abbrev pub HasShape : List LocalVariable → List (List (Option ℤ)) → Type 0
HasShape locals rows = map length rows ≡ map (λ (l : LocalVariable). l.length) locals

-- what stands for element j of local x between two blocks
abbrev pub home_value : Option Home → (ℕ → ℤ) → Cells → ℕ → ℕ → ℤ
home_value (Some (home.Array a)) variables arrays x j = arrays a j
home_value (Some (home.Variable n)) variables arrays x j = variables n
home_value None variables arrays x j = variables x

abbrev pub HoldLocals : List Home → (ℕ → ℤ) → Cells → List (List (Option ℤ)) → Type 0
HoldLocals homes variables arrays locals =
    (x j : ℕ) (v : ℤ) → element locals x j ≡ Some (Some v) → home_value (slice_get homes x) variables arrays x j ≡ v

-- a call that waits for another: its function and that one's number, where its locals stand, what it has still to do, and the
-- stage at which it goes on
pub record Caller : Type 0 where
  pub number : ℕ
  pub function : Function
  pub homes : List Home
  pub work : List Work
  pub stage : ℕ

-- a function of a program and its number, the calls that wait for the one at hand, the innermost first, the first variable that
-- no local has, and the stages of the thread's whole code
pub record Setting : Type 0 where
  pub program : Program
  pub number : ℕ
  pub function : Function
  pub callers : List Caller
  pub word : ℕ
  pub stages : List Stage

-- the caller as the call at hand
abbrev pub calling : Program → List Stage → ℕ → Caller → List Caller → Setting
calling P stages word c cs = record { program = P; number = c.number; function = c.function; callers = cs; word = word; stages = stages }

-- another call of the same thread
abbrev pub in_call : Setting → ℕ → Function → List Caller → Setting
in_call S number function callers = record S { number = number; function = function; callers = callers }

-- what a caller goes on with, once the call that it waits for has returned
abbrev pub going_again : List Work → List Work
going_again (Take into ∷ k) = settled Onward k
going_again k = k

-- the caller waits, and its locals stand there
pub record IsHeld (c : Caller) (variables : ℕ → ℤ) (arrays : Cells) (f : Frame) : Type 0 where
  pub number : f.function ≡ c.number
  pub work : f.work ≡ c.work
  pub shape : HasShape c.function.locals f.locals
  pub locals : HoldLocals c.homes variables arrays f.locals

abbrev pub AreHeld : List Caller → (ℕ → ℤ) → Cells → List Frame → Type 0
AreHeld [] variables arrays [] = Unit {0}
AreHeld [] variables arrays (f ∷ fs) = ⊥
AreHeld (c ∷ cs) variables arrays [] = ⊥
AreHeld (c ∷ cs) variables arrays (f ∷ fs) = IsHeld c variables arrays f × AreHeld cs variables arrays fs

-- what the variables hold of the values that a step kept for the next one
abbrev pub Keeping : Type 1
Keeping = (ℕ → ℤ) → List ℤ → Type 0

abbrev pub nothing_kept : Keeping
nothing_kept variables kept = Unit {0}

-- a call and its callers between two blocks
pub record Stands (S : Setting) (homes : List Home) (Kept : Keeping) (variables : ℕ → ℤ) (arrays : Cells) (f : Frame) (fs : List Frame) : Type 0 where
  pub number : f.function ≡ S.number
  pub shape : HasShape S.function.locals f.locals
  pub locals : HoldLocals homes variables arrays f.locals
  pub kept : Kept variables f.kept
  pub callers : AreHeld S.callers variables arrays fs

-- the n stages from where a caller goes on do its steps, once the call that it waits for has returned
abbrev pub Resumes : Program → List Stage → ℕ → Caller → List Caller → ℕ → Type 0
Resumes P stages word c cs n =
    (variables : ℕ → ℤ) (arrays : Cells) (f : Frame) (fs : List Frame) → f.work ≡ going_again c.work →
    Stands (calling P stages word c cs) c.homes nothing_kept variables arrays f fs → Follows P stages n c.stage variables arrays (f ∷ fs)

-- each of these callers does, for n stages or fewer
abbrev pub AllResume : Program → List Stage → ℕ → List Caller → ℕ → Type 0
AllResume P stages word [] n = Unit {0}
AllResume P stages word (c ∷ cs) n = ((j : ℕ) → j ≤ n → Resumes P stages word c cs j) × AllResume P stages word cs n

abbrev pub CallersResume : Setting → ℕ → Type 0
CallersResume S n = AllResume S.program S.stages S.word S.callers n

module _ (S : Setting) (homes : List Home) (Kept : Keeping) where
  -- a run of an open block so far stands for a call
  pub record IsMid (b : OpenBlock) (variables : ℕ → ℤ) (r : Running) (f : Frame) (fs : List Frame) (globals : List (List ℤ)) : Type 0 where
    pub number : f.function ≡ S.number
    pub shape : HasShape S.function.locals f.locals
    pub values : length r.values ≡ length b.operations
    pub holds : Holds homes b.current variables (record { locals = f.locals; globals = globals }) r
    pub kept : Kept (held_by b.current variables r.values) f.kept
    pub callers : AreHeld S.callers (held_by b.current variables r.values) r.arrays fs

  -- what the rest of a block's run comes to, and the j stages after it
  abbrev pub Comes : Block → ℕ → (ℕ → ℤ) → Running → List Frame → List Access → Type 0
  Comes b j variables s frames made =
      (s.accesses ≡ made) × Follows S.program S.stages j (stage_after b variables s) (variables_after b variables s) s.arrays frames

  -- the open block is the beginning of stage l, whose rest does the steps of a call with this work; and so on for fewer
  -- than n stages
  pub record InBlock (n l : ℕ) (b : OpenBlock) (k : List Work) : Type 0 where
    pub block : Block
    pub at : slice_get S.stages l ≡ Some (stage.Run block)
    pub rest : List Operation
    pub operations : block.operations ≡ b.operations ++ rest
    pub count : ℕ
    pub steps : block.steps ≡ b.steps + count
    pub goes : (j : ℕ) → j < n → CallersResume S j → (variables : ℕ → ℤ) (r : Running) (f : Frame) (fs : List Frame) (globals : List (List ℤ)) → f.work ≡ k →
        IsMid b variables r f fs globals →
        AfterMoves S.program count (f ∷ fs) globals r.accesses (λ frames made. Comes block j variables (operations_run variables rest r) frames made)

  -- the n stages from l on do the steps of a call with this work
  abbrev pub AtFresh : ℕ → ℕ → List Work → Type 0
  AtFresh n l k =
      CallersResume S n → (variables : ℕ → ℤ) (arrays : Cells) (f : Frame) (fs : List Frame) → f.work ≡ k → Stands S homes Kept variables arrays f fs →
      Follows S.program S.stages n l variables arrays (f ∷ fs)

-- How the code grows.

-- the block at hand, in code with so many variables and 4 for words
pub record IsSound (variables : ℕ) (b : OpenBlock) : Type 0 where
  pub size : length b.current ≡ variables + 4
  pub noted : HasNoted b
  pub below : AreBelow (length b.operations) b.current
  pub fresh : b.steps ≡ 0 → IsFresh (variables + 4) b

pub record IsPart (stages all : List Stage) : Type 0 where
  pub more : List Stage
  pub is : all ≡ stages ++ more
