-- Code that does the steps of a thread, block after block.
use Rattle.std.specs.Prelude.{◌≡◌, ℕ, zero, suc, ◌+◌, ◌*◌, ◌<◌, ◌-◌, ◌≤◌, ℤ, List, length}
use Rattle.interleaving.specs.Memory.{Memory}
use Rattle.interleaving.specs.Source.{Source, Move, accesses_of, end_of, RunsAlone}
use Rattle.interleaving.specs.Interleaving.{Reachable}
use Rattle.interleaving.specs.Hardware.{OnlyMoves}
use Rattle.planned_block.specs.Block.{Operand, Block, size, operand_value, finished, leads_to, IsOrdered}
use Rattle.planned_block.specs.Plan.{Plan}
use Rattle.planned_block.specs.Run.{block_run}
use Rattle.planned_block.specs.Table.{latencies_before}
use Rattle.planned_block.specs.Hardware.{Code, IsLowered}

-- what may be said of a local state at a stage, with these variables and arrays
abbrev pub AtStage : Type 0 → Type 1
AtStage Local = Local → ℕ → (ℕ → ℤ) → Memory ℤ → Type 0

-- the code of routine f. What it is to be at an act is the concrete side's to say: AtAct Next x f l variables arrays,
-- where Next holds of the stage after it
module _ {Local State : Type 0} (P : Source ℤ Local State) (Typed : Memory ℤ → Type 0) (AtAct : AtStage Local → Local → ℕ → ℕ → (ℕ → ℤ) → Memory ℤ → Type 0)
    (blocks : ℕ → ℕ → Block) (plans : ℕ → ℕ → Plan) (f : ℕ) where
  -- the block at a stage does its number of steps, and Next holds of where it leads
  pub record IsStage (Next : AtStage Local) (x : Local) (l : ℕ) (variables : ℕ → ℤ) (arrays m : Memory ℤ) : Type 0 where
    pub only_moves : OnlyMoves P (blocks f l).steps x m
    pub accesses : (hs : List (Move ℤ Local)) → RunsAlone P x m hs → length hs ≡ (blocks f l).steps → (block_run (blocks f l) variables arrays m).accesses ≡ accesses_of hs
    pub leads : (hs : List (Move ℤ Local)) → RunsAlone P x m hs → length hs ≡ (blocks f l).steps →
        Next (end_of x hs) (leads_to (operand_value variables (block_run (blocks f l) variables arrays m).values) (blocks f l).next)
        (finished (operand_value variables (block_run (blocks f l) variables arrays m).values) (blocks f l).finals variables) (block_run (blocks f l) variables arrays m).arrays

  -- the next n stages do the steps of the thread, whatever the other threads leave in the memory
  abbrev pub Follows : ℕ → AtStage Local
  Follows zero x l variables arrays = Unit {0}
  Follows (suc n) x l variables arrays =
      (0 < (plans f l).states → (m : Memory ℤ) → Typed m → IsStage (Follows n) x l variables arrays m) × ((plans f l).states ≡ 0 → AtAct (Follows n) x f l variables arrays)

  -- and all that follow
  abbrev pub FollowsOn : AtStage Local
  FollowsOn x l variables arrays = (n : ℕ) → Follows n x l variables arrays

-- a bound of the changes by the latencies: of each block, with 1 for it
abbrev pub own_latencies : Block → ℕ
own_latencies b = latencies_before b (size b) + 1

-- nothing set aside: each stage is a block or an act
abbrev pub no_spare : ℕ → ℕ → ℕ → ℕ
no_spare f l s = 0

-- chain f l is a bound for a stage and the stepless blocks that follow it. A state and a request may each cost a change
abbrev pub code_of : (ℕ → ℕ → Block) → (ℕ → ℕ → Plan) → (ℕ → ℕ → ℕ) → (ℕ → ℕ → ℕ → ℕ) → Code
code_of blocks plans chain spare = record { blocks = blocks; plans = plans; reserve = λ f l. 2 * (chain f l - own_latencies (blocks f l)); spare = spare }

-- what the chains of blocks have to meet
pub record AreChains (blocks : ℕ → ℕ → Block) (plans : ℕ → ℕ → Plan) (chain : ℕ → ℕ → ℕ) (spare : ℕ → ℕ → ℕ → ℕ) (weight : ℕ) : Type 0 where
  -- a plan has no more states than the sum of the latencies, and 1
  pub short : (f l : ℕ) → (plans f l).states ≤ own_latencies (blocks f l)
  pub holds : (f l : ℕ) → own_latencies (blocks f l) ≤ chain f l
  -- the stage after a stepless block, wherever it leads, is in the chain of that block
  pub stepless : (f l : ℕ) → 0 < (plans f l).states → (blocks f l).steps ≡ 0 → (value : Operand → ℤ)
      → own_latencies (blocks f l) + (chain f (leads_to value (blocks f l).next) + spare f (leads_to value (blocks f l).next) 0) ≤ chain f l
  -- the chain of an act has room for that of the stage after it, to which a waiting slot may go on
  pub bounded : (f l : ℕ) → 2 * chain f l + spare f l 0 ≤ 64 * (weight + 1)

-- FOLLOWING: code that follows its thread for ever is lowered code, with 64 times (the weight and 1) changes for each step
abbrev pub FollowersAreLowered : {Local State : Type 0} → Source ℤ Local State → (Memory ℤ → Type 0) → (AtStage Local → Local → ℕ → ℕ → (ℕ → ℤ) → Memory ℤ → Type 0) → Type 0
FollowersAreLowered {State = State} P Typed AtAct =
    (blocks : ℕ → ℕ → Block) (plans : ℕ → ℕ → Plan) (chain : ℕ → ℕ → ℕ) (spare : ℕ → ℕ → ℕ → ℕ) (weight : ℕ) → ((s : State) → Reachable P s → Typed (P.memory s)) →
    ((f l : ℕ) → IsOrdered (blocks f l)) → AreChains blocks plans chain spare weight →
    IsLowered P (code_of blocks plans chain spare) (λ x f l variables arrays. FollowsOn P Typed AtAct blocks plans f x l variables arrays) (64 * (weight + 1))
