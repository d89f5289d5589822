-- Blocks without steps, such as the comparisons of a switch behind its first: how many there are, and where they lead.
use Rattle.std.specs.Prelude.{◌≡◌, ◌⊎◌, ℕ, zero, suc, ◌+◌, ◌-◌, ◌*◌, ◌<◌, ◌≤◌, List, [], ◌∷◌, length, Option, Some, None, slice_get}
use Rattle.block_ir.specs.declared.operand.Operand.{Operand}
use Rattle.block_ir.specs.declared.block.Next.TheVariants.{Branch}
use Rattle.block_ir.specs.declared.block.Block.{Block}
use Rattle.block_ir.specs.declared.code.Stage.{Stage}
use Rattle.block_ir.specs.declared.code.Stage.TheVariants as stage

-- 1 for a block without steps, 0 for any other stage
abbrev pub idle_stage : Stage → ℕ
idle_stage (stage.Run b) = 1 - b.steps
idle_stage (stage.Act act next) = 0

-- how many of the stages are blocks without steps
abbrev pub idle_count : List Stage → ℕ
idle_count [] = 0
idle_count (s ∷ stages) = idle_stage s + idle_count stages

-- the most operations of a block: 4 for each unit of the weight, but 2 fewer for each block without steps
abbrev pub operation_limit : ℕ → List Stage → ℕ
operation_limit weight stages = 4 * weight - 2 * idle_count stages

-- of the stages from l on
abbrev pub idle_from : List Stage → ℕ → ℕ
idle_from [] l = 0
idle_from (s ∷ stages) zero = idle_count (s ∷ stages)
idle_from (s ∷ stages) (suc l) = idle_from stages l

-- at stage l the thread takes a step, or more
abbrev pub TakesStep : List Stage → ℕ → Type 0
TakesStep stages l = (b : Block) → slice_get stages l ≡ Some (stage.Run b) → 0 < b.steps

-- stage k is a later one than l, or one that takes a step
abbrev pub LeadsOn : List Stage → ℕ → ℕ → Type 0
LeadsOn stages l k = (l < k) ⊎ TakesStep stages k

-- COMPARISON: the block at l chooses by one operation at most between two stages to which it leads on; so behind as many of these
-- as there are, at most, a thread takes a step
pub record IsComparison (stages : List Stage) (l : ℕ) (b : Block) : Type 0 where
  pub one : length b.operations ≤ 1
  pub test : Operand
  pub nonzero : ℕ
  pub zero_ : ℕ
  pub next : b.next ≡ Branch test nonzero zero_
  pub on_nonzero : LeadsOn stages l nonzero
  pub on_zero : LeadsOn stages l zero_

-- each block without steps is a comparison
abbrev pub AreComparisons : List Stage → Type 0
AreComparisons stages = (l : ℕ) (b : Block) → slice_get stages l ≡ Some (stage.Run b) → b.steps ≡ 0 → IsComparison stages l b

-- ---- how many of them may follow one another from stage l on: none where it is none itself

abbrev pub idle_at : Option Stage → ℕ
idle_at None = 0
idle_at (Some s) = idle_stage s

abbrev pub fall_of : ℕ → ℕ → ℕ
fall_of zero behind = 0
fall_of (suc n) behind = behind

abbrev pub fall : List Stage → ℕ → ℕ
fall stages l = fall_of (idle_at (slice_get stages l)) (idle_from stages l)
