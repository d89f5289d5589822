-- Blocks that are maximal.
use Rattle.std.specs.Prelude.{◌≡◌, ◌≢◌, ◌⊎◌, ℕ, ◌+◌, ◌^◌, ◌<◌, ◌≤◌, min, if◌then◌else◌, nat_eq, List, [], ◌∷◌, length, Some, slice_get}
use Rattle.block_ir.specs.declared.block.Next.{Next}
use Rattle.block_ir.specs.declared.block.Next.TheVariants.{Jump, Branch}
use Rattle.block_ir.specs.declared.block.Block.{Block}
use Rattle.block_ir.specs.declared.code.Stage.{Stage}
use Rattle.block_ir.specs.declared.code.Stage.TheVariants.{Run, Act}
use Rattle.block_ir.specs.declared.code.ThreadCode.{ThreadCode}

-- in how many ways stages lead to stage m
abbrev pub one_way : ℕ → ℕ → ℕ
one_way m l = if nat_eq m l then 1 else 0

abbrev pub next_ways : ℕ → Next → ℕ
next_ways m (Jump l) = one_way m l
next_ways m (Branch test nonzero zero_) = one_way m nonzero + one_way m zero_

abbrev pub stage_ways : ℕ → Stage → ℕ
stage_ways m (Run b) = next_ways m b.next
stage_ways m (Act act next) = one_way m next

abbrev pub ways : ℕ → List Stage → ℕ
ways m [] = 0
ways m (s ∷ stages) = stage_ways m s + ways m stages

-- in one they would have more than that many operations, or operations or steps without a number; or one takes no step: that is
-- not in one with others
abbrev pub StandApart : ℕ → Block → Block → Type 0
StandApart most b d = (most < length b.operations + length d.operations) ⊎ (2 ^ 32 ≤ length b.operations + length d.operations) ⊎ (2 ^ 32 ≤ b.steps + d.steps) ⊎ (b.steps ≡ 0) ⊎ (d.steps ≡ 0)

-- MAXIMAL: where a block leads to a block alone, that is the first one, or itself, or more ways lead there, or both are too
-- large for one, or one takes no step
abbrev pub IsMaximalAt : ℕ → List Stage → ℕ → Type 0
IsMaximalAt most stages l = (b d : Block) (m : ℕ) → slice_get stages l ≡ Some (Run b) → b.next ≡ Jump m → slice_get stages m ≡ Some (Run d) →
    (m ≡ 0) ⊎ (m ≡ l) ⊎ (1 < ways m stages) ⊎ StandApart most b d

abbrev pub IsMaximal : ℕ → ThreadCode → Type 0
IsMaximal most code = (l : ℕ) → IsMaximalAt most code.stages l

-- ---- while blocks are merged

-- the ways to each stage but the first, up to 2
abbrev pub AreCounted : List Stage → List ℕ → Type 0
AreCounted stages counts = (length counts ≡ length stages) × ((m c : ℕ) → m ≢ 0 → slice_get counts m ≡ Some c → c ≡ min (ways m stages) 2)

-- stage l is a block that leads to a block at m, and so does nothing else; both fit into one
pub record Follows (most : ℕ) (stages : List Stage) (counts : List ℕ) (l m : ℕ) : Type 0 where
  pub block : Block
  pub next : Block
  pub at : slice_get stages l ≡ Some (Run block)
  pub leads : block.next ≡ Jump m
  pub there : slice_get stages m ≡ Some (Run next)
  pub later : m ≢ 0
  pub apart : m ≢ l
  pub once : slice_get counts m ≡ Some 1
  pub size : length block.operations + length next.operations ≤ most
  pub few : length block.operations + length next.operations < 2 ^ 32
  pub steps : block.steps + next.steps < 2 ^ 32
  pub block_busy : 0 < block.steps
  pub next_busy : 0 < next.steps
