-- What the parts of merging do.
use Rattle.std.specs.Prelude.{◌≡◌, ◌≢◌, ◌⊎◌, ℕ, ◌+◌, ◌-◌, ◌^◌, ◌<◌, ◌≤◌, List, length, ℤ, Option, Some, None, slice_get, slice_set}
use Rattle.block_ir.specs.declared.block.Next.{Next}
use Rattle.block_ir.specs.declared.block.Next.TheVariants.{Jump, Branch}
use Rattle.block_ir.specs.declared.block.Final.{Final}
use Rattle.block_ir.specs.declared.block.Block.{Block}
use Rattle.block_ir.specs.declared.code.Stage.{Stage}
use Rattle.block_ir.specs.declared.code.Stage.TheVariants.{Run, Act}
use Rattle.block_ir.specs.Run.{finished}
use Rattle.code_blocks.specs.Evaluating.{current_value}
use Rattle.code_blocks.specs.Closing.{HasNoted, IsFresh}
use Rattle.code_merge.specs.declared.merger.Merger.{Merger}
use Rattle.code_merge.specs.Joined.{joined, HasLeft}
use Rattle.code_merge.specs.Maximal.{StandApart, IsMaximalAt, AreCounted}
use Rattle.code_merge.specs.Kept.{Keeps}
use Rattle.code_merge.specs.Used.{empty}

abbrev pub block_in : Option Stage → Option Block
block_in (Some (Run b)) = Some b
block_in (Some (Act act next)) = None
block_in None = None

abbrev pub jump_in : Next → Option ℕ
jump_in (Jump l) = Some l
jump_in (Branch test nonzero zero_) = None

-- they are small enough for one, and both take steps
abbrev pub FitTogether : ℕ → Block → Block → Type 0
FitTogether most b d =
    (length b.operations + length d.operations ≤ most) × (length b.operations + length d.operations ≤ 2 ^ 32 - 1) × (b.steps + d.steps ≤ 2 ^ 32 - 1) × (0 < b.steps) × (0 < d.steps)

-- no block may be put behind the block at l
abbrev pub IsLast : ℕ → List Stage → List ℕ → ℕ → Type 0
IsLast most stages counts l = (b d : Block) (m : ℕ) → slice_get stages l ≡ Some (Run b) → b.next ≡ Jump m → slice_get stages m ≡ Some (Run d) →
    (m ≡ 0) ⊎ (m ≡ l) ⊎ (slice_get counts m ≢ Some 1) ⊎ StandApart most b d

-- it holds what the block at l leaves in variables
pub record HoldsAt (m : Merger) (l : ℕ) : Type 0 where
  pub left : (b : Block) → slice_get m.stages.items l ≡ Some (Run b) → HasLeft m.held.current b.finals
  pub noted : HasNoted m.held

-- between two chains
pub record IsReady (m : Merger) : Type 0 where
  pub noted : HasNoted m.held
  pub counted : AreCounted m.stages.items m.counts
  pub fresh : IsFresh (length m.held.current) m.held

-- a block is at l
abbrev pub IsBlock : Merger → ℕ → Type 0
IsBlock m l = (b : Block) × (slice_get m.stages.items l ≡ Some (Run b))

-- it holds what the block at l leaves in variables, and else is the same
pub record Begins (old new : Merger) (l : ℕ) : Type 0 where
  pub same : new ≡ record old { held = new.held }
  pub size : length new.held.current ≡ length old.held.current
  pub holds : HasNoted old.held → HoldsAt new l

-- the block at m stands behind that at l
pub record Joins (old new : Merger) (l m : ℕ) (b d : Block) : Type 0 where
  pub stages : new.stages.items ≡ slice_set (slice_set old.stages.items m empty) l (Run (joined old.held.current b d))
  pub counts : new.counts ≡ slice_set old.counts m 0
  pub left : HasLeft old.held.current b.finals → HasLeft new.held.current (joined old.held.current b d).finals
  pub noted : HasNoted old.held → HasNoted new.held
  pub size : length new.held.current ≡ length old.held.current
  pub most : new.most ≡ old.most

abbrev pub JoinsBlocks : Merger → Merger → ℕ → ℕ → Type 0
JoinsBlocks old new l m = (b d : Block) → slice_get old.stages.items l ≡ Some (Run b) → slice_get old.stages.items m ≡ Some (Run d) → Joins old new l m b d

-- the same code so far, with more in one
pub record Merges (old new : Merger) : Type 0 where
  pub keeps : Keeps old.most (length old.held.current) old.stages.items new.stages.items
  pub size : length new.held.current ≡ length old.held.current
  pub count : length new.stages.items ≡ length old.stages.items
  pub most : new.most ≡ old.most

-- while the chain from l is in the making
pub record Grows (old new : Merger) (l : ℕ) : Type 0 where
  pub merges : Merges old new
  pub counted : AreCounted new.stages.items new.counts
  pub others : (k : ℕ) → k ≢ l → IsMaximalAt old.most old.stages.items k → IsMaximalAt old.most new.stages.items k

-- the block at l sets each variable once, and nothing is held any more
pub record Tidies (old new : Merger) (l : ℕ) : Type 0 where
  pub finals : List Final
  pub stages : (b : Block) → slice_get old.stages.items l ≡ Some (Run b) →
      new.stages.items ≡ slice_set old.stages.items l (Run (record { operations = b.operations; finals = finals; next = b.next; steps = b.steps }))
  pub from : (k : ℕ) (f : Final) → slice_get finals k ≡ Some f → slice_get old.held.current f.variable ≡ Some (Some f.value)
  pub leave : (variables : ℕ → ℤ) (values : List ℤ) (x : ℕ) → finished variables values finals variables x ≡ current_value (slice_get old.held.current x) variables values x
  pub counts : new.counts ≡ old.counts
  pub most : new.most ≡ old.most
  pub fresh : IsFresh (length old.held.current) new.held

-- the chain from l is one block
pub record Extends (old new : Merger) (l : ℕ) : Type 0 where
  pub grows : Grows old new l
  pub ready : IsReady new
  pub last : IsMaximalAt old.most new.stages.items l
