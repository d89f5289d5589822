-- What a block leaves once it is closed.
use Rattle.std.specs.Prelude.{◌≡◌, ℕ, List, [], ◌∷◌, length, ℤ, Option, Some, None, slice_get, ◌⊎◌}
use Rattle.std.specs.List.{flat_map}
use Rattle.block_ir.specs.declared.operand.Operand.{Operand}
use Rattle.block_ir.specs.declared.block.Final.{Final}
use Rattle.block_ir.specs.declared.block.Next.{Next}
use Rattle.block_ir.specs.declared.block.Block.{Block}
use Rattle.block_ir.specs.Run.{finished}
use Rattle.code_blocks.specs.declared.open_block.OpenBlock.{OpenBlock}
use Rattle.code_blocks.specs.Evaluating.{current_value}

abbrev pub IsAmong : List ℕ → ℕ → Type 0
IsAmong [] x = ⊥
IsAmong (y ∷ ys) x = (x ≡ y) ⊎ IsAmong ys x

-- each variable that the block has changed is among those noted
abbrev pub Covers : List (Option Operand) → List ℕ → Type 0
Covers current changed = (x : ℕ) (o : Operand) → slice_get current x ≡ Some (Some o) → IsAmong changed x

abbrev pub HasNoted : OpenBlock → Type 0
HasNoted b = Covers b.current b.changed

-- what the block leaves in a changed variable
abbrev pub final_at : Option (Option Operand) → ℕ → List Final
final_at (Some (Some o)) x = record { variable = x; value = o } ∷ []
final_at (Some None) x = []
final_at None x = []

abbrev pub finals_of : List (Option Operand) → List ℕ → List Final
finals_of current changed = flat_map (λ x. final_at (slice_get current x) x) changed

-- no variable is changed
abbrev pub IsUnchanged : List (Option Operand) → Type 0
IsUnchanged current = (x : ℕ) (o : Operand) → slice_get current x ≡ Some (Some o) → ⊥

-- the block has the operations, the steps and the next stages, and leaves in each variable what it holds by now
pub record Closes (open_ : OpenBlock) (next : Next) (b : Block) : Type 0 where
  pub operations : b.operations ≡ open_.operations
  pub steps : b.steps ≡ open_.steps
  pub next_ : b.next ≡ next
  pub from : (k : ℕ) (f : Final) → slice_get b.finals k ≡ Some f → slice_get open_.current f.variable ≡ Some (Some f.value)
  pub finals : HasNoted open_ → (variables : ℕ → ℤ) (values : List ℤ) (x : ℕ) →
      finished variables values b.finals variables x ≡ current_value (slice_get open_.current x) variables values x

-- nothing is in the block
pub record IsFresh (variables : ℕ) (b : OpenBlock) : Type 0 where
  pub operations : b.operations ≡ []
  pub steps : b.steps ≡ 0
  pub size : length b.current ≡ variables
  pub current : IsUnchanged b.current
