-- How many units there are for an operator and a type: as many as the numbers of its operations ask for.
use Rattle.std.specs.Prelude.{◌≡◌, ℕ, suc, ◌<◌, ◌⊎◌, Bool, true, false, not, ◌&&◌, Option, Some, slice_get, slice_index}
use Rattle.hls_ints.specs.Types.{IntegerType}
use Rattle.c_program.specs.declared.tree.BinaryOperator.{BinaryOperator}
use Rattle.block_ir.specs.declared.block.Operation.{Operation}
use Rattle.block_ir.specs.declared.block.Operation.TheVariants.{Unary, Binary, ReadGlobal, WriteGlobal, ReadArray, WriteArray}
use Rattle.block_ir.specs.declared.block.Block.{Block}
use Rattle.block_ir.specs.declared.code.Stage.{Stage}
use Rattle.block_ir.specs.declared.code.Stage.TheVariants as stage
use Rattle.block_ir.specs.declared.code.ThreadCode.{ThreadCode}
use Rattle.block_ir.specs.declared.plan.BlockPlan.{BlockPlan}
use Rattle.block_ir.specs.declared.plan.StagePlan.{StagePlan}
use Rattle.block_ir.specs.declared.plan.StagePlan.TheVariants as planned
use Rattle.block_ir.specs.declared.plan.Planned.{Planned}
use Rattle.block_datapath.specs.Units.{same_operator, same_type, unit_type, has_constant}

-- one more than the greatest of these numbers, or 0 if there is none
pub record IsCountOf (P : ℕ → Type 0) (count : ℕ) : Type 0 where
  pub above : (n : ℕ) → P n → n < count
  pub least : (count ≡ 0) ⊎ ((n : ℕ) × P n × (count ≡ suc n))

-- units of an operator and a type make what the operation gives: one with a constant shares none
abbrev pub is_made : BinaryOperator → IntegerType → Operation → Bool
is_made operator unit (Unary own ty a) = false
is_made operator unit (Binary own ty a b) = same_operator operator own && same_type unit (unit_type own ty) && not (has_constant a b)
is_made operator unit (ReadGlobal x n i) = false
is_made operator unit (WriteGlobal x n i a) = false
is_made operator unit (ReadArray x n i) = false
is_made operator unit (WriteArray x n i a) = false

module _ (operator : BinaryOperator) (unit : IntegerType) where
  -- operation k has unit n of these
  abbrev pub OperationHas : BlockPlan → ℕ → Operation → ℕ → Type 0
  OperationHas p k o n = (is_made operator unit o ≡ true) × (slice_index p.units k ≡ n)

  -- one of the first operations of a block has
  abbrev pub BlockHas : Block → BlockPlan → ℕ → ℕ → Type 0
  BlockHas b p count n = (k : ℕ) × (o : Operation) × (k < count) × (slice_get b.operations k ≡ Some o) × OperationHas p k o n

  abbrev pub StageHas : Stage → Option StagePlan → ℕ → Type 0
  StageHas s plan n = (b : Block) × (p : BlockPlan) × (s ≡ stage.Run b) × (plan ≡ Some (planned.Run p)) ×
      ((k : ℕ) × (o : Operation) × (slice_get b.operations k ≡ Some o) × OperationHas p k o n)

  -- one of the first stages has
  abbrev pub CodeHas : ThreadCode → Planned → ℕ → ℕ → Type 0
  CodeHas code plan count n = (l : ℕ) × (s : Stage) × (l < count) × (slice_get code.stages l ≡ Some s) × StageHas s (slice_get plan.stages l) n
