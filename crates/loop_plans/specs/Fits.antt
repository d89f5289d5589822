-- Which loops of the code can be pipelined. Condition, body and step are one block, and the condition's operations are those up to a comparison.
use Rattle.std.specs.Prelude.{◌≡◌, ℕ, zero, suc, ◌&&◌, not, Bool, true, false, List, [], ◌∷◌, Option, Some, None, slice_get}
use Rattle.c_program.specs.declared.tree.BinaryOperator.{BinaryOperator}
use Rattle.c_program.specs.declared.tree.BinaryOperator.TheVariants.{Less, Greater, LessEqual, GreaterEqual, Equal, NotEqual}
use Rattle.block_ir.specs.declared.block.Operation.{Operation}
use Rattle.block_ir.specs.declared.block.Operation.TheVariants.{Binary, ReadGlobal, WriteGlobal, WriteArray}
use Rattle.block_ir.specs.declared.block.Block.{Block}
use Rattle.plan_blocks.specs.Alike.{IsInOrder}

-- the relational and equality operators (C99 6.5.8, 6.5.9)
abbrev pub is_comparison : BinaryOperator → Bool
is_comparison Less = true
is_comparison Greater = true
is_comparison LessEqual = true
is_comparison GreaterEqual = true
is_comparison Equal = true
is_comparison NotEqual = true
is_comparison _ = false

abbrev pub is_comparing : Option Operation → Bool
is_comparing None = false
is_comparing (Some (Binary operator ty a b)) = is_comparison operator
is_comparing (Some o) = false

-- it accesses no global: it works on constants, variables and local arrays of its thread
abbrev pub is_local : Operation → Bool
is_local (ReadGlobal x n i) = false
is_local (WriteGlobal x n i a) = false
is_local o = true

abbrev pub is_write : Operation → Bool
is_write (WriteGlobal x n i a) = true
is_write (WriteArray x n i a) = true
is_write o = false

abbrev pub all_local : List Operation → Bool
all_local [] = true
all_local (o ∷ os) = is_local o && all_local os

-- none of the first k operations writes
abbrev pub none_writes : ℕ → List Operation → Bool
none_writes zero os = true
none_writes (suc k) [] = true
none_writes (suc k) (o ∷ os) = not (is_write o) && none_writes k os

-- A LOOP THAT FITS: the condition is one comparison at its top and writes nothing, and no operation accesses a global
pub record FitsPipeline (turn : Block) (comparison : ℕ) : Type 0 where
  pub order : IsInOrder turn
  pub compares : is_comparing (slice_get turn.operations comparison) ≡ true
  pub condition : none_writes comparison turn.operations ≡ true
  pub local : all_local turn.operations ≡ true
