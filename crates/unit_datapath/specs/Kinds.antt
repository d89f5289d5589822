-- Which operations are of a kind of units, and share them.
use Rattle.std.specs.Prelude.{Bool, false, not, ◌&&◌}
use Rattle.hls_ints.specs.Types.{IntegerType}
use Rattle.c_program.specs.declared.tree.BinaryOperator.{BinaryOperator}
use Rattle.c_program.specs.declared.tree.BinaryOperator.TheVariants.{Multiply, Divide, Remainder}
use Rattle.block_ir.specs.declared.operand.Operand.{Operand}
use Rattle.block_ir.specs.declared.block.Operation.{Operation}
use Rattle.block_ir.specs.declared.block.Operation.TheVariants.{Unary, Binary, ReadGlobal, WriteGlobal, ReadArray, WriteArray}
use Rattle.block_datapath.specs.Units.{same_type, unit_type, has_constant}
use Rattle.unit_datapath.specs.declared.kinds.UnitKind.{UnitKind}

-- an operator that works in a type is of the kind
abbrev pub is_of : UnitKind → BinaryOperator → IntegerType → Bool
is_of kind Multiply ty = not kind.divides && same_type kind.ty (unit_type Multiply ty)
is_of kind Divide ty = kind.divides && same_type kind.ty (unit_type Divide ty)
is_of kind Remainder ty = kind.divides && same_type kind.ty (unit_type Remainder ty)
is_of kind _ ty = false

-- an operation on two operands shares a unit of the kind: one with a constant has an operator of its own
abbrev pub is_shared : UnitKind → BinaryOperator → IntegerType → Operand → Operand → Bool
is_shared kind operator ty a b = is_of kind operator ty && not (has_constant a b)

abbrev pub is_work : UnitKind → Operation → Bool
is_work kind (Unary operator ty a) = false
is_work kind (Binary operator ty a b) = is_shared kind operator ty a b
is_work kind (ReadGlobal x n i) = false
is_work kind (WriteGlobal x n i a) = false
is_work kind (ReadArray x n i) = false
is_work kind (WriteArray x n i a) = false
