-- What a basic block of the code of a thread is to a plan: conversions become parts of operands, and each operation one of the kinds that plans know.
use Rattle.std.specs.Prelude.{ℕ, zero, suc, ℤ, pos, List, [], ◌∷◌, slice_index, Option, None}
use Rattle.block_ir.specs.Types.{IntegerType, wrapped}
use Rattle.block_ir.specs.BinaryOperator.{BinaryOperator}
use Rattle.block_ir.specs.BinaryOperator.TheVariants.{Multiply as Times, Divide as Over, Remainder}
use Rattle.planned_block.specs.Memory.{Memory, Access, Read, Write}
use Rattle.block_ir.specs.Arithmetic.{unary_total, binary_total}
use Rattle.block_ir.specs.Run.{Cells, Access as CodeAccess, Read as CodeRead, Write as CodeWrite, place_read, place_written, global_read, global_written}
use Rattle.block_ir.specs.declared.operand.Source.{Source}
use Rattle.block_ir.specs.declared.operand.Source.TheVariants.{Constant as FromConstant, Variable as FromVariable, Value as FromValue}
use Rattle.block_ir.specs.declared.operand.Operand.{Operand as CodeOperand}
use Rattle.block_ir.specs.declared.block.Operation.{Operation as CodeOperation}
use Rattle.block_ir.specs.declared.block.Operation.TheVariants.{Unary, Binary, ReadGlobal, WriteGlobal, ReadArray, WriteArray}
use Rattle.block_ir.specs.declared.block.Final.{Final as CodeFinal}
use Rattle.block_ir.specs.declared.block.Next.{Next as CodeNext}
use Rattle.block_ir.specs.declared.block.Next.TheVariants.{Jump as CodeJump, Branch as CodeBranch}
use Rattle.block_ir.specs.declared.block.Block.{Block as CodeBlock}
use Rattle.block_ir.specs.declared.plan.BlockPlan.{BlockPlan}
use Rattle.planned_block.specs.Plan.{Plan}
use Rattle.planned_block.specs.Table.{last_use}
use Rattle.planned_block.specs.Block.{Operand, Constant, Variable, Value, Through, Kind, Simple, Multiply, Divide, BankRead, BankWrite, ArrayRead, ArrayWrite}
use Rattle.planned_block.specs.Block.{Operation, Final, Next, Jump, Branch, Block}

abbrev pub source_view : Source → Operand
source_view (FromConstant ty v) = Constant v
source_view (FromVariable x ty) = Variable x
source_view (FromValue k ty) = Value k

-- the operand, converted to these types one after the other
abbrev pub converted_to : List IntegerType → Operand → Operand
converted_to [] o = o
converted_to (ty ∷ types) o = converted_to types (Through (wrapped ty) o)

abbrev pub operand_view : CodeOperand → Operand
operand_view o = converted_to o.conversions (source_view o.source)

-- products, quotients and remainders take several states
abbrev pub binary_kind : BinaryOperator → (ℤ → ℤ → ℤ) → Kind
binary_kind Times f = Multiply f
binary_kind Over f = Divide f
binary_kind Remainder f = Divide f
binary_kind _ f = Simple f

-- the operand that is not there
abbrev pub no_operand : Operand
no_operand = Constant (pos 0)

abbrev pub operation_view : CodeOperation → Operation
operation_view (Unary operator ty a) = record { kind = Simple (λ l r. unary_total operator ty l); left = operand_view a; right = no_operand }
operation_view (Binary operator ty a b) = record { kind = binary_kind operator (binary_total operator ty); left = operand_view a; right = operand_view b }
operation_view (ReadGlobal x n i) = record { kind = BankRead x; left = Through (λ v. pos (global_read n v)) (operand_view i); right = no_operand }
operation_view (WriteGlobal x n i a) = record { kind = BankWrite x; left = Through (λ v. pos (global_written n v)) (operand_view i); right = operand_view a }
operation_view (ReadArray x n i) = record { kind = ArrayRead x; left = Through (λ v. pos (place_read n v)) (operand_view i); right = no_operand }
operation_view (WriteArray x n i a) = record { kind = ArrayWrite x; left = Through (λ v. pos (place_written n v)) (operand_view i); right = operand_view a }

abbrev pub operations_view : List CodeOperation → List Operation
operations_view [] = []
operations_view (o ∷ os) = operation_view o ∷ operations_view os

abbrev pub finals_view : List CodeFinal → List Final
finals_view [] = []
finals_view (f ∷ fs) = record { variable = f.variable; value = operand_view f.value } ∷ finals_view fs

abbrev pub next_view : CodeNext → Next
next_view (CodeJump l) = Jump l
next_view (CodeBranch test l n) = Branch (operand_view test) l n

abbrev pub planned_view : CodeBlock → Block
planned_view b = record { operations = operations_view b.operations; finals = finals_view b.finals; next = next_view b.next; steps = b.steps }

-- the memory of the elements of objects
abbrev pub memory_of : Cells → Memory ℤ
memory_of cells = λ l. cells l.object l.index

abbrev pub access_view : CodeAccess → Access ℤ
access_view (CodeRead x j) = Read (record { object = x; index = j })
access_view (CodeWrite x j v) = Write (record { object = x; index = j }) v

abbrev pub accesses_view : List CodeAccess → List (Access ℤ)
accesses_view [] = []
accesses_view (a ∷ rest) = access_view a ∷ accesses_view rest

-- the register of the value of operation k, where one is given
abbrev pub register_at : List (Option ℕ) → ℕ → Option ℕ
register_at [] k = None
register_at (r ∷ rs) zero = r
register_at (r ∷ rs) (suc k) = register_at rs k

-- the starts and the number of states alone
abbrev pub starts_view : BlockPlan → Plan
starts_view p = record { start = slice_index p.starts; states = p.states; register = λ k. None; until = λ k. 0 }

-- the plan of a block of the code: a value is used up to the last state in which a user works
abbrev pub plan_view : CodeBlock → BlockPlan → Plan
plan_view b p = record {
  start = slice_index p.starts;
  states = p.states;
  register = register_at p.registers;
  until = last_use (planned_view b) (starts_view p);
}
