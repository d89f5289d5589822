-- The lines of an operation: what it does, its operands, when it works, its functional unit and its register.
use Rattle.std.specs.Prelude.{ℕ, true, false, List, [], ◌∷◌, ◌++◌, Option, Some, None, codes, slice_index, slice_index_or}
use Rattle.std.specs.Fmt.{signed_decimal}
use Rattle.std.specs.List.{flat_map}
use Rattle.hls_ints.specs.Types.{IntegerType}
use Rattle.c_program.specs.declared.tree.UnaryOperator.{UnaryOperator}
use Rattle.c_program.specs.declared.tree.UnaryOperator.TheVariants.{Plus, Minus, Complement, Not}
use Rattle.c_program.specs.declared.tree.BinaryOperator.{BinaryOperator}
use Rattle.c_program.specs.declared.tree.BinaryOperator.TheVariants.{Multiply as Times, Divide as Over, Remainder, Add, Subtract, ShiftLeft, ShiftRight}
use Rattle.c_program.specs.declared.tree.BinaryOperator.TheVariants.{Less, Greater, LessEqual, GreaterEqual, Equal, NotEqual, And, ExclusiveOr, InclusiveOr}
use Rattle.block_ir.specs.declared.operand.Source.{Source}
use Rattle.block_ir.specs.declared.operand.Source.TheVariants.{Constant, Variable, Value}
use Rattle.block_ir.specs.declared.operand.Operand.{Operand}
use Rattle.block_ir.specs.declared.block.Operation.{Operation}
use Rattle.block_ir.specs.declared.block.Operation.TheVariants.{Unary, Binary, ReadGlobal, WriteGlobal, ReadArray, WriteArray}
use Rattle.block_ir.specs.declared.plan.BlockPlan.{BlockPlan}
use Rattle.op_graph.specs.declared.node.Kind.{Kind}
use Rattle.op_graph.specs.declared.node.Kind.TheVariants.{Simple, Multiply, Divide, Global, Array}
use Rattle.op_graph.specs.declared.node.Node.{Node}
use Rattle.op_graph.specs.Graph.{latency_of, kind_at}
use Rattle.plan_report.specs.Words.{word, number, type_words, fact, pair}

-- the operators (C99 6.5.3.3, and 6.5.5 to 6.5.12)
abbrev pub unary_word : UnaryOperator → List ℕ
unary_word Plus = codes "plus"
unary_word Minus = codes "minus"
unary_word Complement = codes "complement"
unary_word Not = codes "not"

abbrev pub binary_word : BinaryOperator → List ℕ
binary_word Times = codes "multiply"
binary_word Over = codes "divide"
binary_word Remainder = codes "remainder"
binary_word Add = codes "add"
binary_word Subtract = codes "subtract"
binary_word ShiftLeft = codes "shift_left"
binary_word ShiftRight = codes "shift_right"
binary_word Less = codes "less"
binary_word Greater = codes "greater"
binary_word LessEqual = codes "less_equal"
binary_word GreaterEqual = codes "greater_equal"
binary_word Equal = codes "equal"
binary_word NotEqual = codes "not_equal"
binary_word And = codes "and"
binary_word ExclusiveOr = codes "exclusive_or"
binary_word InclusiveOr = codes "inclusive_or"

-- where a value comes from: a constant, a variable of the thread, or an earlier operation of the block
abbrev pub source_words : Source → List ℕ
source_words (Constant ty v) = codes " constant " ++ signed_decimal v
source_words (Variable x ty) = codes " variable" ++ number x
source_words (Value k ty) = codes " value" ++ number k

abbrev pub source_type : Source → IntegerType
source_type (Constant ty v) = ty
source_type (Variable x ty) = ty
source_type (Value k ty) = ty

-- what an operand is, its type, and the types that it is converted to, one after the other
abbrev pub operand_words : Operand → List ℕ
operand_words a = source_words a.source ++ type_words (source_type a.source) ++ flat_map type_words a.conversions ++ 10 ∷ []

abbrev pub operand_line : List ℕ → Operand → List ℕ
operand_line keyword a = keyword ++ operand_words a

-- an operator and the type in which it works
abbrev pub operator_line : ℕ → List ℕ → IntegerType → List ℕ
operator_line k operator ty = codes "operation" ++ number k ++ word operator ++ type_words ty ++ 10 ∷ []

-- an access of an object of so many words
abbrev pub access_line : ℕ → List ℕ → ℕ → ℕ → List ℕ
access_line k access object words = codes "operation" ++ number k ++ word access ++ number object ++ number words ++ 10 ∷ []

-- a read at an index, and a write of a value
abbrev pub read_lines : ℕ → List ℕ → ℕ → ℕ → Operand → List ℕ
read_lines k access object words i = access_line k access object words ++ operand_line (codes "index") i

abbrev pub write_lines : ℕ → List ℕ → ℕ → ℕ → Operand → Operand → List ℕ
write_lines k access object words i a = read_lines k access object words i ++ operand_line (codes "stored") a

-- operation k, and its operands
abbrev pub operation_lines : ℕ → Operation → List ℕ
operation_lines k (Unary operator ty a) = operator_line k (unary_word operator) ty ++ operand_line (codes "operand") a
operation_lines k (Binary operator ty a b) =
    operator_line k (binary_word operator) ty ++ operand_line (codes "left") a ++ operand_line (codes "right") b
operation_lines k (ReadGlobal x n i) = read_lines k (codes "read_global") x n i
operation_lines k (WriteGlobal x n i a) = write_lines k (codes "write_global") x n i a
operation_lines k (ReadArray x n i) = read_lines k (codes "read_array") x n i
operation_lines k (WriteArray x n i a) = write_lines k (codes "write_array") x n i a

-- the functional unit, where the kind has units: its number among those of its width and, of dividers, its sign
abbrev pub unit_line : Kind → ℕ → List ℕ
unit_line (Multiply w) unit = pair (codes "multiplier") unit w
unit_line (Divide w true) unit = pair (codes "signed_divider") unit w
unit_line (Divide w false) unit = pair (codes "unsigned_divider") unit w
unit_line Simple unit = []
unit_line (Global x w) unit = []
unit_line (Array x w) unit = []

-- the register that keeps the value past the last state, where one does
abbrev pub register_line : Option ℕ → List ℕ
register_line (Some r) = fact (codes "register") r
register_line None = []

abbrev pub register_at : List (Option ℕ) → ℕ → Option ℕ
register_at registers k = slice_index_or registers k None

-- the state in which an operation of a kind starts, and in how many states it works; its unit; its register
abbrev pub work_lines : BlockPlan → Kind → ℕ → List ℕ
work_lines p kind k =
    pair (codes "works") (slice_index p.starts k) (latency_of kind) ++ unit_line kind (slice_index p.units k) ++ register_line (register_at p.registers k)

-- operation k of a block with these nodes
abbrev pub planned_lines : List Node → BlockPlan → ℕ → Operation → List ℕ
planned_lines nodes p k o = operation_lines k o ++ work_lines p (kind_at nodes k) k
