-- Types of the values, operands and accesses of a code.
use Rattle.std.specs.Prelude.{◌≡◌, ℕ, ◌<◌, ◌≤◌, List, [], ◌∷◌, Option, Some, None, slice_get, length}
use Rattle.hls_ints.specs.Types.{IntegerType, HasType}
use Rattle.block_ir.specs.declared.operand.Source.{Source}
use Rattle.block_ir.specs.declared.operand.Source.TheVariants.{Constant, Variable, Value}
use Rattle.block_ir.specs.declared.operand.Operand.{Operand}
use Rattle.block_ir.specs.declared.block.Operation.{Operation}
use Rattle.block_ir.specs.declared.block.Operation.TheVariants.{Unary, Binary, ReadGlobal, WriteGlobal, ReadArray, WriteArray}
use Rattle.block_ir.specs.declared.block.Final.{Final}
use Rattle.block_ir.specs.declared.block.Next.{Next}
use Rattle.block_ir.specs.declared.block.Next.TheVariants.{Jump, Branch}
use Rattle.block_ir.specs.declared.block.Block.{Block}
use Rattle.block_ir.specs.declared.code.Array.{Array}
use Rattle.block_ir.specs.declared.code.ThreadCode.{ThreadCode}
use Rattle.operator_words.specs.Shown.{truth_type, unary_result, binary_result}

abbrev pub or_int : Option IntegerType → IntegerType
or_int None = truth_type
or_int (Some ty) = ty

abbrev pub element_type : Option Array → IntegerType
element_type None = truth_type
element_type (Some a) = a.ty

abbrev pub source_type : Source → IntegerType
source_type (Constant ty v) = ty
source_type (Variable x ty) = ty
source_type (Value k ty) = ty

abbrev pub last_type : IntegerType → List IntegerType → IntegerType
last_type ty [] = ty
last_type ty (t ∷ types) = last_type t types

abbrev pub operand_type : Operand → IntegerType
operand_type o = last_type (source_type o.source) o.conversions

-- array x of the code has n elements
abbrev pub IsOfLength : ThreadCode → ℕ → ℕ → Type 0
IsOfLength code x n = (array : Array) × (slice_get code.arrays x ≡ Some array) × (array.length ≡ n)

-- what is stored in an array has the type of its elements
abbrev pub StoresInto : ThreadCode → ℕ → Operand → Type 0
StoresInto code x a = (array : Array) × (slice_get code.arrays x ≡ Some array) × (operand_type a ≡ array.ty)

-- globals are the types of the elements of the globals
module _ (globals : List IntegerType) (code : ThreadCode) where
  -- the type of the value of an operation; a write gives the int 0
  abbrev pub value_type : Operation → IntegerType
  value_type (Unary operator ty a) = unary_result operator ty
  value_type (Binary operator ty a b) = binary_result operator ty
  value_type (ReadGlobal x n i) = or_int (slice_get globals x)
  value_type (WriteGlobal x n i a) = truth_type
  value_type (ReadArray x n i) = element_type (slice_get code.arrays x)
  value_type (WriteArray x n i a) = truth_type

  -- an operand has the type that it says, where values is the list of the earlier operations
  abbrev pub IsTypedSource : List Operation → Source → Type 0
  IsTypedSource before (Constant ty v) = HasType ty v
  IsTypedSource before (Variable x ty) = slice_get code.variables x ≡ Some ty
  IsTypedSource before (Value k ty) = (o : Operation) × (slice_get before k ≡ Some o) × (value_type o ≡ ty)

  abbrev pub IsTypedOperand : List Operation → Operand → Type 0
  IsTypedOperand before o = IsTypedSource before o.source

  abbrev pub IsTypedOperation : List Operation → Operation → Type 0
  IsTypedOperation before (Unary operator ty a) = IsTypedOperand before a
  IsTypedOperation before (Binary operator ty a b) = IsTypedOperand before a × IsTypedOperand before b
  IsTypedOperation before (ReadGlobal x n i) = IsTypedOperand before i × (x < length globals)
  IsTypedOperation before (WriteGlobal x n i a) = IsTypedOperand before i × IsTypedOperand before a × (slice_get globals x ≡ Some (operand_type a))
  IsTypedOperation before (ReadArray x n i) = IsTypedOperand before i × IsOfLength code x n
  IsTypedOperation before (WriteArray x n i a) = IsTypedOperand before i × IsTypedOperand before a × IsOfLength code x n × StoresInto code x a

  abbrev pub IsTypedFinal : List Operation → Final → Type 0
  IsTypedFinal before f = IsTypedOperand before f.value × (slice_get code.variables f.variable ≡ Some (operand_type f.value))

  -- a block leads to a stage, or past the last one
  abbrev pub IsTypedNext : List Operation → Next → Type 0
  IsTypedNext before (Jump l) = l ≤ length code.stages
  IsTypedNext before (Branch test l n) = IsTypedOperand before test × (l ≤ length code.stages) × (n ≤ length code.stages)

  pub record IsTypedBlock (b : Block) : Type 0 where
    pub operations : (k : ℕ) (o : Operation) → slice_get b.operations k ≡ Some o → IsTypedOperation b.operations o
    pub finals : (k : ℕ) (f : Final) → slice_get b.finals k ≡ Some f → IsTypedFinal b.operations f
    pub next : IsTypedNext b.operations b.next
