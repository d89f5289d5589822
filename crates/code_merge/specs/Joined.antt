-- Two blocks in one, the second behind the first.
use Rattle.std.specs.Prelude.{◌≡◌, ℕ, ◌+◌, ◌-◌, ◌^◌, ◌<◌, min, if◌then◌else◌, nat_eq, List, [], ◌∷◌, ◌++◌, length, map, Option, Some, None, slice_get}
use Rattle.hls_ints.specs.Types.{IntegerType}
use Rattle.block_ir.specs.declared.operand.Source.{Source}
use Rattle.block_ir.specs.declared.operand.Source.TheVariants.{Constant, Variable, Value}
use Rattle.block_ir.specs.declared.operand.Operand.{Operand}
use Rattle.block_ir.specs.declared.block.Operation.{Operation}
use Rattle.block_ir.specs.declared.block.Operation.TheVariants.{Unary, Binary, ReadGlobal, WriteGlobal, ReadArray, WriteArray}
use Rattle.block_ir.specs.declared.block.Final.{Final}
use Rattle.block_ir.specs.declared.block.Next.{Next}
use Rattle.block_ir.specs.declared.block.Next.TheVariants.{Jump, Branch}
use Rattle.block_ir.specs.declared.block.Block.{Block}
use Rattle.code_blocks.specs.Needs.{plain}
use Rattle.code_blocks.specs.Evaluating.{current_operand}

-- an operand, converted to these types after its own
abbrev pub with_conversions : Operand → List IntegerType → Operand
with_conversions o types = record { source = o.source; conversions = o.conversions ++ types }

-- n later; the numbers of values end at 2 ^ 32 - 1
abbrev pub later : ℕ → ℕ → ℕ
later n k = min (n + k) (2 ^ 32 - 1)

-- behind a block of n operations that leaves these operands in variables: a value comes n later, and a variable is what the
-- first block left in it
module _ (n : ℕ) (current : List (Option Operand)) where
  abbrev pub moved_source : Source → Operand
  moved_source (Constant ty v) = plain (Constant ty v)
  moved_source (Variable x ty) = current_operand (slice_get current x) x ty
  moved_source (Value k ty) = plain (Value (later n k) ty)

  abbrev pub moved : Operand → Operand
  moved o = with_conversions (moved_source o.source) o.conversions

  abbrev pub moved_operation : Operation → Operation
  moved_operation (Unary operator ty a) = Unary operator ty (moved a)
  moved_operation (Binary operator ty a b) = Binary operator ty (moved a) (moved b)
  moved_operation (ReadGlobal x size i) = ReadGlobal x size (moved i)
  moved_operation (WriteGlobal x size i a) = WriteGlobal x size (moved i) (moved a)
  moved_operation (ReadArray x size i) = ReadArray x size (moved i)
  moved_operation (WriteArray x size i a) = WriteArray x size (moved i) (moved a)

  abbrev pub moved_final : Final → Final
  moved_final f = record { variable = f.variable; value = moved f.value }

  abbrev pub moved_next : Next → Next
  moved_next (Jump l) = Jump l
  moved_next (Branch test nonzero zero_) = Branch (moved test) nonzero zero_

-- the block b, and behind it the block d, where b leaves these operands in variables
abbrev pub joined : List (Option Operand) → Block → Block → Block
joined current b d = record {
  operations = b.operations ++ map (moved_operation (length b.operations) current) d.operations;
  finals = b.finals ++ map (moved_final (length b.operations) current) d.finals;
  next = moved_next (length b.operations) current d.next;
  steps = b.steps + d.steps;
}

-- the operand that the last of these finals gives a variable, if one does, else what it had
abbrev pub left_in : List Final → ℕ → Option Operand → Option Operand
left_in [] x before = before
left_in (f ∷ fs) x before = left_in fs x (if nat_eq x f.variable then Some f.value else before)

abbrev pub there : Option (Option Operand) → Option Operand
there None = None
there (Some o) = o

-- these are what the finals leave in variables
abbrev pub AreLeft : List (Option Operand) → List Final → Type 0
AreLeft current fs = (x : ℕ) → there (slice_get current x) ≡ left_in fs x None

-- they are of the first n variables
abbrev pub AreWithin : ℕ → List Final → Type 0
AreWithin n fs = (k : ℕ) (f : Final) → slice_get fs k ≡ Some f → f.variable < n

abbrev pub HasLeft : List (Option Operand) → List Final → Type 0
HasLeft current fs = AreWithin (length current) fs → AreLeft current fs
