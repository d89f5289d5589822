-- The lines of a block and of acts, worked by hand.
use Rattle.std.proofs.Common.{◌≡◌, ◌++◌, [], ◌∷◌, refl, pos, negsuc}
use Rattle.std.specs.Prelude.{Some, None, true, false, codes}
use Rattle.std.specs.Fmt.{digits}
use Rattle.hls_ints.specs.Types.{IntegerType, bits_32, bits_64, int_type}
use Rattle.c_program.specs.declared.tree.BinaryOperator.TheVariants.{Multiply}
use Rattle.block_ir.specs.declared.operand.Source.TheVariants.{Constant, Variable, Value}
use Rattle.block_ir.specs.declared.operand.Operand.{Operand}
use Rattle.block_ir.specs.declared.block.Operation.TheVariants.{Binary, ReadGlobal, WriteGlobal}
use Rattle.block_ir.specs.declared.block.Next.TheVariants.{Jump, Branch}
use Rattle.block_ir.specs.declared.block.Block.{Block}
use Rattle.block_ir.specs.declared.code.Act.TheVariants as act
use Rattle.block_ir.specs.declared.code.ActOperand.TheVariants as handed
use Rattle.block_ir.specs.declared.plan.BlockPlan.{BlockPlan}
use Rattle.plan_report.specs.Code.{block_lines, next_lines}
use Rattle.plan_report.specs.Acts.{act_lines}

abbrev unsigned_type : IntegerType
unsigned_type = record { width = bits_32; signed = false }

abbrev long_type : IntegerType
long_type = record { width = bits_64; signed = true }

-- the index of a scalar
abbrev first : Operand
first = record { source = Constant int_type (pos 0); conversions = [] }

-- x = x * 3u; of a global x
abbrev tripling : Block
tripling = record {
  operations =
      ReadGlobal 0 1 first
      ∷ Binary Multiply unsigned_type (record { source = Value 0 unsigned_type; conversions = [] }) (record { source = Constant unsigned_type (pos 3); conversions = [] })
      ∷ WriteGlobal 0 1 first (record { source = Value 1 unsigned_type; conversions = unsigned_type ∷ [] }) ∷ [];
  finals = [];
  next = Jump 1;
  steps = 1;
}

-- the read takes two states, the product two, the write one; both values fit one register
abbrev tripling_plan : BlockPlan
tripling_plan = record { starts = 0 ∷ 2 ∷ 4 ∷ []; states = 5; units = 0 ∷ 0 ∷ 0 ∷ []; registers = Some 0 ∷ Some 0 ∷ None ∷ [] }

a_block : block_lines 0 tripling tripling_plan ≡
    codes "block 0 5 1\noperation 0 read_global 0 1\nindex constant 0 32 signed\nworks 0 2\nregister 0\n"
    ++ codes "operation 1 multiply 32 unsigned\nleft value 0 32 unsigned\nright constant 3 32 unsigned\n"
    ++ codes "works 2 2\nmultiplier 0 32\nregister 0\n"
    ++ codes "operation 2 write_global 0 1\nindex constant 0 32 signed\nstored value 1 32 unsigned 32 unsigned\nworks 4 1\njump 1\n"
unfolding digits
a_block = refl

a_branch : next_lines (Branch (record { source = Constant int_type (negsuc 4); conversions = [] }) 12 3) ≡
    codes "branch 12 3\ntest constant -5 32 signed\n"
unfolding digits
a_branch = refl

a_create : act_lines (act.Create (handed.Constant long_type (pos 1)) (handed.Variable 1 long_type)) ≡
    codes "create\nhanded constant 1 64 signed\nhanded variable 1 64 signed\n"
unfolding digits
a_create = refl
