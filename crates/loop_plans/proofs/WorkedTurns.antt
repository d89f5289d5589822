-- Loops of the code worked out: which fit, and what their operations use of earlier iterations.
use Rattle.std.proofs.Common.{◌≡◌, ℕ, List, [], ◌∷◌, None, Some, true, false, pos, refl, arith}
use Rattle.hls_ints.specs.Types.{int_type}
use Rattle.c_program.specs.declared.tree.BinaryOperator.TheVariants.{Multiply as Times, Divide as Over, Add, Less, And}
use Rattle.block_ir.specs.declared.operand.Source.TheVariants.{Constant, Variable, Value}
use Rattle.block_ir.specs.declared.operand.Operand.{Operand}
use Rattle.block_ir.specs.declared.block.Operation.{Operation}
use Rattle.block_ir.specs.declared.block.Operation.TheVariants.{Binary, ReadGlobal, ReadArray, WriteArray}
use Rattle.block_ir.specs.declared.block.Final.{Final}
use Rattle.block_ir.specs.declared.block.Next.TheVariants.{Jump}
use Rattle.block_ir.specs.declared.block.Block.{Block}
use Rattle.loop_plans.specs.Fits.{is_comparing, all_local, none_writes, FitsPipeline}
use Rattle.loop_plans.specs.Listed.{origin_at, origin_of, carried_use, uses_from}

abbrev variable : ℕ → Operand
variable x = record { source = Variable x int_type; conversions = [] }

abbrev number : ℕ → Operand
number n = record { source = Constant int_type (pos n); conversions = [] }

abbrev value : ℕ → Operand
value k = record { source = Value k int_type; conversions = [] }

abbrev final : ℕ → Operand → Final
final x a = record { variable = x; value = a }

abbrev turn_of : List Operation → List Final → Block
turn_of operations finals = record { operations = operations; finals = finals; next = Jump 0; steps = 4 }

-- ---- for (i = 0; i < 8; i++) a[i] = i * i: `<`, `*`, the write, `+`

abbrev squares : List Operation
squares =
    Binary Less int_type (variable 0) (number 8) ∷ Binary Times int_type (variable 0) (variable 0) ∷ WriteArray 0 8 (variable 0) (value 1)
    ∷ Binary Add int_type (variable 0) (number 1) ∷ []

squares_fit : FitsPipeline (turn_of squares (final 0 (value 3) ∷ [])) 0
squares_fit = record {
  order = record { operations = ((tt, tt), ((tt, tt), ((tt, omega arith), ((tt, tt), tt)))); finals = (omega arith, tt); next = tt };
  compares = refl;
  condition = refl;
  local = refl;
}

-- each uses the counter that the iteration before has left, the product twice
squares_uses : uses_from (final 0 (value 3) ∷ []) 0 squares ≡ carried_use 3 0 1 ∷ carried_use 3 1 1 ∷ carried_use 3 1 1 ∷ carried_use 3 2 1 ∷ carried_use 3 3 1 ∷ []
squares_uses = refl

-- ---- for (i = 0; i < 4; i++) s = s / 3 + i: `<`, `/`, `+`, `+`

abbrev thirds : List Operation
thirds =
    Binary Less int_type (variable 0) (number 4) ∷ Binary Over int_type (variable 1) (number 3) ∷ Binary Add int_type (value 1) (variable 0)
    ∷ Binary Add int_type (variable 0) (number 1) ∷ []

thirds_uses : uses_from (final 1 (value 2) ∷ final 0 (value 3) ∷ []) 0 thirds ≡ carried_use 3 0 1 ∷ carried_use 2 1 1 ∷ carried_use 3 2 1 ∷ carried_use 3 3 1 ∷ []
thirds_uses = refl

-- ---- copies

-- c = b; b = a; a = the value of operation 5: c has it three iterations later
copied_on : origin_of (final 2 (variable 1) ∷ final 1 (variable 0) ∷ final 0 (value 5) ∷ []) 2 ≡ Some (origin_at 5 3)
copied_on = refl

-- t = a; a = b; b = t: what they hold comes from before the loop
exchanged : origin_of (final 0 (variable 1) ∷ final 1 (variable 0) ∷ []) 0 ≡ None
exchanged = refl

-- a constant, and a variable that no iteration changes
constant : origin_of (final 0 (number 7) ∷ []) 0 ≡ None
constant = refl

unchanged : origin_of (final 0 (value 2) ∷ []) 1 ≡ None
unchanged = refl

-- ---- loops that do not fit

-- while its counter is below a global
reads_a_global : all_local (ReadGlobal 0 1 (number 0) ∷ Binary Less int_type (variable 0) (value 0) ∷ []) ≡ false
reads_a_global = refl

-- a test of a bit is no comparison
tests_a_bit : is_comparing (Some (Binary And int_type (variable 0) (number 1))) ≡ false
tests_a_bit = refl

-- a condition may read an array; nothing before the comparison may write
reads_an_array : none_writes 1 (ReadArray 0 8 (variable 0) ∷ Binary Less int_type (value 0) (number 9) ∷ []) ≡ true
reads_an_array = refl
