-- The functional units that the operations of a thread share: products, quotients and remainders have units, and all else is logic of its own.
use Rattle.std.specs.Prelude.{◌≡◌, ℕ, ◌≤◌, nat_eq, Bool, true, false, ◌&&◌, ◌||◌, if◌then◌else◌, List, [], ◌∷◌, slice_get, slice_index, Option, Some, None, ℤ}
use Rattle.std.specs.Bool.{beq}
use Rattle.hls_ints.specs.Types.{IntegerType, width_of}
use Rattle.c_program.specs.declared.tree.BinaryOperator.{BinaryOperator}
use Rattle.c_program.specs.declared.tree.BinaryOperator.TheVariants.{Multiply, Divide, Remainder}
use Rattle.block_ir.specs.Arithmetic.{binary_total}
use Rattle.block_ir.specs.declared.operand.Operand.{Operand}
use Rattle.block_ir.specs.declared.operand.Source.{Source}
use Rattle.block_ir.specs.declared.operand.Source.TheVariants.{Constant, Variable, Value}
use Rattle.block_ir.specs.declared.block.Operation.TheVariants.{Binary}
use Rattle.block_ir.specs.declared.block.Block.{Block}
use Rattle.block_ir.specs.declared.plan.BlockPlan.{BlockPlan}
use Rattle.planned_block.specs.Plan.{last_state}
use Rattle.planned_block.specs.Slot.{Slot, operand_now}
use Rattle.thread_promise.specs.View.{operand_view, planned_view, plan_view}
use Rattle.netlist.specs.declared.netlist.Module.{Module}
use Rattle.verilog_meaning.specs.Readings.{Reading}
use Rattle.operator_wires.specs.declared.words.Word.{Word}
use Rattle.operator_wires.specs.Words.{IsWord}
use Rattle.block_datapath.specs.declared.registers.UnitResults.{UnitResults}

-- the type in which a unit works: products do not hang on the sign
abbrev pub unit_type : BinaryOperator → IntegerType → IntegerType
unit_type Multiply ty = record { width = ty.width; signed = false }
unit_type _ ty = ty

-- two operators are the same, and one that has units
abbrev pub same_operator : BinaryOperator → BinaryOperator → Bool
same_operator Multiply Multiply = true
same_operator Divide Divide = true
same_operator Remainder Remainder = true
same_operator a b = false

abbrev pub same_type : IntegerType → IntegerType → Bool
same_type s t = nat_eq (width_of s) (width_of t) && beq s.signed t.signed

-- results are those of the units of an operator that works in a type
abbrev pub is_for : BinaryOperator → IntegerType → UnitResults → Bool
is_for operator ty results = same_operator results.operator operator && same_type results.ty (unit_type operator ty)

-- the result of the unit of an operator in a type, by number, if there is one
abbrev pub unit_place : List UnitResults → BinaryOperator → IntegerType → ℕ → Option ℕ
unit_place [] operator ty n = None
unit_place (u ∷ us) operator ty n = if is_for operator ty u then slice_get u.places n else unit_place us operator ty n

-- a constant
abbrev pub is_constant : Source → Bool
is_constant (Constant ty v) = true
is_constant (Variable x ty) = false
is_constant (Value k ty) = false

-- one of two operands is a constant
abbrev pub has_constant : Operand → Operand → Bool
has_constant a b = is_constant a.source || is_constant b.source

-- the result of the unit that an operation on two operands shares, if it shares one: with a constant it has an operator of its own
abbrev pub shared_place : List UnitResults → BinaryOperator → IntegerType → Operand → Operand → ℕ → Option ℕ
shared_place units operator ty a b n = if has_constant a b then None else unit_place units operator ty n

abbrev pub word_at : ℕ → IntegerType → Word
word_at place ty = record { place = place; width = width_of ty; signed = ty.signed }

-- THE UNITS of the operations that are at work, from their first state to their last one, show what these give
abbrev pub HasUnits : List UnitResults → Block → BlockPlan → Module → Reading → Slot → (ℕ → ℤ) → Type 0
HasUnits units b p m r q wire =
    (k place : ℕ) (operator : BinaryOperator) (ty : IntegerType) (left right : Operand) → slice_get b.operations k ≡ Some (Binary operator ty left right) →
    slice_index p.starts k ≤ q.state → q.state ≤ last_state (planned_view b) (plan_view b p) k →
    shared_place units operator ty left right (slice_index p.units k) ≡ Some place →
    IsWord m r (word_at place ty) ty
    (binary_total operator ty (operand_now (planned_view b) (plan_view b p) q wire (operand_view left)) (operand_now (planned_view b) (plan_view b p) q wire (operand_view right)))
