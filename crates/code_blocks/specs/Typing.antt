-- Typed code in the making.
use Rattle.std.specs.Prelude.{◌≡◌, ℕ, ◌+◌, ◌*◌, ◌^◌, ◌<◌, ◌≤◌, List, [], length, map, Option, Some, None, slice_get}
use Rattle.hls_ints.specs.Types.{IntegerType, long_int}
use Rattle.c_program.specs.declared.tree.BinaryOperator.{BinaryOperator}
use Rattle.c_program.specs.declared.tree.LocalVariable.{LocalVariable}
use Rattle.c_program.specs.Tree.{Expression, Place, Function, GlobalVariable, Program}
use Rattle.c_program.specs.Types.{type_of}
use Rattle.c_program.specs.Weight.{expression_weight, expressions_weight, place_weight}
use Rattle.c_program.specs.Resolved.{IsExpression, AreExpressions, IsPlace, IsUpdate}
use Rattle.thread_semantics.specs.Move.{slot_place}
use Rattle.block_ir.specs.declared.operand.Operand.{Operand}
use Rattle.code_blocks.specs.declared.homes.Home.{Home}
use Rattle.code_blocks.specs.declared.homes.Home.TheVariants as home
use Rattle.code_blocks.specs.declared.open_block.OpenBlock.{OpenBlock}
use Rattle.code_following.specs.Typed.{Types, operand_type, IsArray, IsTypedOperand, AreTyped}

-- a function of a program, and the types of what its code works on
pub record Typing : Type 0 where
  pub program : Program
  pub function : Function
  pub types : Types

abbrev pub IsTypedHome : Types → LocalVariable → Option Home → Type 0
IsTypedHome T l (Some (home.Variable n)) = slice_get T.variables n ≡ Some l.ty
IsTypedHome T l (Some (home.Array a)) = IsArray T a l.length l.ty
IsTypedHome T l None = ⊥

-- the types are those that the locals and the globals are declared with
pub record Fits (S : Typing) (homes : List Home) : Type 0 where
  pub locals : (x : ℕ) (l : LocalVariable) → slice_get S.function.locals x ≡ Some l → IsTypedHome S.types l (slice_get homes x)
  pub globals : S.types.globals ≡ map (λ (g : GlobalVariable). g.ty) S.program.globals
  pub lengths : S.types.lengths ≡ map (λ (g : GlobalVariable). g.length) S.program.globals

-- so many variables of 64 bits from n on
abbrev pub HasWords : Types → ℕ → ℕ → Type 0
HasWords T n count = (j : ℕ) → j < count → slice_get T.variables (n + j) ≡ Some long_int

-- its operations are typed, and so is what variables hold by now
pub record IsTypedOpen (T : Types) (b : OpenBlock) : Type 0 where
  pub operations : AreTyped T [] b.operations
  pub few : length b.operations < 2 ^ 32
  pub current : (x : ℕ) (o : Operand) → slice_get b.current x ≡ Some (Some o) → IsTypedOperand T b.operations o × (slice_get T.variables x ≡ Some (operand_type o))

-- a typed block, and an operand of a type
pub record IsComputed (T : Types) (b : OpenBlock) (a : Operand) (ty : IntegerType) : Type 0 where
  pub block : IsTypedOpen T b
  pub operand : IsTypedOperand T b.operations a
  pub type : operand_type a ≡ ty

-- the operations of an expression are typed, at most three for each unit of its weight and one
pub record Computes (homes : List Home) (e : Expression) (old new : OpenBlock) (a : Operand) : Type 0 where
  pub count : length new.operations ≤ length old.operations + (3 * expression_weight e + 1)
  pub typed : (S : Typing) → Fits S homes → IsExpression S.program S.function e → IsTypedOpen S.types old → IsComputed S.types new a (type_of e)

-- a block stays typed where this holds, and gets at most so many operations
pub record Works (homes : List Home) (most : ℕ) (Is : Typing → Type 0) (old new : OpenBlock) : Type 0 where
  pub count : length new.operations ≤ length old.operations + most
  pub typed : (S : Typing) → Fits S homes → Is S → IsTypedOpen S.types old → IsTypedOpen S.types new

abbrev pub WorksOnAssignment : List Home → Place → Expression → OpenBlock → OpenBlock → Type 0
WorksOnAssignment homes place e old new =
    Works homes (4 * (place_weight place + expression_weight e + 1)) (λ S. IsPlace S.program S.function place × IsExpression S.program S.function e) old new

abbrev pub WorksOnUpdate : List Home → Place → BinaryOperator → IntegerType → Expression → OpenBlock → OpenBlock → Type 0
WorksOnUpdate homes place operator ty e old new =
    Works homes (4 * (place_weight place + expression_weight e + 2)) (λ S. IsUpdate S.program S.function place operator ty e) old new

-- the chosen operand of ?: is kept in that local
abbrev pub WorksOnKept : List Home → ℕ → Expression → OpenBlock → OpenBlock → Type 0
WorksOnKept homes slot e old new =
    Works homes (3 * expression_weight e + 2) (λ S. IsPlace S.program S.function (slot_place slot) × IsExpression S.program S.function e) old new

-- values are put into the variables from n on
abbrev pub WorksOnValue : List Home → ℕ → Expression → OpenBlock → OpenBlock → Type 0
WorksOnValue homes n e old new =
    Works homes (3 * expression_weight e + 1) (λ S. IsExpression S.program S.function e × (slice_get S.types.variables n ≡ Some long_int)) old new

abbrev pub WorksOnValues : List Home → ℕ → List Expression → OpenBlock → OpenBlock → Type 0
WorksOnValues homes n es old new =
    Works homes (3 * expressions_weight es + length es) (λ S. AreExpressions S.program S.function es × HasWords S.types n (length es)) old new
