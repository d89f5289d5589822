-- What code in the making needs, where it is too large.
use Rattle.std.proofs.Common.{◌≡◌, ℕ, ◌+◌, ◌*◌, ◌≤◌, List, [], ◌∷◌, length, ap, ◌∙◌, arith, length-append}
use Rattle.hls_ints.specs.Types.{IntegerType}
use Rattle.c_program.specs.declared.tree.BinaryOperator.{BinaryOperator}
use Rattle.c_program.specs.Tree.{Expression, Place}
use Rattle.c_program.specs.Weight.{expression_weight, place_weight}
use Rattle.block_ir.specs.declared.operand.Operand.{Operand}
use Rattle.block_ir.specs.declared.block.Operation.TheVariants.{Binary}
use Rattle.code_blocks.specs.declared.fault.LoweringFault.{LoweringFault}
use Rattle.code_blocks.specs.declared.homes.Home.{Home}
use Rattle.code_blocks.specs.declared.places.Target.{Target}
use Rattle.code_blocks.specs.declared.open_block.OpenBlock.{OpenBlock}
use Rattle.code_blocks.specs.Evaluating.{load_block, with_more, Evaluates}
use Rattle.code_blocks.specs.Assigning.{Places}
use Rattle.code_blocks.specs.Room.{IsFull}
use Rattle.code_blocks.proofs.TypedExpressions.{load_count}
use Rattle.code_blocks.proofs.TypedAssignments.{place_count}

pub full_more : (fault : LoweringFault) (n m : ℕ) → n ≤ m → IsFull n fault → IsFull m fault
full_more fault n m le full is = let h = full is in omega (arith, h)

-- what an update needs for its store
pub update_needs : (homes : List Home) (place : Place) (operator : BinaryOperator) (ty : IntegerType) (e : Expression) (old mid found read made : OpenBlock) (t : Target) (a b : Operand)
    (fault : LoweringFault) → Evaluates homes e old mid b → Places homes place mid found t → read ≡ load_block t found → made ≡ with_more read (Binary operator ty a b ∷ []) →
    IsFull (length made.operations + 1) fault → IsFull (length old.operations + old.steps + 4 * (place_weight place + expression_weight e + 2)) fault
update_needs homes place operator ty e old mid found read made t a b fault first at is_read is_made full is =
    let h = full is in
    let n = first.computes.count in
    let p = place_count homes place mid found t at in
    let r = load_count t found read is_read in
    let m = ap (λ (z : OpenBlock). length z.operations) is_made ∙ length-append read.operations (Binary operator ty a b ∷ []) in
    omega (arith, h, n, p, r, m)

-- What a step that assigns needs at each of its parts, where k is what it takes besides the place and the right side.

pub right_needs : (place : Place) (e : Expression) (k : ℕ) (old : OpenBlock) (fault : LoweringFault) → 1 ≤ k → IsFull (length old.operations + (3 * expression_weight e + 1)) fault →
    IsFull (length old.operations + old.steps + 4 * (place_weight place + expression_weight e + k)) fault
right_needs place e k old fault some full is = let h = full is in omega (arith, h, some)

pub place_needs : (homes : List Home) (place : Place) (e : Expression) (k : ℕ) (old mid : OpenBlock) (b : Operand) (fault : LoweringFault) → 1 ≤ k → Evaluates homes e old mid b →
    IsFull (length mid.operations + 3 * place_weight place) fault → IsFull (length old.operations + old.steps + 4 * (place_weight place + expression_weight e + k)) fault
place_needs homes place e k old mid b fault some first full is = let h = full is in let n = first.computes.count in omega (arith, h, n, some)

pub found_needs : (homes : List Home) (place : Place) (e : Expression) (k : ℕ) (old mid found : OpenBlock) (t : Target) (b : Operand) (fault : LoweringFault) → 1 ≤ k →
    Evaluates homes e old mid b → Places homes place mid found t → IsFull (length found.operations + 1) fault →
    IsFull (length old.operations + old.steps + 4 * (place_weight place + expression_weight e + k)) fault
found_needs homes place e k old mid found t b fault some first at full is =
    let h = full is in
    let n = first.computes.count in
    let p = place_count homes place mid found t at in
    omega (arith, h, n, p, some)

pub read_needs : (homes : List Home) (place : Place) (e : Expression) (old mid found read : OpenBlock) (t : Target) (b : Operand) (fault : LoweringFault) →
    Evaluates homes e old mid b → Places homes place mid found t → read ≡ load_block t found → IsFull (length read.operations + 1) fault →
    IsFull (length old.operations + old.steps + 4 * (place_weight place + expression_weight e + 2)) fault
read_needs homes place e old mid found read t b fault first at is_read full is =
    let h = full is in
    let n = first.computes.count in
    let p = place_count homes place mid found t at in
    let r = load_count t found read is_read in
    omega (arith, h, n, p, r)

pub step_needs : (place : Place) (e : Expression) (k : ℕ) (old last : OpenBlock) (fault : LoweringFault) → 1 ≤ k → last.steps ≡ old.steps → IsFull (last.steps + 1) fault →
    IsFull (length old.operations + old.steps + 4 * (place_weight place + expression_weight e + k)) fault
step_needs place e k old last fault some same full is = let h = full is in omega (arith, h, same, some)
