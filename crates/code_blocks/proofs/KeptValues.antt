-- A step that keeps the chosen operand of ?:.
use Rattle.std.proofs.Common.{◌≡◌, ℕ, suc, ◌+◌, ◌*◌, ◌^◌, ◌<◌, List, length, refl, arith, pos}
use Rattle.hls_ints.specs.Types.{IntegerType, int_type, long_int}
use Rattle.c_program.specs.declared.tree.Storage.TheVariants.{Automatic}
use Rattle.c_program.specs.Tree.{Expression}
use Rattle.c_program.specs.Weight.{expression_weight}
use Rattle.thread_semantics.specs.Move.{assignment, slot_place}
use Rattle.block_ir.specs.declared.operand.Source.TheVariants.{Constant}
use Rattle.block_ir.specs.declared.operand.Operand.{Operand}
use Rattle.code_blocks.specs.declared.fault.LoweringFault.{LoweringFault}
use Rattle.code_blocks.specs.declared.homes.Home.{Home}
use Rattle.code_blocks.specs.declared.places.Target.{Target}
use Rattle.code_blocks.specs.declared.open_block.OpenBlock.{OpenBlock}
use Rattle.code_blocks.specs.Needs.{plain, IsConverted}
use Rattle.code_blocks.specs.Evaluating.{target_at, Evaluates}
use Rattle.code_blocks.specs.Assigning.{Stores, Places, Assigns}
use Rattle.code_blocks.specs.Room.{IsFull}
use Rattle.code_blocks.specs.Typing.{WorksOnKept}
use Rattle.code_blocks.proofs.Values.{cast_at}
use Rattle.code_blocks.proofs.Steps.{assignment_at, assignment_steps, scalar_at}
use Rattle.code_blocks.proofs.TypedExpressions.{operand_converted}
use Rattle.code_blocks.proofs.TypedAssignments.{place_typed, store_typed, store_count, stepped_typed, stepped_count}

module _ (homes : List Home) (slot : ℕ) (ty : IntegerType) (e : Expression) (old mid last new : OpenBlock) (index a b : Operand) (t : Target) (first : Evaluates homes e old mid a)
    (converted_ : IsConverted ty a b) (index_is : index ≡ plain (Constant int_type (pos 0))) (at : t ≡ target_at homes Automatic slot 1 long_int index) (stores : Stores t b mid last) where
  cast : Evaluates homes (Expression.Cast ty e) old mid b
  cast = cast_at homes e (Expression.Cast ty e) ty old mid a b refl first converted_

  place : Places homes (slot_place slot) mid mid t
  place = scalar_at homes (slot_place slot) Automatic slot long_int mid index t refl index_is at

  pub kept_at : new ≡ record last { steps = suc last.steps } → Assigns homes (λ m. assignment (slot_place slot) (Expression.Cast ty e) m) old new
  kept_at stepped = assignment_at homes (slot_place slot) (Expression.Cast ty e) old mid mid last new t b cast place stores stepped

  pub kept_works : (length mid.operations < 2 ^ 32 → length last.operations < 2 ^ 32) → new ≡ record last { steps = suc last.steps } → WorksOnKept homes slot e old new
  kept_works few stepped = record {
    count = (let c = first.computes.count in let s = store_count t b mid last stores in let l = stepped_count last new stepped in omega (arith, c, s, l));
    typed = λ S fits is open_.
        let i = first.computes.typed S fits is.1 open_ in
        let p = place_typed homes (slot_place slot) mid mid t place S fits is.0 i.block in
        stepped_typed S.types last new stepped
        (store_typed S.types t b mid last stores few p.target (operand_converted S.types ty mid.operations a b converted_ i.operand) p.block);
  }

  pub kept_step : (fault : LoweringFault) → IsFull (last.steps + 1) fault → IsFull (length old.operations + old.steps + (3 * expression_weight e + 2)) fault
  kept_step fault full is =
      let h = full is in
      let same = assignment_steps homes (slot_place slot) (Expression.Cast ty e) old mid mid last t b cast place stores in
      omega (arith, h, same)

pub kept_operand : (e : Expression) (old : OpenBlock) (fault : LoweringFault) → IsFull (length old.operations + (3 * expression_weight e + 1)) fault →
    IsFull (length old.operations + old.steps + (3 * expression_weight e + 2)) fault
kept_operand e old fault full is = let h = full is in omega (arith, h)

pub kept_store : (homes : List Home) (e : Expression) (old mid : OpenBlock) (a : Operand) (fault : LoweringFault) → Evaluates homes e old mid a → IsFull (length mid.operations + 1) fault →
    IsFull (length old.operations + old.steps + (3 * expression_weight e + 2)) fault
kept_store homes e old mid a fault first full is = let h = full is in let n = first.computes.count in omega (arith, h, n)
