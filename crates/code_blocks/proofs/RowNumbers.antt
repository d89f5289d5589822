-- The number of an element of rows is computed as a product and a sum, and a kept value is that of its variable.
use Rattle.std.proofs.Common.{◌≡◌, ℕ, ◌^◌, ◌<◌, List, [], ◌∷◌, length, refl, sym, ap, ◌∙◌, subst, arith, length-append}
use Rattle.std.specs.Prelude.{Bool, true, false, ◌||◌, ℤ, pos, Option, Some, None}
use Rattle.hls_ints.specs.Types.{IntegerType, unsigned_long, long_int, usual_type, is_unsigned_at}
use Rattle.c_program.specs.declared.tree.Storage.TheVariants.{Automatic}
use Rattle.c_program.specs.declared.tree.BinaryOperator.TheVariants.{Add, Multiply}
use Rattle.c_program.specs.Tree.{Expression}
use Rattle.c_program.specs.Types.{type_of}
use Rattle.thread_semantics.specs.Memory.{Location, Memory, Gives, element}
use Rattle.thread_semantics.specs.Value.{value, kept_value}
use Rattle.thread_semantics.proofs.Rowing.{as_sum, row_is_sum}
use Rattle.block_ir.specs.declared.operand.Operand.{Operand}
use Rattle.block_ir.specs.declared.operand.Source.TheVariants.{Constant as FromConstant, Value as FromValue}
use Rattle.block_ir.specs.declared.block.Operation.TheVariants.{Binary}
use Rattle.code_blocks.specs.declared.homes.Home.{Home}
use Rattle.code_blocks.specs.declared.open_block.OpenBlock.{OpenBlock}
use Rattle.code_blocks.specs.Needs.{plain, IsConverted}
use Rattle.code_blocks.specs.Evaluating.{with_more, Evaluates}
use Rattle.code_blocks.proofs.Values.{constant_at, binary_at, cast_at}

or_true : (b : Bool) → (b || true) ≡ true
or_true true = refl
or_true false = refl

usual_right : (t : IntegerType) → unsigned_long ≡ usual_type t unsigned_long
usual_right t = rw (or_true (is_unsigned_at 64 t)) refl

module _ (homes : List Home) (outer inner e : Expression) (outer_length size : ℕ) (old mid product last new : OpenBlock) (a k p b c : Operand) where
  abbrev sized : Expression
  sized = Expression.Constant unsigned_long (pos size)

  abbrev scaled : Expression
  scaled = Expression.Binary Multiply unsigned_long outer sized

  pub row_at : e ≡ Expression.Row outer outer_length inner size → Evaluates homes outer old mid a → k ≡ plain (FromConstant unsigned_long (pos size)) →
      product ≡ with_more mid (Binary Multiply unsigned_long a k ∷ []) → p ≡ plain (FromValue (length mid.operations) unsigned_long) → length product.operations < 2 ^ 32 →
      Evaluates homes inner product last b → new ≡ with_more last (Binary Add unsigned_long p b ∷ []) → c ≡ plain (FromValue (length last.operations) unsigned_long) →
      length new.operations < 2 ^ 32 → Evaluates homes e old new c
  row_at is first constant multiplied p_is few second added c_is small =
      let start = binary_at homes outer sized scaled Multiply unsigned_long unsigned_long old mid mid product a k p refl first
      (constant_at homes sized mid unsigned_long (pos size) k refl constant) multiplied p_is refl few in
      let whole = binary_at homes scaled inner (as_sum outer size inner) Add unsigned_long unsigned_long old product last new p b c refl start second added c_is refl small in
      subst (λ z. Evaluates homes z old new c) (sym is) (record {
        operations = whole.operations;
        added = whole.added;
        computes = record {
          count =
              (let one = first.computes.count in
              let two = ap (λ (z : OpenBlock). length z.operations) multiplied ∙ length-append mid.operations (Binary Multiply unsigned_long a k ∷ []) in
              let three = second.computes.count in
              let four = ap (λ (z : OpenBlock). length z.operations) added ∙ length-append last.operations (Binary Add unsigned_long p b ∷ []) in
              omega (arith, one, two, three, four));
          typed = λ S fits resolved open_. whole.computes.typed S fits (refl, (usual_right (type_of outer), resolved.0, resolved.2), resolved.1) open_;
        };
        below = whole.below;
        reads = λ variables r m v ls fits len holds gives. whole.reads variables r m v ls fits len holds (row_is_sum outer inner outer_length size m v ls gives);
        gives = λ variables r m v ls fits len holds gives. whole.gives variables r m v ls fits len holds (row_is_sum outer inner outer_length size m v ls gives);
      })

-- a kept value is the local's, converted
kept_is_cast : (slot : ℕ) (ty : IntegerType) (m : Memory) (v : ℤ) (ls : List Location) → value (Expression.Kept slot ty) m ≡ Gives v ls →
    value (Expression.Cast ty (Expression.Variable Automatic slot long_int)) m ≡ Gives v ls
kept_is_cast slot ty m v ls = go (element m.locals slot 0) refl
  where
    go : (o : Option (Option ℤ)) → element m.locals slot 0 ≡ o → kept_value ty o ≡ Gives v ls → value (Expression.Cast ty (Expression.Variable Automatic slot long_int)) m ≡ Gives v ls
    go (Some (Some w)) is e = rw is e
    go (Some None) is e = cc
    go None is e = cc

pub kept_at : (homes : List Home) (e : Expression) (slot : ℕ) (ty : IntegerType) (old new : OpenBlock) (a b : Operand) → e ≡ Expression.Kept slot ty →
    Evaluates homes (Expression.Variable Automatic slot long_int) old new a → IsConverted ty a b → Evaluates homes e old new b
kept_at homes e slot ty old new a b is first converted_ =
    let whole =
    cast_at homes (Expression.Variable Automatic slot long_int) (Expression.Cast ty (Expression.Variable Automatic slot long_int)) ty old new a b refl first converted_ in
    subst (λ z. Evaluates homes z old new b) (sym is) (record {
      operations = whole.operations;
      added = whole.added;
      computes = record {
        count = first.computes.count;
        typed = λ S fits resolved open_. whole.computes.typed S fits resolved.local open_;
      };
      below = whole.below;
      reads = λ variables r m v ls fits len holds gives. whole.reads variables r m v ls fits len holds (kept_is_cast slot ty m v ls gives);
      gives = λ variables r m v ls fits len holds gives. whole.gives variables r m v ls fits len holds (kept_is_cast slot ty m v ls gives);
    })
