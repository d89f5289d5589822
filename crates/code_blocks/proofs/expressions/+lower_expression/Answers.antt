use Rattle.std.proofs.Common.{◌≡◌, ◌+◌, ◌*◌, length, refl, ap, sym, ◌∙◌, arith}
use Rattle.std.proofs.lemmas.Result.{IfErr-weaker, err_from_is_err_and}
use Rattle.c_program.specs.Plain.{expression_of}
use Rattle.c_program.specs.Tree.{Expression}
use Rattle.c_program.specs.Weight.{expression_weight}
use Rattle.code_blocks.proofs.Room.{full_more}
use Rattle.code_blocks.proofs.Values.{if_ok_three, constant_at, variable_at, element_at, unary_at, plus_at, binary_at, cast_at}
use Rattle.hls_ints.specs.Types.{long_int}
use Rattle.c_program.specs.declared.tree.Storage.TheVariants.{Automatic}
use Rattle.code_blocks.proofs.RowNumbers.{row_at, kept_at}
use Rattle.code_blocks.proofs.expressions.+lower_expression.Goals as goal

pub returns-in-Variable : goal.returns-in-Variable
returns-in-Variable t c = record {
  value =
      if_ok_three c.load.result
      (λ value block is few.
      variable_at c.args.homes.now (expression_of c.args.expression.now) c.in-Variable.storage c.in-Variable.variable c.in-Variable.ty c.args.block.now c.load.new.block
      c.first_index.result value c.target_at-target.result (ap expression_of c.in-Variable.is) c.first_index.ensures c.target_at-target.ensures block is few)
      c.load.ensures.block c.load.ensures.value c.load.ensures.few;
  full =
      IfErr-weaker c.load.result _ _
      (λ fault. full_more fault (length c.args.block.now.operations + 1) (length c.args.block.now.operations + (3 * expression_weight (expression_of c.args.expression.now) + 1)) (omega arith))
      c.load.ensures.full;
}

pub returns-in_ok-index-in-Element : goal.returns-in_ok-index-in-Element
returns-in_ok-index-in-Element t c =
    let is =
    ap expression_of c.in-Element.is
    ∙ ap (λ z. Expression.Element c.in-Element.storage c.in-Element.variable c.in-Element.length c.in-Element.ty (expression_of z)) (sym c.deref.ensures) in
    let weighs : expression_weight (expression_of c.args.expression.now) ≡ expression_weight (expression_of c.deref.result.now) + 1 = ap expression_weight is in
    let count = c.in_ok-index-in-Element.ensures.value.computes.count in
    record {
      value =
          if_ok_three c.load-in-Element.result
          (λ value block is_value few.
          element_at c.args.homes.now (expression_of c.deref.result.now) (expression_of c.args.expression.now) c.in-Element.storage c.in-Element.variable c.in-Element.length c.in-Element.ty
          c.args.block.now c.lower_expression.new.block c.load-in-Element.new.block c.in_ok-index-in-Element.index value c.target_at-target-in-Element.result
          is c.in_ok-index-in-Element.ensures.value c.target_at-target-in-Element.ensures block is_value few)
          c.load-in-Element.ensures.block c.load-in-Element.ensures.value c.load-in-Element.ensures.few;
      full =
          IfErr-weaker c.load-in-Element.result _ _
          (λ fault. full_more fault (length c.lower_expression.new.block.operations + 1)
          (length c.args.block.now.operations + (3 * expression_weight (expression_of c.args.expression.now) + 1)) (omega (arith, weighs, count)))
          c.load-in-Element.ensures.full;
    }

pub returns-else-eq : goal.returns-else-eq
returns-else-eq t c =
    let is = ap expression_of c.in-Unary.is ∙ ap (λ z. Expression.Unary c.in-Unary.operator c.in-Unary.ty (expression_of z)) (sym c.deref-in-Unary.ensures) in
    let weighs : expression_weight (expression_of c.args.expression.now) ≡ expression_weight (expression_of c.deref-in-Unary.result.now) + 1 = ap expression_weight is in
    let count = c.in_ok-operand-in-Unary.ensures.value.computes.count in
    record {
      value =
          if_ok_three c.put.result
          (λ value block is_value few.
          unary_at c.args.homes.now (expression_of c.deref-in-Unary.result.now) (expression_of c.args.expression.now) c.in-Unary.operator c.in-Unary.ty c.expression_type.result
          c.args.block.now c.lower_expression-in-Unary.new.block c.put.new.self c.in_ok-operand-in-Unary.operand value
          is c.in_ok-operand-in-Unary.ensures.value block is_value c.expression_type.ensures few)
          c.put.ensures.block c.put.ensures.value c.put.ensures.few;
      full =
          IfErr-weaker c.put.result _ _
          (λ fault. full_more fault (length c.lower_expression-in-Unary.new.block.operations + 1)
          (length c.args.block.now.operations + (3 * expression_weight (expression_of c.args.expression.now) + 1)) (omega (arith, weighs, count)))
          c.put.ensures.full;
    }

pub returns-in_ok-right-in-Binary : goal.returns-in_ok-right-in-Binary
returns-in_ok-right-in-Binary t c =
    let is =
    ap expression_of c.in-Binary.is
    ∙ ap (λ z. Expression.Binary c.in-Binary.operator c.in-Binary.ty (expression_of z) (expression_of c.in-Binary.right.value)) (sym c.deref-in-Binary.ensures)
    ∙ ap (λ z. Expression.Binary c.in-Binary.operator c.in-Binary.ty (expression_of c.deref-in-Binary.result.now) (expression_of z)) (sym c.deref-in-Binary-2.ensures) in
    let weighs : expression_weight (expression_of c.args.expression.now)
    ≡ expression_weight (expression_of c.deref-in-Binary.result.now) + expression_weight (expression_of c.deref-in-Binary-2.result.now) + 1 = ap expression_weight is in
    let left = c.in_ok-left-in-Binary.ensures.value.computes.count in
    let right = c.in_ok-right-in-Binary.ensures.value.computes.count in
    record {
      value =
          if_ok_three c.put-in-Binary.result
          (λ value block is_value few.
          binary_at c.args.homes.now (expression_of c.deref-in-Binary.result.now) (expression_of c.deref-in-Binary-2.result.now) (expression_of c.args.expression.now)
          c.in-Binary.operator c.in-Binary.ty c.expression_type-in-Binary.result
          c.args.block.now c.lower_expression-in-Binary.new.block c.lower_expression-in-Binary-2.new.block c.put-in-Binary.new.self
          c.in_ok-left-in-Binary.left c.in_ok-right-in-Binary.right value
          is c.in_ok-left-in-Binary.ensures.value c.in_ok-right-in-Binary.ensures.value block is_value c.expression_type-in-Binary.ensures few)
          c.put-in-Binary.ensures.block c.put-in-Binary.ensures.value c.put-in-Binary.ensures.few;
      full =
          IfErr-weaker c.put-in-Binary.result _ _
          (λ fault. full_more fault (length c.lower_expression-in-Binary-2.new.block.operations + 1)
          (length c.args.block.now.operations + (3 * expression_weight (expression_of c.args.expression.now) + 1)) (omega (arith, weighs, left, right)))
          c.put-in-Binary.ensures.full;
    }

pub returns-in_err-index-in-Element-clause-full : goal.returns-in_err-index-in-Element-clause-full
returns-in_err-index-in-Element-clause-full t c =
    let p = err_from_is_err_and c.from_residual.result c.from_residual.ensures.1 in
    let is =
    ap expression_of c.in-Element.is
    ∙ ap (λ z. Expression.Element c.in-Element.storage c.in-Element.variable c.in-Element.length c.in-Element.ty (expression_of z)) (sym c.deref.ensures) in
    let weighs : expression_weight (expression_of c.args.expression.now) ≡ expression_weight (expression_of c.deref.result.now) + 1 = ap expression_weight is in
    rw (p.1, p.2)
    (full_more _ (length c.args.block.now.operations + (3 * expression_weight (expression_of c.deref.result.now) + 1))
    (length c.args.block.now.operations + (3 * expression_weight (expression_of c.args.expression.now) + 1)) (omega (arith, weighs))
    c.in_err-index-in-Element.ensures.full)

pub returns-in_err-operand-in-Unary-clause-full : goal.returns-in_err-operand-in-Unary-clause-full
returns-in_err-operand-in-Unary-clause-full t c =
    let p = err_from_is_err_and c.from_residual-in_err-operand-in-Unary.result c.from_residual-in_err-operand-in-Unary.ensures.1 in
    let is =
    ap expression_of c.in-Unary.is ∙ ap (λ z. Expression.Unary c.in-Unary.operator c.in-Unary.ty (expression_of z)) (sym c.deref-in-Unary.ensures) in
    let weighs : expression_weight (expression_of c.args.expression.now) ≡ expression_weight (expression_of c.deref-in-Unary.result.now) + 1 = ap expression_weight is in
    rw (p.1, p.2)
    (full_more _ (length c.args.block.now.operations + (3 * expression_weight (expression_of c.deref-in-Unary.result.now) + 1))
    (length c.args.block.now.operations + (3 * expression_weight (expression_of c.args.expression.now) + 1)) (omega (arith, weighs))
    c.in_err-operand-in-Unary.ensures.full)

pub returns-in_err-left-in-Binary-clause-full : goal.returns-in_err-left-in-Binary-clause-full
returns-in_err-left-in-Binary-clause-full t c =
    let p = err_from_is_err_and c.from_residual-in_err-left-in-Binary.result c.from_residual-in_err-left-in-Binary.ensures.1 in
    let is =
    ap expression_of c.in-Binary.is
    ∙ ap (λ z. Expression.Binary c.in-Binary.operator c.in-Binary.ty (expression_of z) (expression_of c.in-Binary.right.value)) (sym c.deref-in-Binary.ensures) in
    let weighs : expression_weight (expression_of c.args.expression.now) ≡
    expression_weight (expression_of c.deref-in-Binary.result.now) + expression_weight (expression_of c.in-Binary.right.value) + 1 =
    ap expression_weight is in
    rw (p.1, p.2)
    (full_more _ (length c.args.block.now.operations + (3 * expression_weight (expression_of c.deref-in-Binary.result.now) + 1))
    (length c.args.block.now.operations + (3 * expression_weight (expression_of c.args.expression.now) + 1)) (omega (arith, weighs))
    c.in_err-left-in-Binary.ensures.full)

pub returns-in_err-right-in-Binary-clause-full : goal.returns-in_err-right-in-Binary-clause-full
returns-in_err-right-in-Binary-clause-full t c =
    let p = err_from_is_err_and c.from_residual-in_err-right-in-Binary.result c.from_residual-in_err-right-in-Binary.ensures.1 in
    let is =
    ap expression_of c.in-Binary.is
    ∙ ap (λ z. Expression.Binary c.in-Binary.operator c.in-Binary.ty (expression_of z) (expression_of c.in-Binary.right.value)) (sym c.deref-in-Binary.ensures)
    ∙ ap (λ z. Expression.Binary c.in-Binary.operator c.in-Binary.ty (expression_of c.deref-in-Binary.result.now) (expression_of z)) (sym c.deref-in-Binary-2.ensures) in
    let weighs : expression_weight (expression_of c.args.expression.now) ≡
    expression_weight (expression_of c.deref-in-Binary.result.now) + expression_weight (expression_of c.deref-in-Binary-2.result.now) + 1 =
    ap expression_weight is in
    let count = c.in_ok-left-in-Binary.ensures.value.computes.count in
    rw (p.1, p.2)
    (full_more _ (length c.lower_expression-in-Binary.new.block.operations + (3 * expression_weight (expression_of c.deref-in-Binary-2.result.now) + 1))
    (length c.args.block.now.operations + (3 * expression_weight (expression_of c.args.expression.now) + 1)) (omega (arith, weighs, count))
    c.in_err-right-in-Binary.ensures.full)

pub returns-in_err-operand-in-Cast-clause-full : goal.returns-in_err-operand-in-Cast-clause-full
returns-in_err-operand-in-Cast-clause-full t c =
    let p = err_from_is_err_and c.from_residual-in_err-operand-in-Cast.result c.from_residual-in_err-operand-in-Cast.ensures.1 in
    let is =
    ap expression_of c.in-Cast.is ∙ ap (λ z. Expression.Cast c.in-Cast.ty (expression_of z)) (sym c.deref-in-Cast.ensures) in
    let weighs : expression_weight (expression_of c.args.expression.now) ≡ expression_weight (expression_of c.deref-in-Cast.result.now) + 1 = ap expression_weight is in
    rw (p.1, p.2)
    (full_more _ (length c.args.block.now.operations + (3 * expression_weight (expression_of c.deref-in-Cast.result.now) + 1))
    (length c.args.block.now.operations + (3 * expression_weight (expression_of c.args.expression.now) + 1)) (omega (arith, weighs))
    c.in_err-operand-in-Cast.ensures.full)

pub returns-in-Constant-clause-value : goal.returns-in-Constant-clause-value
returns-in-Constant-clause-value t c = grind (arith, constant_at)

pub returns-in-Constant-clause-full : goal.returns-in-Constant-clause-full
returns-in-Constant-clause-full t c = tt

pub returns-then-eq-clause-value : goal.returns-then-eq-clause-value
returns-then-eq-clause-value t c = grind (arith, plus_at)

pub returns-then-eq-clause-full : goal.returns-then-eq-clause-full
returns-then-eq-clause-full t c = tt

pub returns-in_ok-converted-in-Cast : goal.returns-in_ok-converted-in-Cast
returns-in_ok-converted-in-Cast t c =
    let is = ap expression_of c.in-Cast.is ∙ ap (λ z. Expression.Cast c.in-Cast.ty (expression_of z)) (sym c.deref-in-Cast.ensures) in
    record {
      value =
          cast_at c.args.homes.now (expression_of c.deref-in-Cast.result.now) (expression_of c.args.expression.now) c.in-Cast.ty
          c.args.block.now c.lower_expression-in-Cast.new.block c.in_ok-operand-in-Cast.operand _
          is c.in_ok-operand-in-Cast.ensures.value c.in_ok-converted-in-Cast.ensures;
      full = tt;
    }

pub returns-in_err-index-in-Element-clause-value : goal.returns-in_err-index-in-Element-clause-value
returns-in_err-index-in-Element-clause-value t c =
    let p = err_from_is_err_and c.from_residual.result c.from_residual.ensures.1 in
    rw p.1 tt

pub returns-in_err-operand-in-Unary-clause-value : goal.returns-in_err-operand-in-Unary-clause-value
returns-in_err-operand-in-Unary-clause-value t c =
    let p = err_from_is_err_and c.from_residual-in_err-operand-in-Unary.result c.from_residual-in_err-operand-in-Unary.ensures.1 in
    rw p.1 tt

pub returns-in_err-converted-in-Unary-clause-value : goal.returns-in_err-converted-in-Unary-clause-value
returns-in_err-converted-in-Unary-clause-value t c =
    let p = err_from_is_err_and c.from_residual-in_err-converted-in-Unary.result c.from_residual-in_err-converted-in-Unary.ensures.1 in
    rw p.1 tt

pub returns-in_err-left-in-Binary-clause-value : goal.returns-in_err-left-in-Binary-clause-value
returns-in_err-left-in-Binary-clause-value t c =
    let p = err_from_is_err_and c.from_residual-in_err-left-in-Binary.result c.from_residual-in_err-left-in-Binary.ensures.1 in
    rw p.1 tt

pub returns-in_err-right-in-Binary-clause-value : goal.returns-in_err-right-in-Binary-clause-value
returns-in_err-right-in-Binary-clause-value t c =
    let p = err_from_is_err_and c.from_residual-in_err-right-in-Binary.result c.from_residual-in_err-right-in-Binary.ensures.1 in
    rw p.1 tt

pub returns-in_err-operand-in-Cast-clause-value : goal.returns-in_err-operand-in-Cast-clause-value
returns-in_err-operand-in-Cast-clause-value t c =
    let p = err_from_is_err_and c.from_residual-in_err-operand-in-Cast.result c.from_residual-in_err-operand-in-Cast.ensures.1 in
    rw p.1 tt

pub returns-in_err-converted-in-Cast-clause-value : goal.returns-in_err-converted-in-Cast-clause-value
returns-in_err-converted-in-Cast-clause-value t c =
    let p = err_from_is_err_and c.from_residual-in_err-converted-in-Cast.result c.from_residual-in_err-converted-in-Cast.ensures.1 in
    rw p.1 tt

pub returns-in_err-converted-in-Unary-clause-full : goal.returns-in_err-converted-in-Unary-clause-full
returns-in_err-converted-in-Unary-clause-full t c =
    let p = err_from_is_err_and c.from_residual-in_err-converted-in-Unary.result c.from_residual-in_err-converted-in-Unary.ensures.1 in
    rw (p.1, p.2) (λ is. cc)

pub returns-in_err-converted-in-Cast-clause-full : goal.returns-in_err-converted-in-Cast-clause-full
returns-in_err-converted-in-Cast-clause-full t c =
    let p = err_from_is_err_and c.from_residual-in_err-converted-in-Cast.result c.from_residual-in_err-converted-in-Cast.ensures.1 in
    rw (p.1, p.2) (λ is. cc)

pub returns-in_ok-inner-in-Row-clause-value : goal.returns-in_ok-inner-in-Row-clause-value
returns-in_ok-inner-in-Row-clause-value t c =
    let is =
    ap expression_of c.in-Row.is
    ∙ ap (λ z. Expression.Row (expression_of z) c.in-Row.field-1 (expression_of c.in-Row.inner.value) c.in-Row.length) (sym c.deref-in-Row.ensures)
    ∙ ap (λ z. Expression.Row (expression_of c.deref-in-Row.result.now) c.in-Row.field-1 (expression_of z) c.in-Row.length) (sym c.deref-in-Row-2.ensures) in
    if_ok_three c.put-in-Row-2.result
    (λ value block is_value few.
    row_at c.args.homes.now (expression_of c.deref-in-Row.result.now) (expression_of c.deref-in-Row-2.result.now) (expression_of c.args.expression.now)
    c.in-Row.field-1 c.in-Row.length
    c.args.block.now c.lower_expression-in-Row.new.block c.put-in-Row.new.self c.lower_expression-in-Row-2.new.block c.put-in-Row-2.new.self
    c.in_ok-outer-in-Row.outer c.row_length-size.result c.in_ok-product-in-Row.product c.in_ok-inner-in-Row.inner value
    is c.in_ok-outer-in-Row.ensures.value c.row_length-size.ensures
    c.in_ok-product-in-Row.ensures.block c.in_ok-product-in-Row.ensures.value c.in_ok-product-in-Row.ensures.few
    c.in_ok-inner-in-Row.ensures.value block is_value few)
    c.put-in-Row-2.ensures.block c.put-in-Row-2.ensures.value c.put-in-Row-2.ensures.few

pub returns-in_ok-converted-in-Kept-clause-value : goal.returns-in_ok-converted-in-Kept-clause-value
returns-in_ok-converted-in-Kept-clause-value t c =
    kept_at c.args.homes.now (expression_of c.args.expression.now) c.in-Kept.slot c.in-Kept.ty c.args.block.now c.load-in-Kept.new.block c.in_ok-value-in-Kept.value _
    (ap expression_of c.in-Kept.is)
    (variable_at c.args.homes.now (Expression.Variable Automatic c.in-Kept.slot long_int) Automatic c.in-Kept.slot long_int c.args.block.now c.load-in-Kept.new.block
    c.first_index-index.result c.in_ok-value-in-Kept.value c.target_at-target-in-Kept.result refl c.first_index-index.ensures c.target_at-target-in-Kept.ensures
    c.in_ok-value-in-Kept.ensures.block c.in_ok-value-in-Kept.ensures.value c.in_ok-value-in-Kept.ensures.few)
    c.in_ok-converted-in-Kept.ensures
