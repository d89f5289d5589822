use Rattle.std.proofs.Common.{◌+◌, ◌*◌, length, ap, ◌∙◌, sym, arith}
use Rattle.std.proofs.lemmas.Result.{err_from_is_err_and}
use Rattle.c_program.specs.Plain.{expression_of, object_place_of}
use Rattle.c_program.specs.Tree.{ObjectPlace}
use Rattle.c_program.specs.Weight.{expression_weight, object_place_weight}
use Rattle.code_blocks.proofs.Room.{full_more}
use Rattle.code_calls.specs.Acts.{number_expression}
use Rattle.code_calls.proofs.ReadyOperands.{number_none, number_put, puts_word}
use Rattle.code_calls.proofs.acts.lower_object.Goals as goal

pub returns-in-Single-clause-puts : goal.returns-in-Single-clause-puts
returns-in-Single-clause-puts c = number_none c.args.homes.now c.args.variable c.args.first _ (object_place_of c.args.place.now) c.args.block.now (ap object_place_of c.in-Single.is)

pub returns-in_ok-put_word-in-Element-clause-puts : goal.returns-in_ok-put_word-in-Element-clause-puts
returns-in_ok-put_word-in-Element-clause-puts c =
    let object = c.in-Element.field-0 in
    let length_ = c.in-Element.field-1 in
    let index = expression_of c.deref.result.now in
    number_put c.args.homes.now c.args.variable c.args.first object length_ _ index (object_place_of c.args.place.now) c.args.block.now c.put_word.new.block
    (ap object_place_of c.in-Element.is) (ap expression_of c.deref.ensures)
    (puts_word c.args.homes.now c.args.variable (number_expression c.args.first (ObjectPlace.Element object length_ index)) c.args.block.now
    c.element_number.new.block c.put_word.new.block c.in_ok-number-in-Element.number (c.in_ok-number-in-Element.ensures.value object length_) c.in_ok-put_word-in-Element.ensures)

pub returns-in_err-number-in-Element : goal.returns-in_err-number-in-Element
returns-in_err-number-in-Element c =
    let p = err_from_is_err_and c.from_residual.result c.from_residual.ensures.1 in
    let is = ap object_place_of c.in-Element.is ∙ ap (λ z. ObjectPlace.Element c.in-Element.field-0 c.in-Element.field-1 (expression_of z)) (sym c.deref.ensures) in
    let weighs = ap object_place_weight is in
    record {
      operand = rw p.1 tt;
      puts = rw p.1 tt;
      full =
          rw (p.1, p.2)
          (full_more _ (length c.args.block.now.operations + (3 * expression_weight (expression_of c.deref.result.now) + 2))
          (length c.args.block.now.operations + 3 * object_place_weight (object_place_of c.args.place.now)) (omega (arith, weighs)) c.in_err-number-in-Element.ensures.full);
    }

pub returns-in_err-put_word-in-Element : goal.returns-in_err-put_word-in-Element
returns-in_err-put_word-in-Element c =
    let p = err_from_is_err_and c.from_residual-in_err-put_word-in-Element.result c.from_residual-in_err-put_word-in-Element.ensures.1 in
    record { operand = rw p.1 tt; puts = rw p.1 tt; full = rw (p.1, p.2) (λ is. cc) }
