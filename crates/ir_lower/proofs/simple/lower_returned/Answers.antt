use Rattle.std.proofs.Common.{◌+◌, ◌*◌, length, Some, None, sym, ap, ◌∙◌, arith}
use Rattle.std.proofs.lemmas.Result.{on_ok_weaker, IfErr-weaker}
use Rattle.c_program.specs.Plain.{expression_of, returned_of}
use Rattle.c_program.specs.Tree.{Statement}
use Rattle.c_program.specs.Weight.{expression_weight, returned_weight}
use Rattle.code_blocks.proofs.Room.{full_more}
use Rattle.code_calls.proofs.ReturnCode.{empty_return_at}
use Rattle.code_calls.proofs.OpenCalls.{nothing_proceeds}
use Rattle.ir_lower.proofs.StatementSteps.{lowers_is}
use Rattle.ir_lower.proofs.simple.lower_returned.Goals as goal

pub returns-in-None : goal.returns-in-None
returns-in-None c =
    let old = c.args.code.now in
    let right = returned_of c.args.right.now in
    record {
      labels = on_ok_weaker c.return_nothing.result (λ returns around. nothing_proceeds old c.return_nothing.new.code returns c.requires.reached around) c.return_nothing.ensures.returns;
      lowers =
          on_ok_weaker c.return_nothing.result
          (λ returns offset P around.
          lowers_is P around (Statement.Return offset None) (Statement.Return offset right) old c.return_nothing.new.code
          (ap (λ z. Statement.Return offset (returned_of z)) c.in-None.is) (empty_return_at P old c.return_nothing.new.code returns offset around))
          c.return_nothing.ensures.returns;
      full =
          IfErr-weaker c.return_nothing.result _ _
          (λ fault. full_more fault (old.block.steps + 1) (length old.block.operations + old.block.steps + 4 * returned_weight right + 1) (omega arith))
          c.return_nothing.ensures.full;
    }

pub returns-in-Some : goal.returns-in-Some
returns-in-Some c =
    let old = c.args.code.now in
    let right = returned_of c.args.right.now in
    let e = expression_of c.deref.result.now in
    let is = ap returned_of c.in-Some.is ∙ ap (λ z. Some (expression_of z)) (sym c.deref.ensures) in
    let weighs = ap returned_weight is in
    record {
      labels = c.lower_return.ensures.labels;
      lowers =
          on_ok_weaker c.lower_return.result
          (λ lowers offset P around.
          lowers_is P around (Statement.Return offset (Some e)) (Statement.Return offset right) old c.lower_return.new.code
          (ap (λ z. Statement.Return offset z) is) (lowers offset P around))
          c.lower_return.ensures.lowers;
      full =
          IfErr-weaker c.lower_return.result _ _
          (λ fault.
          full_more fault (length old.block.operations + old.block.steps + (3 * expression_weight e + 1))
          (length old.block.operations + old.block.steps + 4 * returned_weight right + 1) (omega (arith, weighs)))
          c.lower_return.ensures.full;
    }
