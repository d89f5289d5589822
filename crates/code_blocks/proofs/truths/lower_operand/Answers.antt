use Rattle.c_program.specs.Plain.{expression_of}
use Rattle.code_blocks.proofs.KeptTruths.{looks_at}
use Rattle.code_blocks.proofs.truths.lower_operand.Goals as goal

pub returns : goal.returns
returns c = record {
  looks =
      looks_at c.args.homes.now c.args.note (expression_of c.args.operand.now) c.args.block.now c.lower_expression.new.block c.keep_truth.new.block c.in_ok-value.value
      c.in_ok-value.ensures.value c.in_ok-keep_truth.ensures.keeps;
  full = tt;
}
