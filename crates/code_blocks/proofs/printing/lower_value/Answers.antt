use Rattle.c_program.specs.Plain.{expression_of}
use Rattle.code_blocks.proofs.Puts.{puts_value}
use Rattle.code_blocks.proofs.TypedAssignments.{value_works}
use Rattle.code_blocks.proofs.printing.lower_value.Goals as goal

pub returns : goal.returns
returns c = record {
  puts =
      puts_value c.args.homes.now c.args.variable c.args.ty (expression_of c.args.argument.now) c.args.block.now c.lower_expression.new.block c.set.new.self
      c.in_ok-value.value c.in_ok-value-2.value c.in_ok-word.word c.in_ok-value.ensures.value c.in_ok-value-2.ensures c.in_ok-word.ensures
      c.in_ok-set.ensures.current c.in_ok-set.ensures.operations c.in_ok-set.ensures.steps c.in_ok-set.ensures.noted;
  typed =
      value_works c.args.homes.now c.args.variable c.args.ty (expression_of c.args.argument.now) c.args.block.now c.lower_expression.new.block c.set.new.self
      c.in_ok-value.value c.in_ok-value-2.value c.in_ok-word.word c.in_ok-value.ensures.value c.in_ok-value-2.ensures c.in_ok-word.ensures
      c.in_ok-set.ensures.current c.in_ok-set.ensures.operations;
  full = tt;
}
