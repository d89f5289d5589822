use Rattle.verilog_tree.specs.Grammar as g
use Rattle.verilog_text.proofs.LaidTokens.{more_step}
use Rattle.verilog_writer.proofs.items.more_arguments.Goals as goal

pub loop-one-preserved : goal.loop-one-preserved
loop-one-preserved c = more_step g.argument c.args.out.now _ _ _ c.args.arguments.now c.loop-one.one-index c.one-item.result c.loop-one.invariant c.in_ok-mark.ensures
    c.in_ok-argument.ensures.text c.in_ok-argument.ensures.tokens c.one-item.is c.loop-one-test.true
