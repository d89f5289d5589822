use Rattle.verilog_tree.specs.Grammar as g
use Rattle.verilog_text.proofs.LaidTokens.{all_step}
use Rattle.verilog_writer.proofs.items.items.Goals as goal

pub loop-one-preserved : goal.loop-one-preserved
loop-one-preserved c = all_step g.item c.args.out.now _ _ c.args.items.now c.loop-one.one-index c.one-item.result c.loop-one.invariant c.in_ok-item.ensures.text
    c.in_ok-item.ensures.tokens c.one-item.is c.loop-one-test.true
