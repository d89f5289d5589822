use Rattle.verilog_tree.specs.Grammar as g
use Rattle.verilog_text.proofs.LaidTokens.{all_step}
use Rattle.verilog_writer.proofs.items.net.Goals as goal

pub loop-one-preserved : goal.loop-one-preserved
loop-one-preserved c = all_step g.module_tokens c.args.out.now _ _ _ c.loop-one.one-index c.one-item.result c.loop-one.invariant c.in_ok-one_module.ensures.text
    c.in_ok-one_module.ensures.tokens c.one-item.is c.loop-one-test.true
