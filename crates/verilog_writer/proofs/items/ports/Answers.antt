use Rattle.verilog_tree.specs.Grammar as g
use Rattle.verilog_text.proofs.LaidTokens.{more_step}
use Rattle.verilog_writer.proofs.items.ports.Goals as goal

pub loop-one-preserved : goal.loop-one-preserved
loop-one-preserved c = more_step g.port _ _ _ _ _ c.loop-one.one-index c.one-item.result c.loop-one.invariant c.in_ok-mark.ensures
    c.in_ok-port-2.ensures.text c.in_ok-port-2.ensures.tokens c.one-item.is c.loop-one-test.true
