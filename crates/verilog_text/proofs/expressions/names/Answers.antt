use Rattle.verilog_tree.specs.Grammar as g
use Rattle.verilog_text.proofs.LaidTokens.{more_step}
use Rattle.verilog_text.proofs.expressions.names.Goals as goal

pub loop-name-preserved : goal.loop-name-preserved
loop-name-preserved c = more_step g.name _ _ _ _ _ c.loop-name.name-index c.name-item.result c.loop-name.invariant c.in_ok-mark.ensures
    c.in_ok-name-2.ensures.text (c.in_ok-name-2.ensures.name, tt) c.name-item.is c.loop-name-test.true
