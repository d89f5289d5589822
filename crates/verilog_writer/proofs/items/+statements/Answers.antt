use Rattle.verilog_tree.specs.Grammar as g
use Rattle.verilog_text.proofs.LaidTokens.{all_step}
use Rattle.verilog_writer.proofs.items.+statements.Goals as goal

pub statements-loop-one-preserved : goal.statements-loop-one-preserved
statements-loop-one-preserved t c = all_step g.statement c.args.out.now _ _ c.args.statements.now c.loop-one.one-index c.one-item.result c.loop-one.invariant
    c.in_ok-statement.ensures.text c.in_ok-statement.ensures.tokens c.one-item.is c.loop-one-test.true
