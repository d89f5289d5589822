use Rattle.verilog_tree.specs.Grammar as g
use Rattle.verilog_reader.proofs.TokenCounts.{counted}
use Rattle.verilog_reader.proofs.counts.+counts.Goals as goal

pub of_statements-loop-statement-preserved : goal.of_statements-loop-statement-preserved
of_statements-loop-statement-preserved t c = counted g.statement c.args.statements.now c.loop-statement.statement-index c.statement-item.result _ _ _
    c.loop-statement.invariant c.in_ok-count.ensures c.in_ok-of_statement.ensures c.statement-item.is c.loop-statement-test.true
