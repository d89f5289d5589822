use Rattle.verilog_reader.proofs.TokenCounts.{comma_counted}
use Rattle.verilog_reader.proofs.counts.of_arguments.Goals as goal

pub loop-argument-preserved : goal.loop-argument-preserved
loop-argument-preserved c = comma_counted c.args.arguments.now c.loop-argument.argument-index c.argument-item.result _ _ _ c.loop-argument.invariant c.in_ok-count.ensures
    c.of_argument.ensures c.argument-item.is c.loop-argument-test.true
