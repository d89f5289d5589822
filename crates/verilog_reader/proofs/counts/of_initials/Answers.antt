use Rattle.verilog_tree.specs.Grammar as g
use Rattle.verilog_reader.proofs.TokenCounts.{counted}
use Rattle.verilog_reader.proofs.counts.of_initials.Goals as goal

pub loop-constant-preserved : goal.loop-constant-preserved
loop-constant-preserved c = counted g.initial_constant c.args.constants.now c.loop-constant.constant-index c.constant-item.result _ _ _ c.loop-constant.invariant
    c.in_ok-count.ensures c.of_initial.ensures c.constant-item.is c.loop-constant-test.true
