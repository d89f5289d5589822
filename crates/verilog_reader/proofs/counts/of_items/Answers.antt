use Rattle.verilog_tree.specs.Grammar as g
use Rattle.verilog_reader.proofs.TokenCounts.{counted}
use Rattle.verilog_reader.proofs.counts.of_items.Goals as goal

pub loop-item-preserved : goal.loop-item-preserved
loop-item-preserved c = counted g.item c.args.items.now c.loop-item.item-index c.item-item.result _ _ _ c.loop-item.invariant c.in_ok-count.ensures c.in_ok-of_item.ensures
    c.item-item.is c.loop-item-test.true
