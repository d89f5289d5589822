use Rattle.verilog_tree.specs.Grammar as g
use Rattle.verilog_reader.proofs.TokenCounts.{counted}
use Rattle.verilog_reader.proofs.parts.of_modules.Goals as goal

pub loop-module-preserved : goal.loop-module-preserved
loop-module-preserved c = counted g.module_tokens c.args.modules.now c.loop-module.module-index c.module-item.result _ _ _ c.loop-module.invariant c.in_ok-count.ensures
    c.in_ok-of_module.ensures c.module-item.is c.loop-module-test.true
