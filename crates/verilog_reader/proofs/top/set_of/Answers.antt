use Rattle.verilog_reader.proofs.Names.{name_added}
use Rattle.verilog_reader.proofs.top.set_of.Goals as goal

pub loop-name-preserved : goal.loop-name-preserved
loop-name-preserved c = name_added c.args.names.now c.loop-name.name-index c.name-item.result _ _ c.loop-name.invariant c.in_ok-add.ensures.names c.name-item.is
    c.loop-name-test.true
