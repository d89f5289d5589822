use Rattle.verilog_reader.proofs.Names.{port_added}
use Rattle.verilog_reader.proofs.top.names.Goals as goal

pub loop-port-preserved : goal.loop-port-preserved
loop-port-preserved c = port_added c.args.ports.now c.loop-port.port-index c.port-item.result _ _ c.loop-port.invariant c.in_ok-add.ensures.names c.port-item.is
    c.loop-port-test.true
