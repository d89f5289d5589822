use Rattle.verilog_reader.specs.Before.{port_and_comma}
use Rattle.verilog_reader.proofs.TokenCounts.{counted}
use Rattle.verilog_reader.proofs.counts.of_ports.Goals as goal

pub loop-port-preserved : goal.loop-port-preserved
loop-port-preserved c = counted port_and_comma c.args.ports.now c.loop-port.port-index c.port-item.result _ _ _ c.loop-port.invariant c.in_ok-count.ensures
    c.of_port.ensures c.port-item.is c.loop-port-test.true
