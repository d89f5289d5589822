use Rattle.std.proofs.Common.{◌≡◌, length, take}
use Rattle.verilog_tree.specs.Grammar as g
use Rattle.verilog_reader.specs.Before.{port_and_comma}
use Rattle.verilog_reader.proofs.counts.of_ports.Given as goal

abbrev pub invariant-loop-port : goal.invariant-loop-port
invariant-loop-port l = l.count ≡ length (g.all port_and_comma (take l.port-index l.ports))
