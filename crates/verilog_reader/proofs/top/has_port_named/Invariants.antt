use Rattle.std.proofs.Common.{◌≡◌, drop}
use Rattle.verilog_tree.specs.Rules.{has_port}
use Rattle.verilog_reader.proofs.top.has_port_named.Given as goal

abbrev pub invariant-loop-port : goal.invariant-loop-port
invariant-loop-port l = has_port l.ports l.name ≡ has_port (drop l.port-index l.ports) l.name
