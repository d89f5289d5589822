use Rattle.std.proofs.Common.{◌≡◌, take}
use Rattle.verilog_tree.specs.Scope.{Name, is_known}
use Rattle.verilog_tree.specs.Rules.{has_port}
use Rattle.verilog_reader.proofs.top.names.Given as goal

abbrev pub invariant-loop-port : goal.invariant-loop-port
invariant-loop-port l = (y : Name) → is_known l.names y ≡ has_port (take l.port-index l.ports) y
