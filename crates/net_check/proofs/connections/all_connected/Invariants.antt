use Rattle.std.proofs.Common.{◌≡◌, drop}
use Rattle.verilog_tree.specs.Rules as rule
use Rattle.verilog_tree.specs.Scope.{is_known}
use Rattle.net_check.proofs.connections.all_connected.Given as goal

abbrev pub invariant-loop-port : goal.invariant-loop-port
invariant-loop-port l = rule.all_right (λ p. is_known l.connected p.name) l.ports ≡ rule.all_right (λ p. is_known l.connected p.name) (drop l.port-index l.ports)
