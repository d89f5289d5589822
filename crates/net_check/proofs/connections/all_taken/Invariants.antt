use Rattle.std.proofs.Common.{◌≡◌, drop}
use Rattle.verilog_tree.specs.Rules as rule
use Rattle.net_check.proofs.connections.all_taken.Given as goal

abbrev pub invariant-loop-connection : goal.invariant-loop-connection
invariant-loop-connection l =
    rule.all_right (λ c. rule.takes l.scope (rule.port_named l.ports c.port) c.signal) l.connections
    ≡ rule.all_right (λ c. rule.takes l.scope (rule.port_named l.ports c.port) c.signal) (drop l.connection-index l.connections)
