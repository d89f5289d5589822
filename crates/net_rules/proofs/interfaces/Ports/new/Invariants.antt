use Rattle.std.proofs.Common.{◌≡◌, drop, map}
use Rattle.net_rules.specs.Tables as table
use Rattle.net_rules.proofs.interfaces.Ports.new.Given as goal

abbrev pub invariant-loop-port : goal.invariant-loop-port
invariant-loop-port l = table.with_ports (map table.plain_port l.named.entries) (drop l.port-index l.list) ≡ table.table_of l.list
