use Rattle.std.proofs.Common.{◌≡◌, drop}
use Rattle.std.specs.Prelude.{◌&&◌}
use Rattle.verilog_tree.specs.Rules as rule
use Rattle.verilog_tree.specs.Facts as fact
use Rattle.verilog_tree.specs.WellFormed as well
use Rattle.net_check.proofs.connections.note_ports.Given as goal

abbrev pub invariant-loop-connection : goal.invariant-loop-connection
invariant-loop-connection l =
    ((l.new && well.are_new l.connected (rule.connected_ports (drop l.connection-index l.connections))) ≡ well.are_new l.fn.connected (rule.connected_ports l.connections))
    × (fact.after fact.with_name l.connected (rule.connected_ports (drop l.connection-index l.connections))
    ≡ fact.after fact.with_name l.fn.connected (rule.connected_ports l.connections))
