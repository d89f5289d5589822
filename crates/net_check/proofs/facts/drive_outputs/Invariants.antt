use Rattle.std.proofs.Common.{◌≡◌, drop}
use Rattle.std.specs.Prelude.{◌&&◌}
use Rattle.verilog_tree.specs.Facts as fact
use Rattle.verilog_tree.specs.WellFormed as well
use Rattle.net_check.proofs.facts.drive_outputs.Given as goal

abbrev pub invariant-loop-connection : goal.invariant-loop-connection
invariant-loop-connection l =
    ((l.new && well.are_new l.driven (fact.outputs l.ports (drop l.connection-index l.connections))) ≡ well.are_new l.fn.driven (fact.outputs l.ports l.connections))
    × (fact.after fact.with_name l.driven (fact.outputs l.ports (drop l.connection-index l.connections))
    ≡ fact.after fact.with_name l.fn.driven (fact.outputs l.ports l.connections))
