use Rattle.std.proofs.Common.{◌≡◌, drop}
use Rattle.verilog_tree.specs.Facts as fact
use Rattle.net_check.specs.Known as known
use Rattle.net_check.specs.Search as search_for
use Rattle.net_check.proofs.search.wrong_port.Given as goal

abbrev pub invariant-loop-at : goal.invariant-loop-at
invariant-loop-at l =
    (search_for.first_wrong (known.port_stands l.all) known.after_port l.before (drop l.at l.ports) l.at
    ≡ search_for.first_wrong (known.port_stands l.all) known.after_port l.fn.before l.ports 0)
    × (fact.after known.after_port l.before (drop l.at l.ports) ≡ fact.after known.after_port l.fn.before l.ports)
