use Rattle.std.proofs.Common.{◌≡◌, drop}
use Rattle.verilog_tree.specs.Facts as fact
use Rattle.net_check.specs.Known as known
use Rattle.net_check.proofs.facts.ModuleFacts.add_ports.Given as goal

abbrev pub invariant-loop-port : goal.invariant-loop-port
invariant-loop-port l = fact.after known.after_port l.self (drop l.port-index l.ports) ≡ fact.after known.after_port l.fn.self l.ports
