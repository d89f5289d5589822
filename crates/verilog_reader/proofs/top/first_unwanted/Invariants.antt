use Rattle.verilog_reader.specs.Ports.{AllPass}
use Rattle.verilog_reader.proofs.top.first_unwanted.Given as goal

abbrev pub invariant-loop-number : goal.invariant-loop-number
invariant-loop-number l = AllPass l.prefs l.ports l.number
