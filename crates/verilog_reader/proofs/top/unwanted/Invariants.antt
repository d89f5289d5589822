use Rattle.verilog_reader.specs.Ports.{AllWanted}
use Rattle.verilog_reader.proofs.top.unwanted.Given as goal

abbrev pub invariant-loop-number : goal.invariant-loop-number
invariant-loop-number l = AllWanted l.modules l.number
