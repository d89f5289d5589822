use Rattle.std.proofs.Common.{◌≡◌, drop}
use Rattle.verilog_tree.specs.Rules as rule
use Rattle.verilog_tree.specs.Grammar.{clk}
use Rattle.net_check.proofs.search.has_clock.Given as goal

abbrev pub invariant-loop-port : goal.invariant-loop-port
invariant-loop-port l = rule.has_port l.ports clk ≡ rule.has_port (drop l.port-index l.ports) clk
