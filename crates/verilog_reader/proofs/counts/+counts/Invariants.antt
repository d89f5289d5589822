use Rattle.std.proofs.Common.{◌≡◌, length, take}
use Rattle.verilog_tree.specs.Grammar as g
use Rattle.verilog_reader.proofs.counts.+counts.Given as goal

abbrev pub invariant-of_statements-loop-statement : goal.invariant-of_statements-loop-statement
invariant-of_statements-loop-statement l = l.count ≡ length (g.all g.statement (take l.statement-index l.statements))
