use Rattle.std.proofs.Common.{◌≡◌, drop}
use Rattle.std.specs.List.{list_any}
use Rattle.verilog_tree.specs.Facts as fact
use Rattle.net_rules.proofs.writes.+prints.Given as goal

abbrev pub invariant-any_prints-loop-statement : goal.invariant-any_prints-loop-statement
invariant-any_prints-loop-statement l = list_any (fact.statement_prints) l.statements ≡ list_any (fact.statement_prints) (drop l.statement-index l.statements)
