use Rattle.std.proofs.Common.{◌≡◌, drop}
use Rattle.verilog_tree.specs.Rules as rule
use Rattle.verilog_tree.specs.Facts as fact
use Rattle.verilog_tree.specs.WellFormed as well
use Rattle.net_rules.proofs.writes.+none.Given as goal

abbrev pub invariant-all_write_none-loop-statement : goal.invariant-all_write_none-loop-statement
invariant-all_write_none-loop-statement l =
    rule.all_right (λ s. well.none_known l.written (fact.written_by s)) l.statements
    ≡ rule.all_right (λ s. well.none_known l.written (fact.written_by s)) (drop l.statement-index l.statements)
