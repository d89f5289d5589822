use Rattle.std.proofs.Common.{◌≡◌, drop}
use Rattle.verilog_tree.specs.Rules as rule
use Rattle.net_rules.proofs.statements.+right.Given as goal

abbrev pub invariant-statements_right-loop-statement : goal.invariant-statements_right-loop-statement
invariant-statements_right-loop-statement l =
    rule.all_right (rule.statement_right l.scope) l.statements ≡ rule.all_right (rule.statement_right l.scope) (drop l.statement-index l.statements)
