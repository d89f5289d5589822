use Rattle.std.proofs.Common.{◌≡◌, drop}
use Rattle.verilog_tree.specs.Rules as rule
use Rattle.net_rules.proofs.statements.arguments_right.Given as goal

abbrev pub invariant-loop-argument : goal.invariant-loop-argument
invariant-loop-argument l = rule.all_right (rule.argument_right l.scope) l.arguments ≡ rule.all_right (rule.argument_right l.scope) (drop l.argument-index l.arguments)
