use Rattle.std.proofs.Common.{◌≡◌, drop}
use Rattle.verilog_tree.specs.Rules as rule
use Rattle.net_rules.proofs.statements.constants_right.Given as goal

abbrev pub invariant-loop-constant : goal.invariant-loop-constant
invariant-loop-constant l =
    rule.all_right (rule.initial_constant_right l.scope) l.constants ≡ rule.all_right (rule.initial_constant_right l.scope) (drop l.constant-index l.constants)
