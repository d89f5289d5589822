use Rattle.std.proofs.Common.{◌≡◌, drop}
use Rattle.std.specs.Prelude.{◌&&◌, ◌==◌}
use Rattle.verilog_tree.specs.Rules as rule
use Rattle.net_rules.proofs.expressions.concatenation_right.Given as goal

abbrev pub invariant-loop-part : goal.invariant-loop-part
invariant-loop-part l =
    (rule.all_right (rule.is_signal l.scope) (drop l.part-index l.parts) && rule.joint_width l.scope (drop l.part-index l.parts) == l.left)
    ≡ (rule.all_right (rule.is_signal l.scope) l.parts && rule.joint_width l.scope l.parts == l.wide)
