use Rattle.std.proofs.Common.{◌≡◌, ◌++◌, take}
use Rattle.std.specs.List.{flat_map}
use Rattle.plan_report.specs.Acts.{act_operand_line}
use Rattle.plan_report.proofs.acts.put_operands.Given as goal

abbrev pub invariant-loop-operand : goal.invariant-loop-operand
invariant-loop-operand l = l.out ≡ l.fn.out ++ flat_map act_operand_line (take l.operand-index l.operands)
