use Rattle.std.proofs.Common.{◌≡◌, ◌++◌, drop}
use Rattle.plan_report.specs.Words.{numbered}
use Rattle.plan_report.specs.Operations.{planned_lines}
use Rattle.plan_report.proofs.code.put_operations.Given as goal

abbrev pub invariant-loop-k : goal.invariant-loop-k
invariant-loop-k l = l.out ++ numbered (planned_lines l.nodes l.plan) l.k (drop l.k l.operations) ≡ l.fn.out ++ numbered (planned_lines l.nodes l.plan) 0 l.operations
