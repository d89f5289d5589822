use Rattle.std.proofs.Common.{◌≡◌, ◌++◌, drop}
use Rattle.plan_report.specs.Words.{numbered}
use Rattle.plan_report.specs.Code.{stage_at}
use Rattle.plan_report.proofs.code.put_stages.Given as goal

abbrev pub invariant-loop-k : goal.invariant-loop-k
invariant-loop-k l = l.out ++ numbered (stage_at l.plans) l.k (drop l.k l.stages) ≡ l.fn.out ++ numbered (stage_at l.plans) 0 l.stages
