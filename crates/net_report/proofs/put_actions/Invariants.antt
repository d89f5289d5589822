use Rattle.std.proofs.Common.{◌≡◌, ◌++◌, drop}
use Rattle.plan_report.specs.Words.{numbered}
use Rattle.net_report.specs.Net.{action_line}
use Rattle.net_report.proofs.put_actions.Given as goal

abbrev pub invariant-loop-k : goal.invariant-loop-k
invariant-loop-k l = l.out ++ numbered action_line l.k (drop l.k l.actions) ≡ l.fn.out ++ numbered action_line 0 l.actions
