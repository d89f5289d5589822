use Rattle.std.proofs.Common.{◌≡◌, ◌++◌, drop}
use Rattle.plan_report.specs.Words.{numbered}
use Rattle.net_report.specs.Net.{core_line}
use Rattle.net_report.proofs.put_all_cores.Given as goal

abbrev pub invariant-loop-k : goal.invariant-loop-k
invariant-loop-k l = l.out ++ numbered core_line l.k (drop l.k l.cores) ≡ l.fn.out ++ numbered core_line 0 l.cores
