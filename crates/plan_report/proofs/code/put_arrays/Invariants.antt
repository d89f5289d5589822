use Rattle.std.proofs.Common.{◌≡◌, ◌++◌, drop}
use Rattle.plan_report.specs.Words.{numbered}
use Rattle.plan_report.specs.Code.{array_line}
use Rattle.plan_report.proofs.code.put_arrays.Given as goal

abbrev pub invariant-loop-k : goal.invariant-loop-k
invariant-loop-k l = l.out ++ numbered array_line l.k (drop l.k l.arrays) ≡ l.fn.out ++ numbered array_line 0 l.arrays
