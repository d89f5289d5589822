use Rattle.std.proofs.Common.{◌≡◌, ◌++◌, drop, map}
use Rattle.std.specs.Prelude.{string_bytes}
use Rattle.plan_report.specs.Words.{numbered}
use Rattle.plan_report.specs.Code.{variable_at}
use Rattle.plan_report.proofs.code.put_variables.Given as goal

abbrev pub invariant-loop-k : goal.invariant-loop-k
invariant-loop-k l = l.out ++ numbered (variable_at (map string_bytes l.names)) l.k (drop l.k l.types) ≡ l.fn.out ++ numbered (variable_at (map string_bytes l.names)) 0 l.types
