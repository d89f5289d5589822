use Rattle.std.proofs.Common.{◌≡◌, ◌++◌, take}
use Rattle.std.specs.List.{flat_map}
use Rattle.plan_report.specs.Code.{final_line}
use Rattle.plan_report.proofs.code.put_finals.Given as goal

abbrev pub invariant-loop-last : goal.invariant-loop-last
invariant-loop-last l = l.out ≡ l.fn.out ++ flat_map final_line (take l.last-index l.finals)
