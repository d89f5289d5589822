use Rattle.std.proofs.Common.{◌≡◌, ◌++◌, take}
use Rattle.std.specs.List.{flat_map}
use Rattle.hardware_report.specs.Report.{function_lines}
use Rattle.hardware_report.proofs.put_functions.Given as goal

abbrev pub invariant-loop-planned : goal.invariant-loop-planned
invariant-loop-planned l = l.out ≡ l.fn.out ++ flat_map function_lines (take l.planned-index l.plans)
