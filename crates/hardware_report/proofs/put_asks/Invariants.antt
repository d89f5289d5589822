use Rattle.std.proofs.Common.{◌≡◌, ◌++◌, take}
use Rattle.std.specs.List.{flat_map}
use Rattle.hardware_report.specs.Report.{asks_line}
use Rattle.hardware_report.proofs.put_asks.Given as goal

abbrev pub invariant-loop-planned : goal.invariant-loop-planned
invariant-loop-planned l = l.out ≡ l.fn.out ++ flat_map (asks_line l.global) (take l.planned-index l.plans)
