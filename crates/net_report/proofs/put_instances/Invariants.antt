use Rattle.std.proofs.Common.{◌≡◌, ◌++◌, take}
use Rattle.std.specs.List.{flat_map}
use Rattle.net_report.specs.Net.{instance_line}
use Rattle.net_report.proofs.put_instances.Given as goal

abbrev pub invariant-loop-instance : goal.invariant-loop-instance
invariant-loop-instance l = l.out ≡ l.fn.out ++ flat_map (instance_line l.modules) (take l.instance-index l.instances)
