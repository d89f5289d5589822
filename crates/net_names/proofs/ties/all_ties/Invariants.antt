use Rattle.std.proofs.Common.{◌≡◌, ◌≤◌, ◌++◌, drop}
use Rattle.std.specs.List.{flat_map}
use Rattle.netlist.specs.NetlistOf.{some, instance_item}
use Rattle.net_names.specs.Ties.{ties_of, all_ties}
use Rattle.net_names.proofs.ties.all_ties.Given as goal

abbrev pub invariant-loop-item : goal.invariant-loop-item
invariant-loop-item l =
    (ties_of l.ties ++ all_ties l.kinds l.before (flat_map (λ x. some (instance_item x)) (drop l.item-index l.items)) l.number
    ≡ all_ties l.kinds l.before (flat_map (λ x. some (instance_item x)) l.items) 0)
    × (l.number ≤ l.item-index)
