use Rattle.std.proofs.Common.{◌≡◌, ◌++◌, drop}
use Rattle.std.specs.List.{flat_map}
use Rattle.netlist.specs.NetlistOf.{some, assign_item}
use Rattle.net_names.specs.Found.{behind, targets_of}
use Rattle.net_names.specs.Tables.{names_of}
use Rattle.net_names.proofs.assigns.Assigns.of.Given as goal

abbrev pub invariant-loop-item : goal.invariant-loop-item
invariant-loop-item l =
    (behind l.list ++ flat_map (λ x. some (assign_item x)) (drop l.item-index l.items) ≡ flat_map (λ x. some (assign_item x)) l.items)
    × (names_of l.names ≡ targets_of (behind l.list))
