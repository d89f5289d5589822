use Rattle.std.proofs.Common.{◌≡◌, ◌++◌, take, length}
use Rattle.top_parts.specs.Parts.{flat_from, group_widths}
use Rattle.top_wiring.specs.Top.{group_places}
use Rattle.top_wiring.proofs.places.Places.push_asks.Given as goal

abbrev pub invariant-loop-group : goal.invariant-loop-group
invariant-loop-group l =
    (l.inputs ≡ l.initial.inputs ++ flat_from (group_places l.self.starts l.self.threads l.self.cores (length l.initial.asked) l.groups) 0 (take l.group-index l.groups))
    × (l.asked ≡ l.initial.asked ++ group_widths (take l.group-index l.groups))
