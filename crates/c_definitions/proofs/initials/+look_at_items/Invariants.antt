use Rattle.std.proofs.Common.{◌≡◌, map, take}
use Rattle.c_rules.specs.Walks.{Outcome}
use Rattle.c_resolution.specs.Globals.{item, looked_items}
use Rattle.c_definitions.proofs.initials.+look_at_items.Given as goal

abbrev pub invariant-loop-item : goal.invariant-loop-item
invariant-loop-item l = looked_items (map (item l.scope) (take l.item-index l.items)) l.initial.found ≡ Outcome.Gives tt l.found
