use Rattle.std.proofs.Common.{◌≡◌, map, take, []}
use Rattle.c_rules.specs.Walks.{Outcome, through}
use Rattle.c_resolution.specs.Globals.{item, next_item}
use Rattle.c_definitions.proofs.initials.+initials.Given as goal

abbrev pub invariant-row_values-loop-index : goal.invariant-row_values-loop-index
invariant-row_values-loop-index l =
    through (next_item l.ty l.length l.dimensions) (0, []) (map (item l.scope) (take l.index l.items)) l.initial.found
    ≡ Outcome.Gives (l.index, l.values.items) l.found
