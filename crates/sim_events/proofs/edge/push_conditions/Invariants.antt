use Rattle.std.proofs.Common.{◌≡◌, ◌++◌, drop}
use Rattle.sim_events.specs.Edges.{when_rows}
use Rattle.sim_events.proofs.edge.push_conditions.Given as goal

abbrev pub invariant-loop-condition : goal.invariant-loop-condition
invariant-loop-condition l = l.initial.rows.items ++ when_rows l.base l.conditions ≡ l.rows.items ++ when_rows l.base (drop l.condition-index l.conditions)
