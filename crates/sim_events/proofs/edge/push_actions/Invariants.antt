use Rattle.std.proofs.Common.{◌≡◌, ◌++◌, drop}
use Rattle.sim_events.specs.Edges.{actions_rows}
use Rattle.sim_events.proofs.edge.push_actions.Given as goal

abbrev pub invariant-loop-action : goal.invariant-loop-action
invariant-loop-action l = l.initial.rows.items ++ actions_rows l.module l.spot l.starts l.module.actions ≡ l.rows.items ++ actions_rows l.module l.spot l.starts (drop l.action-index l.module.actions)
