use Rattle.std.proofs.Common.{◌≡◌, ◌++◌, drop}
use Rattle.sim_events.specs.Edges.{edge_rows}
use Rattle.sim_events.proofs.edge.edge_rows.Given as goal

abbrev pub invariant-loop-part : goal.invariant-loop-part
invariant-loop-part l = edge_rows l.modules l.starts l.parts ≡ l.rows.items ++ edge_rows l.modules l.starts (drop l.part-index l.parts)
