use Rattle.std.proofs.Common.{◌≡◌, true, drop}
use Rattle.sim_events.specs.Edges.{sets, stores}
use Rattle.sim_events.proofs.edge.act_all.Given as goal

abbrev pub invariant-loop-row : goal.invariant-loop-row
invariant-loop-row l = record {
  next : sets l.numbers true l.initial.next l.rows ≡ sets l.numbers l.on l.next (drop l.row-index l.rows);
  words : stores l.numbers true l.initial.words l.rows ≡ stores l.numbers l.on l.words (drop l.row-index l.rows);
}
