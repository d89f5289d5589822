use Rattle.std.proofs.Common.{ℕ}
use Rattle.thread_requests.specs.Outputs.{LaysRows, AreNumbered}
use Rattle.thread_slots.specs.Wired.{Behind, IsNamedOutput}
use Rattle.thread_requests.proofs.outputs.lay_rows.Given as goal

abbrev pub invariant-loop-row : goal.invariant-loop-row
invariant-loop-row l = record {
  lays : LaysRows l.fn.wires.signals l.wires.signals l.rows l.row-index;
  named : (n : ℕ) → AreNumbered l.rows → Behind (IsNamedOutput n) l.fn.wires.signals l.wires.signals;
}
