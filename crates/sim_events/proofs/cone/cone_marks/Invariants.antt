use Rattle.std.proofs.Common.{◌≡◌, ◌<◌, length}
use Rattle.std.specs.Prelude.{◌-◌}
use Rattle.sim_values.specs.Order.{IsMarked}
use Rattle.sim_events.proofs.ConeMarks.{AreClosedFrom}
use Rattle.sim_events.proofs.cone.cone_marks.Given as goal

abbrev pub invariant-loop-behind : goal.invariant-loop-behind
invariant-loop-behind l = record {
  long : length l.marks.items ≡ l.words;
  closed : AreClosedFrom l.modules l.steps l.marks.items (length l.steps - l.behind);
  has : l.word < l.words → IsMarked l.marks.items l.word;
}
