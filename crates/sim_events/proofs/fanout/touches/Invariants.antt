use Rattle.std.proofs.Common.{◌≡◌, length}
use Rattle.sim_events.proofs.Touched.{AreTouched}
use Rattle.sim_events.proofs.fanout.touches.Given as goal

abbrev pub invariant-loop-number : goal.invariant-loop-number
invariant-loop-number l = record {
  long : length l.touched.last.items ≡ l.words;
  touched : AreTouched l.modules l.steps l.words l.touched.last.items l.touched.chain.items l.number;
}
