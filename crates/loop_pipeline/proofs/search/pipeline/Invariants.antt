use Rattle.std.proofs.Common.{ℕ, ◌<◌, ◌≤◌, ◌-◌}
use Rattle.loop_pipeline.specs.Pipeline.{AreLoopStarts, HasNoStarts}
use Rattle.loop_pipeline.proofs.search.pipeline.Given as goal

abbrev pub invariant-loop-low : goal.invariant-loop-low
invariant-loop-low l = record {
  order : (l.least ≤ l.low) × (l.low ≤ l.interval) × (l.interval ≤ 64);
  best : AreLoopStarts l.nodes l.comparison l.carried l.interval l.best.items;
  none : (j : ℕ) → l.least ≤ j → j < l.low → HasNoStarts l.nodes l.comparison l.carried j;
}

abbrev pub decreases-loop-low : goal.decreases-loop-low
decreases-loop-low l = l.interval - l.low
