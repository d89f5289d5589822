use Rattle.std.proofs.Common.{◌≡◌, ◌++◌, drop}
use Rattle.sim_events.specs.Cones.{cone_of}
use Rattle.sim_events.proofs.cone.cone.Given as goal

abbrev pub invariant-loop-step : goal.invariant-loop-step
invariant-loop-step l = cone_of l.marks.items l.steps ≡ l.cone.items ++ cone_of l.marks.items (drop l.step-index l.steps)
