use Rattle.std.proofs.Common.{◌≡◌, ◌++◌, drop}
use Rattle.std.specs.Prelude.{map}
use Rattle.sim_events.specs.Operations.{row_of}
use Rattle.sim_events.proofs.operation.rows_of.Given as goal

abbrev pub invariant-loop-step : goal.invariant-loop-step
invariant-loop-step l = map (row_of l.modules l.starts) l.steps ≡ l.rows.items ++ map (row_of l.modules l.starts) (drop l.step-index l.steps)
