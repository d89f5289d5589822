-- What is left of a simulator of which the output `done` was asked for.
use Rattle.std.specs.Prelude.{◌≡◌, List, length}
use Rattle.verilog_meaning.specs.Cycles.{Choice}
use Rattle.sim_values.specs.declared.settle.Step.{Step}
use Rattle.sim_values.specs.Flat.{settled}
use Rattle.sim_layout.specs.Running.{Running, running, flat, Stands, Fits}
use Rattle.sim_events.specs.Cones.{IsCone}

-- the steps of a cone are taken
abbrev pub cone_run : Choice → List Step → Running → Running
cone_run c cone r = running r.modules r.parts r.steps (settled r.modules c (flat r) cone) r.words r.starts r.prefs r.done

-- those that `done` hangs on were taken
pub record IsDoneRun (c : Choice) (old new : Running) : Type 0 where
  pub stands : Stands old
  pub fits : Fits old c
  pub cone : List Step
  pub hangs : IsCone old.modules old.steps (length old.numbers) old.done cone
  pub is : new ≡ cone_run c cone old
