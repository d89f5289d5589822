use Rattle.std.proofs.Common.{◌≡◌, drop}
use Rattle.sim_values.specs.Flat.{settled}
use Rattle.sim_values.proofs.settle.settle.Given as goal

abbrev pub invariant-loop-step : goal.invariant-loop-step
invariant-loop-step l =
    settled l.modules (record { mask = l.choice.en; prefs = l.choice.prefs }) (record { numbers = l.initial.numbers; words = l.words; starts = l.starts }) l.steps
    ≡ settled l.modules (record { mask = l.choice.en; prefs = l.choice.prefs }) (record { numbers = l.numbers; words = l.words; starts = l.starts }) (drop l.step-index l.steps)
