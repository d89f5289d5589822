use Rattle.std.proofs.Common.{◌≡◌, drop}
use Rattle.sim_layout.specs.Rounds.{enable_width}
use Rattle.cycle_sim.proofs.net.enable_mask.Given as goal

abbrev pub invariant-loop-signal : goal.invariant-loop-signal
invariant-loop-signal l = enable_width l.signals ≡ enable_width (drop l.signal-index l.signals)
