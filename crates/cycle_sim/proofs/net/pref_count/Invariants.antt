use Rattle.std.proofs.Common.{◌≡◌, ◌+◌, ◌≤◌, drop}
use Rattle.sim_layout.specs.Rounds.{pref_count}
use Rattle.cycle_sim.proofs.net.pref_count.Given as goal

abbrev pub invariant-loop-signal : goal.invariant-loop-signal
invariant-loop-signal l = record {
  counted : pref_count l.signals ≡ l.count + pref_count (drop l.signal-index l.signals);
  most : l.count ≤ l.signal-index;
}
