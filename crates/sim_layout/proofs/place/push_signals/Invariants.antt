use Rattle.std.proofs.Common.{◌≡◌, ◌++◌, drop}
use Rattle.sim_layout.specs.Placed.{numbers_in, frees_in}
use Rattle.sim_layout.proofs.place.push_signals.Given as goal

abbrev pub invariant-loop-signal : goal.invariant-loop-signal
invariant-loop-signal l = record {
  numbers : l.initial.numbers.items ++ numbers_in l.signals ≡ l.numbers.items ++ numbers_in (drop l.signal-index l.signals);
  free : l.initial.free.items ++ frees_in l.signals ≡ l.free.items ++ frees_in (drop l.signal-index l.signals);
}
