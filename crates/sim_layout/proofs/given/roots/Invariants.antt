use Rattle.sim_layout.specs.Given.{AreRoots}
use Rattle.sim_layout.proofs.Givens.{Rooted}
use Rattle.sim_layout.proofs.given.roots.Given as goal

abbrev pub invariant-loop-signal : goal.invariant-loop-signal
invariant-loop-signal l = record {
  rooted : Rooted l.wires.items l.base l.prefs l.signal l.signals;
  only : AreRoots l.base l.prefs l.signals l.wires.items;
}
