use Rattle.unit_binding.specs.Works.{AreBound}
use Rattle.unit_binding.proofs.bind.bind_units.Given as goal

abbrev pub invariant-loop-j : goal.invariant-loop-j
invariant-loop-j l = AreBound l.nodes l.starts l.j l.unit.items l.counts.items
