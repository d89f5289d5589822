use Rattle.unit_datapath.specs.Results.{ShowsResults}
use Rattle.unit_datapath.proofs.results.unit_results.Given as goal

abbrev pub invariant-loop-number : goal.invariant-loop-number
invariant-loop-number l = ShowsResults l.fn.wires.signals l.wires.signals l.inputs l.operator l.ty l.number l.places
