use Rattle.std.proofs.Common.{◌≡◌, drop}
use Rattle.block_datapath.specs.Units.{unit_place}
use Rattle.block_datapath.proofs.units.unit_place.Given as goal

abbrev pub invariant-loop-results : goal.invariant-loop-results
invariant-loop-results l = unit_place l.units l.operator l.ty l.number ≡ unit_place (drop l.results-index l.units) l.operator l.ty l.number
