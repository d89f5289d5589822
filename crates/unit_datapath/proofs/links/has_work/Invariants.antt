use Rattle.unit_datapath.specs.Links.{HasWork}
use Rattle.unit_datapath.proofs.links.has_work.Given as goal

abbrev pub invariant-loop-operation : goal.invariant-loop-operation
invariant-loop-operation l = HasWork l.kind l.block l.operation-index l.found
