use Rattle.unit_datapath.specs.Links.{LinksStages}
use Rattle.unit_datapath.proofs.links.link_stages.Given as goal

abbrev pub invariant-loop-number : goal.invariant-loop-number
invariant-loop-number l = LinksStages l.code l.registers l.kind l.planned l.fn.wires.signals l.wires.signals l.fn.inputs l.inputs l.number
