use Rattle.unit_datapath.specs.Links.{LinksFirst}
use Rattle.unit_datapath.proofs.links.link_all.Given as goal

abbrev pub invariant-loop-number : goal.invariant-loop-number
invariant-loop-number l = LinksFirst l.code l.registers l.kind l.block l.plan l.end l.fn.wires.signals l.wires.signals l.fn.inputs l.inputs l.number
