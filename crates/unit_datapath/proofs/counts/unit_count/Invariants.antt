use Rattle.unit_datapath.specs.Counts.{IsCountOf, CodeHas}
use Rattle.unit_datapath.proofs.counts.unit_count.Given as goal

abbrev pub invariant-loop-number : goal.invariant-loop-number
invariant-loop-number l = IsCountOf (CodeHas l.operator l.ty l.code l.planned l.number) l.count
