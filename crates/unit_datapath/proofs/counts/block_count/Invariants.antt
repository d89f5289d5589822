use Rattle.unit_datapath.specs.Counts.{IsCountOf, BlockHas}
use Rattle.unit_datapath.proofs.counts.block_count.Given as goal

abbrev pub invariant-loop-number : goal.invariant-loop-number
invariant-loop-number l = IsCountOf (BlockHas l.operator l.ty l.block l.plan l.number) l.count
