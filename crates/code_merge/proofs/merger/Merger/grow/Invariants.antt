use Rattle.code_merge.specs.Steps.{HoldsAt, IsBlock, Grows}
use Rattle.code_merge.proofs.Chains.{total}
use Rattle.code_merge.proofs.merger.Merger.grow.Given as goal

abbrev pub invariant-loop-second : goal.invariant-loop-second
invariant-loop-second l = record {
  grows : Grows l.fn.self l.self l.first;
  holds : HoldsAt l.self l.first;
  block : IsBlock l.self l.first;
}

abbrev pub decreases-loop-second : goal.decreases-loop-second
decreases-loop-second l = total l.self.counts
