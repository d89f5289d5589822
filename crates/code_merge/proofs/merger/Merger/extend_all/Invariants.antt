use Rattle.std.proofs.Common.{ℕ, ◌<◌}
use Rattle.code_merge.specs.Maximal.{IsMaximalAt}
use Rattle.code_merge.specs.Steps.{IsReady, Merges}
use Rattle.code_merge.proofs.merger.Merger.extend_all.Given as goal

abbrev pub invariant-loop-first : goal.invariant-loop-first
invariant-loop-first l = record {
  merges : Merges l.fn.self l.self;
  ready : IsReady l.self;
  maximal : (k : ℕ) → k < l.first → IsMaximalAt l.fn.self.most l.self.stages.items k;
}
