use Rattle.code_merge.proofs.Chains.{merges_both}
use Rattle.code_merge.proofs.merger.Merger.extend_heads.Goals as goal

pub loop-first-preserved : goal.loop-first-preserved
loop-first-preserved c =
    let e = c.in_ok-extend_head.ensures in
    record {
      merges = merges_both c.args.self.now c.loop-first.self c.extend_head.new.self c.loop-first.invariant.merges e.0;
      ready = e.1;
    }
