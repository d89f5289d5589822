use Rattle.std.proofs.Common.{ap, length, arith}
use Rattle.code_merge.proofs.Chains.{merges_both, all_next, all_done}
use Rattle.code_merge.proofs.merger.Merger.extend_all.Goals as goal

pub loop-first-preserved : goal.loop-first-preserved
loop-first-preserved c =
    let was = c.loop-first.invariant in
    let e = c.in_ok-extend.ensures in
    record {
      merges = merges_both c.args.self.now c.loop-first.self c.extend.new.self was.merges e.grows.merges;
      ready = e.ready;
      maximal = all_next c.args.self.now c.loop-first.self c.extend.new.self c.loop-first.first was.merges e was.maximal;
    }

pub returns : goal.returns
returns c =
    let was = c.loop-first.invariant in
    let v = ap length c.as_slice-count.ensures.value in
    let f = c.loop-first-test.false in
    (was.merges, all_done c.args.self.now c.loop-first.self c.loop-first.first (omega (arith, v, f)) was.merges was.maximal)
