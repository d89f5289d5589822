use Rattle.std.proofs.Common.{◌<◌, sym, subst}
use Rattle.std.proofs.lemmas.Result.{on_ok_weaker}
use Rattle.code_merge.proofs.Chains.{grows_both, join_grows, join_holds, join_block, finish_extends, extends_after, total, sum_less}
use Rattle.code_merge.proofs.merger.Merger.grow.Goals as goal

pub loop-second-smaller : goal.loop-second-smaller
loop-second-smaller c =
    let f = c.in-Some.ensures.some in
    subst (λ cs. total cs < total c.loop-second.self.counts) (sym (c.in_ok-join.ensures f.block f.next f.at f.there).counts)
    (sum_less c.loop-second.self.counts c.in-Some.second f.once)

pub loop-second-preserved : goal.loop-second-preserved
loop-second-preserved c =
    let f = c.in-Some.ensures.some in
    let was = c.loop-second.invariant in
    let old = c.loop-second.self in
    let new = c.join.new.self in
    let joins = c.in_ok-join.ensures f.block f.next f.at f.there in
    record {
      grows = grows_both c.args.self.now old new c.args.first was.grows (join_grows old new c.args.first c.in-Some.second was.grows.counted f was.holds joins);
      holds = join_holds old new c.args.first c.in-Some.second was.grows.counted f was.holds joins;
      block = join_block old new c.args.first c.in-Some.second was.grows.counted f was.holds joins;
    }

pub returns : goal.returns
returns c =
    let was = c.loop-second.invariant in
    on_ok_weaker c.finish.result
    (λ t. extends_after c.args.self.now c.loop-second.self c.finish.new.self c.args.first was.grows
    (finish_extends c.loop-second.self c.finish.new.self c.args.first was.grows.counted was.holds was.block (c.follower.ensures.none c.in_default.is) (t was.holds)))
    c.finish.ensures
