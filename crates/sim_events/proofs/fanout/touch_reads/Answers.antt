use Rattle.std.proofs.Common.{◌<◌, ◌≤◌, ◌^◌, sym, ◌∙◌, length, arith}
use Rattle.sim_values.specs.Order.{reads}
use Rattle.sim_layout.specs.Waits.{IsWaiting}
use Rattle.sim_events.proofs.Touched.{all_before, read_more}
use Rattle.sim_events.proofs.fanout.touch_reads.Goals as goal

pub returns-in-None-clause-reads : goal.returns-in-None-clause-reads
returns-in-None-clause-reads c = λ y among inside.
    all_before (λ z. z < length c.args.touched.now.last.items → IsWaiting c.loop-index.touched.last.items c.loop-index.touched.chain.items z c.args.number)
    (reads c.args.modules.now c.args.feed) c.loop-index.index c.loop-index.invariant.reads (sym c.operand_at.ensures ∙ c.in-None.is) y among inside

pub loop-index-preserved : goal.loop-index-preserved
loop-index-preserved c =
    let words = length c.args.touched.now.last.items in
    let few : words ≤ 2 ^ 64 = omega (arith, c.args.touched.now.last.ok.0) in
    let same = c.loop-index.invariant.long in
    record {
      long = c.in_ok-wait_for-in-Some.ensures.long ∙ c.loop-index.invariant.long;
      keeps = λ w k is. c.in_ok-wait_for-in-Some.ensures.keeps w k (c.loop-index.invariant.keeps w k is);
      reads = read_more (reads c.args.modules.now c.args.feed) words c.loop-index.touched.last.items c.wait_for.new.waits.last.items c.loop-index.touched.chain.items
          c.wait_for.new.waits.chain.items c.args.number c.loop-index.index c.in-Some.word few (sym c.operand_at.ensures ∙ c.in-Some.is) c.loop-index.invariant.reads
          c.in_ok-wait_for-in-Some.ensures.keeps (λ l. c.in_ok-wait_for-in-Some.ensures.waits (omega (arith, l, same)));
    }
