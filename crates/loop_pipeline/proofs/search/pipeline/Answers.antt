use Rattle.std.proofs.Common.{◌+◌, ◌/◌, arith}
use Rattle.schedule_sdc.specs.declared.constraint.Solved.TheVariants.{Starts, Cyclic}
use Rattle.loop_pipeline.specs.Pipeline.{IsSolvedLoop}
use Rattle.loop_pipeline.proofs.WiderIntervals.{none_below}
use Rattle.loop_pipeline.proofs.SplitStarts.{split_pipeline, split_soon}
use Rattle.loop_pipeline.proofs.search.pipeline.Goals as goal
use Rattle.loop_pipeline.proofs.search.pipeline.Goals.{in-Starts-2, in-Cyclic-2}

pub returns-in-Cyclic-clause-pipeline : goal.returns-in-Cyclic-clause-pipeline
returns-in-Cyclic-clause-pipeline c =
    let cyclic : IsSolvedLoop c.args.nodes.now c.args.comparison c.args.carried.now 64 (Cyclic c.in-Cyclic.walk) = rw c.in-Cyclic.is at c.in_ok-starts.ensures in
    (λ j low high. none_below c.args.nodes.now c.args.comparison c.args.carried.now j 64 high cyclic.1, cyclic.0)

pub loop-low-preserved-after-branch-4-2 : goal.loop-low-preserved-after-branch-4-2
loop-low-preserved-after-branch-4-2 c =
    let middle = (c.loop-low.low + c.loop-low.interval) / 2 in
    let order = c.loop-low.invariant.order in
    let less = c.loop-low-test.true in
    elim c.match-branch-4.branch [
      | in-Starts-2 w ↦
          (let starts : IsSolvedLoop c.args.nodes.now c.args.comparison c.args.carried.now middle (Starts w.in-Starts-2.starts) =
          rw w.in-Starts-2.is at c.in_ok-starts-2.ensures in
          record {
            order = (omega (arith, order, less, w.interval-is, w.low-is), omega (arith, order, less, w.interval-is, w.low-is), omega (arith, order, less, w.interval-is, w.low-is));
            best = rw (w.interval-is, w.best-is) starts;
            none = λ j l m. c.loop-low.invariant.none j l (omega (arith, w.low-is, m));
          })
      | in-Cyclic-2 w ↦
          (let cyclic = rw w.in-Cyclic-2.is at c.in_ok-starts-2.ensures in
          record {
            order = (omega (arith, order, less, w.interval-is, w.low-is), omega (arith, order, less, w.interval-is, w.low-is), omega (arith, order, less, w.interval-is, w.low-is));
            best = rw (w.interval-is, w.best-is) c.loop-low.invariant.best;
            none = λ j l m. none_below c.args.nodes.now c.args.comparison c.args.carried.now j middle (omega (arith, w.low-is, m)) cyclic.1;
          })
    ]

pub returns-clause-pipeline : goal.returns-clause-pipeline
returns-clause-pipeline c =
    let order = c.loop-low.invariant.order in
    let over = c.loop-low-test.false in
    split_pipeline c.args.nodes.now c.args.comparison c.args.carried.now c.loop-low.interval c.requires.earlier c.requires.comparison c.requires.carried
    (omega (arith, order, c.requires.least)) c.loop-low.best.items c.loop-low.invariant.best c.args.least c.split.result c.split.ensures
    (omega (arith, order)) (omega (arith, order)) (λ j l m. c.loop-low.invariant.none j l (omega (arith, over, m)))

pub returns-clause-soon : goal.returns-clause-soon
returns-clause-soon c =
    let order = c.loop-low.invariant.order in
    split_soon c.args.nodes.now c.args.comparison c.args.carried.now c.loop-low.interval c.requires.earlier c.requires.comparison c.requires.carried
    (omega (arith, order, c.requires.least)) c.loop-low.best.items c.loop-low.invariant.best c.split.result c.split.ensures
