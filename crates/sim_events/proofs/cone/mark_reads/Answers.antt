use Rattle.std.proofs.Common.{◌<◌, ◌^◌, Bool, List, sym, ◌∙◌, subst, length, arith}
use Rattle.std.specs.Prelude.{◌+◌}
use Rattle.sim_values.specs.Order.{reads, IsMarked}
use Rattle.sim_events.proofs.Touched.{all_before}
use Rattle.sim_events.proofs.ConeMarks.{AreReadMarks, read_marks_none, read_marks_more}
use Rattle.sim_events.proofs.cone.mark_reads.Goals as goal

pub loop-index-init : goal.loop-index-init
loop-index-init c = read_marks_none (reads c.args.modules.now c.args.feed) c.args.marks.now.items

pub loop-index-preserved : goal.loop-index-preserved
loop-index-preserved c =
    let few : length c.args.marks.now.items < 2 ^ 64 = omega (arith, c.args.marks.now.ok.0) in
    let reading = reads c.args.modules.now c.args.feed in
    subst (λ (m : List Bool). AreReadMarks reading c.args.marks.now.items m (c.loop-index.index + 1)) (sym c.set_mark.ensures)
    (read_marks_more reading c.args.marks.now.items c.loop-index.marks.items c.loop-index.index c.in-Some.word few (sym c.operand_at.ensures ∙ c.in-Some.is) c.loop-index.invariant)

pub returns-in-None-clause-long : goal.returns-in-None-clause-long
returns-in-None-clause-long c = c.loop-index.invariant.long

pub returns-in-None-clause-reads : goal.returns-in-None-clause-reads
returns-in-None-clause-reads c = λ y among inside.
    all_before (λ z. z < length c.args.marks.now.items → IsMarked c.loop-index.marks.items z) (reads c.args.modules.now c.args.feed) c.loop-index.index c.loop-index.invariant.reads
    (sym c.operand_at.ensures ∙ c.in-None.is) y among inside

pub returns-in-None-clause-keeps : goal.returns-in-None-clause-keeps
returns-in-None-clause-keeps c = c.loop-index.invariant.keeps

pub returns-in-None-clause-only : goal.returns-in-None-clause-only
returns-in-None-clause-only c = c.loop-index.invariant.only
