use Rattle.std.proofs.Common.{false, ap, ◌∙◌}
use Rattle.std.specs.Prelude.{◌||◌, not, nat_eq, slice_index_or}
use Rattle.code_merge.specs.Used.{is_empty}
use Rattle.code_merge.proofs.Marks.{used_more, used_all}
use Rattle.code_merge.proofs.leading.used.Goals as goal

pub loop-at-preserved : goal.loop-at-preserved
loop-at-preserved c =
    used_more c.args.stages.now c.in_ok-led.led c.loop-at.used c.push.new.self c.loop-at.at c.index-stages-at.result c.is_used.result c.loop-at-test.true c.index-stages-at.is
    c.in_ok-led.ensures c.loop-at.invariant c.in_ok-push.ensures.ok
    (c.is_used.ensures ∙ ap (λ l. nat_eq c.loop-at.at 0 || not (is_empty c.index-stages-at.result) || slice_index_or l c.loop-at.at false) c.as_slice.ensures)

pub returns : goal.returns
returns c = used_all c.args.stages.now c.loop-at.used c.loop-at.at c.loop-at-test.false c.loop-at.invariant
