use Rattle.std.proofs.Common.{◌∙◌, ap, length}
use Rattle.std.proofs.lemmas.List.{length-set}
use Rattle.code_merge.proofs.MergedCode.{left_next, left_all}
use Rattle.code_merge.proofs.joining.hold.Goals as goal

pub loop-last-preserved : goal.loop-last-preserved
loop-last-preserved c = record {
  left =
      left_next c.args.held.now.current c.loop-last.held.current c.set.new.self.current c.args.finals.now c.loop-last.last-index c.last-item.result c.in_ok-value.value
      c.loop-last-test.true
      c.last-item.is c.in_ok-value.ensures c.in_ok-set.ensures.current c.loop-last.invariant.left;
  noted = λ h. c.in_ok-set.ensures.noted (c.loop-last.invariant.noted h);
  size = ap (λ l. length l) c.in_ok-set.ensures.current ∙ length-set c.loop-last.held.current c.last-item.result.variable _ ∙ c.loop-last.invariant.size;
}

pub returns-clause-left : goal.returns-clause-left
returns-clause-left c =
    left_all c.args.held.now.current c.loop-last.held.current c.args.finals.now c.loop-last.last-index c.loop-last-test.false c.loop-last.invariant.left
