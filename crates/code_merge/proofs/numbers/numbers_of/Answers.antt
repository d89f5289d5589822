use Rattle.std.proofs.Common.{◌≡◌, ◌+◌, ◌≤◌, true, false, [], ◌∷◌, length, sym, length-append, ap, ◌∙◌, arith}
use Rattle.std.specs.Prelude.{slice_get}
use Rattle.code_merge.specs.Used as spec
use Rattle.code_merge.proofs.KeptItems.{number_first, number_step, item_more, numbers_all}
use Rattle.code_merge.proofs.numbers.numbers_of.Goals as goal
use Rattle.code_merge.proofs.numbers.numbers_of.Goals.{then-used, else-used}

pub loop-used-init : goal.loop-used-init
loop-used-init c = record {
  most = omega arith;
  count = sym (number_first c.args.used.now);
  size = ap length c.new-of.ensures;
  of = λ k n e. absurd (let h = sym (ap (λ l. slice_get l k) c.new-of.ensures) ∙ e in cc);
}

pub loop-used-preserved : goal.loop-used-preserved
loop-used-preserved c =
    let was = c.loop-used.invariant in
    let us = c.args.used.now in
    let k = c.loop-used.used-index in
    let lt = c.loop-used-test.true in
    let most = was.most in
    let size = was.size in
    let long = ap length c.in_ok-push.ensures.ok ∙ length-append c.loop-used.of (c.loop-used.count ∷ []) in
    let step : (c.if-used.count ≤ k + 1) × (c.if-used.count ≡ spec.number us (k + 1)) =
    elim c.if-used.branch [
      | then-used w ↦ (let n = w.count-is in (omega (arith, n, most), number_step us k c.loop-used.count c.if-used.count true lt w.if-used.true was.count n))
      | else-used w ↦ (let n = w.count-is in (omega (arith, n, most), number_step us k c.loop-used.count c.if-used.count false lt w.if-used.false was.count (omega (arith, n))))
    ] in
    record {
      most = step.0;
      count = step.1;
      size = omega (arith, long, size);
      of = λ j m e.
          item_more (spec.number us) c.loop-used.of c.loop-used.count (was.count ∙ ap (spec.number us) (sym size)) was.of j m
          (ap (λ l. slice_get l j) (sym c.in_ok-push.ensures.ok) ∙ e);
    }

pub returns : goal.returns
returns c =
    let was = c.loop-used.invariant in
    numbers_all c.args.used.now c.loop-used.of c.loop-used.count c.loop-used.used-index was.count was.size c.loop-used-test.false was.of
