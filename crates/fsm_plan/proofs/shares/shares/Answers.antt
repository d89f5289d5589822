use Rattle.std.proofs.Common.{◌≡◌, ◌++◌, rules, subst, sym}
use Rattle.fsm_plan.specs.Shares.{codes_of}
use Rattle.fsm_plan.proofs.Parts.{codes_of-append, nothing_left}
use Rattle.fsm_plan.proofs.shares.shares.Goals as goal

pub loop-number-preserved : goal.loop-number-preserved
loop-number-preserved c = record {
  whole =
      subst (λ shares. codes_of shares ++ c.split_at.result.1.now ≡ c.args.codes.now) (sym c.in_ok-push.ensures.items)
      (codes_of-append c.loop-number.shares.items c.split_at.result.0 c.loop-number.rest.now c.args.codes.now c.split_at.result.1.now c.loop-number.invariant.whole
      c.split_at.ensures.by_index.0);
  made = search rules;
  past = λ last. nothing_left c.loop-number.rest.now c.split_at.result.1.now c.min-count.result c.loop-number.number last c.split_at.ensures.back_len;
}
