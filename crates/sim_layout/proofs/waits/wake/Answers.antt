use Rattle.std.proofs.Common.{◌≡◌, None, Some, ◌∷◌, ◌++◌, [], ap, sym, ◌∙◌, subst, arith, length, option_and_then, slice_get, slice_index_or}
use Rattle.std.proofs.lemmas.List.{length-append}
use Rattle.sim_values.proofs.Orders.{get_more}
use Rattle.sim_layout.proofs.WaitChains.{passed_more, passed_all, kept_more}
use Rattle.sim_layout.proofs.waits.wake.Goals as goal

pub returns-in-None-clause-woken : goal.returns-in-None-clause-woken
returns-in-None-clause-woken c =
    let chain = c.args.waits.now.chain.items in
    let first = slice_index_or c.args.waits.now.last.items c.args.word None in
    let none = ap (λ l. option_and_then (slice_get l) c.loop-turn.next) (sym c.as_slice-in-loop-turn.ensures.value) ∙ sym c.wait_at.ensures ∙ c.in-None.is in
    passed_all chain (length c.args.looks.now.items) c.loop-turn.looks.items first c.loop-turn.next none c.loop-turn.invariant.passed

pub loop-turn-preserved : goal.loop-turn-preserved
loop-turn-preserved c =
    let chain = c.args.waits.now.chain.items in
    let first = slice_index_or c.args.waits.now.last.items c.args.word None in
    let looks = c.loop-turn.looks.items in
    let new = c.push.new.self.items in
    let w = c.in-Some.wait in
    let made : new ≡ looks ++ w.step ∷ [] = c.in_ok-push-in-Some.ensures.items in
    let some = ap (λ l. option_and_then (slice_get l) c.loop-turn.next) (sym c.as_slice-in-loop-turn.ensures.value) ∙ sym c.wait_at.ensures ∙ c.in-Some.is in
    let longer = ap length made ∙ length-append looks (w.step ∷ []) in
    let before = c.loop-turn.invariant.more in
    record {
      more = omega (arith, longer, before);
      behind = λ j k e. subst (λ l. slice_get l j ≡ Some k) (sym made) (get_more looks (w.step ∷ []) j k (c.loop-turn.invariant.behind j k e));
      keeps = kept_more c.args.looks.now.items looks new w.step made c.loop-turn.invariant.keeps;
      passed = passed_more chain w (length c.args.looks.now.items) looks new first c.loop-turn.next before some made c.loop-turn.invariant.passed;
    }
