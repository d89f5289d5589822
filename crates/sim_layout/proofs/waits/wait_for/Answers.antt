use Rattle.std.proofs.Common.{◌≡◌, Some, None, ap, ◌∙◌, arith, length, slice_set, slice_index_or}
use Rattle.sim_layout.specs.declared.waits.Wait.{Wait}
use Rattle.sim_layout.proofs.WaitChains.{waits_more, waits_keep}
use Rattle.sim_layout.proofs.waits.wait_for.Goals as goal

pub returns-in_ok-push-clause-waits : goal.returns-in_ok-push-clause-waits
returns-in_ok-push-clause-waits c = λ inside.
    let last = c.args.waits.now.last.items in
    let chain = c.args.waits.now.chain.items in
    let new : Wait = record { step = c.args.step; before = c.last_at-before.result } in
    let number : c.len-number.result ≡ length chain = omega arith in
    let set = ap (λ n. slice_set last c.args.word (Some n)) number in
    let before = c.last_at-before.ensures ∙ ap (λ l. slice_index_or l c.args.word None) c.as_slice.ensures.value in
    waits_more last (slice_set last c.args.word (Some c.len-number.result)) chain c.push.new.self.items new c.args.word inside before c.in_ok-push.ensures.items set

pub returns-in_ok-push-clause-keeps : goal.returns-in_ok-push-clause-keeps
returns-in_ok-push-clause-keeps c =
    let last = c.args.waits.now.last.items in
    let chain = c.args.waits.now.chain.items in
    let new : Wait = record { step = c.args.step; before = c.last_at-before.result } in
    let number : c.len-number.result ≡ length chain = omega arith in
    let set = ap (λ n. slice_set last c.args.word (Some n)) number in
    let before = c.last_at-before.ensures ∙ ap (λ l. slice_index_or l c.args.word None) c.as_slice.ensures.value in
    waits_keep last (slice_set last c.args.word (Some c.len-number.result)) chain c.push.new.self.items new c.args.word (omega arith) before c.in_ok-push.ensures.items set
