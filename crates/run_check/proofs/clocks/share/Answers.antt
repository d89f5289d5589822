use Rattle.std.proofs.Common.{◌≡◌, length, subst, arith, rules}
use Rattle.std.specs.Prelude.{true}
use Rattle.run_check.specs.Clocks.{clock}
use Rattle.run_check.proofs.Rows.{Spreads, gathers_more, spreads_more, spreads_all}
use Rattle.run_check.proofs.clocks.share.Goals as goal

pub loop-thread-preserved : goal.loop-thread-preserved
loop-thread-preserved c =
    let ok : c.in_ok-hear.field-0 ≡ true = search rules in
    gathers_more c.args.threads.now (clock c.args.clocks.now.items) (clock c.loop-thread.clocks.items) (clock c.hear.new.clocks.items)
    c.loop-thread.thread-index c.loop-thread.invariant c.loop-thread-test.true (c.in_ok-hear.ensures ok)

pub loop-thread-2-preserved : goal.loop-thread-2-preserved
loop-thread-2-preserved c =
    let ok : c.in_ok-hear-2.field-0 ≡ true = search rules in
    spreads_more c.args.threads.now (clock c.args.clocks.now.items) (clock c.loop-thread-2.clocks.items) (clock c.hear-in-loop-thread-2.new.clocks.items)
    c.loop-thread-2.thread-index c.loop-thread-2.invariant c.loop-thread-2-test.true (c.in_ok-hear-2.ensures ok)

pub returns : goal.returns
returns c e =
    let threads = c.args.threads.now in
    let old = clock c.args.clocks.now.items in
    let new = clock c.loop-thread-2.clocks.items in
    let all : c.loop-thread-2.thread-index ≡ length threads = omega arith in
    spreads_all threads old new (subst (λ n. Spreads threads old new n) all c.loop-thread-2.invariant)
