-- The counts of all globals.
use Rattle.std.proofs.Common.{◌≡◌, map, length, List, subst, arith}
use Rattle.std.proofs.lemmas.List.{length-map}
use Rattle.c_program.specs.Plain.{program_of, global_of}
use Rattle.global_naming.specs.Tables.{Running, IsCounted, runner_of, all_runners}
use Rattle.global_naming.proofs.Whole.{counts_are, one_more}
use Rattle.global_naming.proofs.naming.naming_threads.Goals as goal

pub loop-global-preserved : goal.loop-global-preserved
loop-global-preserved c =
    one_more (map runner_of c.in_ok-runners.runners.items) c.loop-global.global c.loop-global.counts.items _ c.count.result c.loop-global.invariant
    (rw c.deref.ensures.value at c.count.ensures) c.in_ok-push.ensures.items

pub returns : goal.returns
returns c =
    let P = program_of c.args.program.now in
    let made = subst (λ (rs : List Running). IsCounted rs c.loop-global.global c.loop-global.counts.items) c.in_ok-runners.ensures c.loop-global.invariant in
    let gs = c.args.program.now.globals in
    let long = length-map gs.items global_of in
    let whole : c.loop-global.global ≡ length P.globals = omega (arith, c.loop-global.auto.global-end, c.loop-global-test.false, c.len-global-end.ensures, gs.ok.0, long) in
    counts_are P c.in_ok-reach.reach.rows c.requires.acyclic c.in_ok-reach.ensures c.loop-global.counts.items c.requires.threads
    (subst (λ n. IsCounted (all_runners P c.in_ok-reach.reach.rows) n c.loop-global.counts.items) whole made)
