use Rattle.std.proofs.Common.{max, ap, sym, ◌∙◌, arith, map, take}
use Rattle.c_program.specs.Limits.{greatest}
use Rattle.c_program.specs.Plain.{global_of}
use Rattle.c_limits.specs.Counts.{length_of}
use Rattle.c_limits.proofs.Greatest.{greatest_next}
use Rattle.c_limits.proofs.counts.longest_global.Goals as goal

pub loop-global-preserved : goal.loop-global-preserved
loop-global-preserved c =
    let more = greatest_next length_of global_of c.args.globals.now c.loop-global.global-index c.global-item.result (omega arith) in
    let found = rw (c.length_of.ensures, c.loop-global.invariant) at c.max-longest.ensures in
    let old = greatest length_of (map global_of (take c.loop-global.global-index c.args.globals.now)) in
    found ∙ ap (λ x. max (length_of (global_of x)) old) c.global-item.is ∙ sym more
