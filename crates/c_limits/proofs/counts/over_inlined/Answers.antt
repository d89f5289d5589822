use Rattle.c_program.specs.Plain.{program_of}
use Rattle.c_limits.proofs.Firsts.{inlined_first}
use Rattle.c_limits.proofs.counts.over_inlined.Goals as goal

pub returns : goal.returns
returns c =
    let elements = rw (c.deref.ensures.value, c.deref-2.ensures.value) at c.over_each-of_elements.ensures in
    let weights = rw c.deref-3.ensures.value at c.over_each.ensures in
    inlined_first (program_of c.args.program.now) _ _ _ _ _ _ _ c.requires.threads c.in_ok-functions.ensures c.in_ok-elements.ensures c.requires.weights elements weights c.first_of.ensures
