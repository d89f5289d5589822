use Rattle.std.proofs.Common.{sym, subst, ap, map, slice_index, ◌∙◌}
use Rattle.vcd_text.specs.Dump.{AreValues}
use Rattle.net_registers.proofs.Listed.{values_fit}
use Rattle.net_registers.proofs.registers.numbers.Goals as goal

pub returns-clause-fit : goal.returns-clause-fit
returns-clause-fit c = λ is.
    let here = c.in_ok-numbers.ensures in
    let all = values_fit c.args.sim.now c.args.listing.now c.parts.ensures.stands is in
    let places = c.as_slice.ensures in
    subst (AreValues c.args.listing.now.widths) (sym (here ∙ ap (map (slice_index c.args.sim.now.numbers)) places)) all
