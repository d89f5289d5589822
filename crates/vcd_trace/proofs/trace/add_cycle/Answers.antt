use Rattle.std.proofs.Common.{sym, subst}
use Rattle.vcd_text.specs.Dump as dump
use Rattle.vcd_trace.proofs.Moved.{listing_moved}
use Rattle.vcd_trace.proofs.trace.add_cycle.Goals as goal

pub put_frame-requires-clause-values : goal.put_frame-requires-clause-values
put_frame-requires-clause-values c =
    let fit = c.in_ok-next.ensures.fit (listing_moved c.args.sim.now c.pass.new.self c.args.listing.now c.pass.ensures.net c.requires.listing) in
    subst (λ w. dump.AreValues w c.as_slice.result.now) (sym c.as_slice-widths.ensures) (subst (dump.AreValues c.args.listing.now.widths) (sym c.as_slice.ensures) fit)

pub returns-clause-fit : goal.returns-clause-fit
returns-clause-fit c = c.in_ok-next.ensures.fit (listing_moved c.args.sim.now c.pass.new.self c.args.listing.now c.pass.ensures.net c.requires.listing)
