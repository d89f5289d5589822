use Rattle.std.proofs.Common.{Some, ap, sym, ◌∙◌, arith}
use Rattle.std.proofs.lemmas.Option.{slice_get-get_or}
use Rattle.slot_sim.proofs.ThreadsStand.{slot_here, slot_fits}
use Rattle.slot_sim.proofs.running.slot_of.Goals as goal

pub returns-clause-fits : goal.returns-clause-fits
returns-clause-fits c =
    let s = c.index-slots-thread.result in
    let r = c.args.sim.now in
    let l = c.requires.thread in
    let long = c.requires.slots.long in
    let there = slice_get-get_or c.args.slots.now c.args.thread s (omega (arith, l, long)) ∙ ap Some (sym c.index-slots-thread.is) in
    slot_fits r c.args.thread s c.parts.ensures.stands (slot_here r.modules r.parts c.args.slots.now c.args.thread s c.requires.slots there) l
