use Rattle.std.proofs.lemmas.Option.{slice_get-get_or}
use Rattle.std.proofs.lemmas.Nat.{pow_pos}
use Rattle.netlist.specs.declared.netlist.Source.TheVariants as source
use Rattle.thread_slots.specs.Wired.{IsSlotRegister}
use Rattle.thread_slots.proofs.LaidRegisters.{lays_none, lays_more, stands_grow}
use Rattle.thread_slots.proofs.SlotWires.{behind_none, behind_then}
use Rattle.thread_slots.proofs.slots.lay_all.Goals as goal

pub loop-width-preserved : goal.loop-width-preserved
loop-width-preserved c = record {
  laid =
      lays_more (source.Register 0) c.args.wires.now.signals c.loop-width.wires.signals c.lay_register.new.wires.signals c.args.widths.now c.loop-width.width-index
      c.loop-width.registers c.push.new.self _
      c.in_ok-held.held c.loop-width.invariant.laid (slice_get-get_or c.args.widths.now c.loop-width.width-index _ c.loop-width-test.true) c.in_ok-held.ensures.lays.width
      c.in_ok-held.ensures.lays.stands c.in_ok-push.ensures.ok;
  wired = λ inputs many fit.
      let own = fit c.loop-width.width-index _ (slice_get-get_or c.args.widths.now c.loop-width.width-index _ c.loop-width-test.true) in
      behind_then (IsSlotRegister inputs) c.args.wires.now.signals c.loop-width.wires.signals c.lay_register.new.wires.signals
      (stands_grow c.loop-width.wires.signals c.lay_register.new.wires.signals _ c.in_ok-held.held.register _ c.in_ok-held.ensures.lays.stands)
      (c.loop-width.invariant.wired inputs many fit)
      (c.in_ok-held.ensures.wired inputs many (pow_pos _) own.0 own.1);
}

pub loop-width-init : goal.loop-width-init
loop-width-init c = record {
  laid = lays_none (source.Register 0) c.args.wires.now.signals c.args.widths.now c.new-registers.result c.new-registers.ensures;
  wired = λ inputs many fit. behind_none (IsSlotRegister inputs) c.args.wires.now.signals;
}
