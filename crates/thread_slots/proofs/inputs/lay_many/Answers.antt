use Rattle.std.proofs.Common.{refl}
use Rattle.std.proofs.lemmas.Option.{slice_get-get_or}
use Rattle.netlist.specs.declared.netlist.Source.TheVariants.{Input}
use Rattle.thread_slots.specs.Wired.{IsInnerInput}
use Rattle.thread_slots.proofs.LaidRegisters.{lays_none, lays_more, stands_grow}
use Rattle.thread_slots.proofs.SlotWires.{behind_none, behind_then, input_numbered}
use Rattle.thread_slots.proofs.inputs.lay_many.Goals as goal

pub loop-width-preserved : goal.loop-width-preserved
loop-width-preserved c =
    let here = slice_get-get_or c.args.widths.now c.loop-width.width-index _ c.loop-width-test.true in
    record {
      laid =
          lays_more Input c.args.wires.now.signals c.loop-width.wires.signals c.input.new.self.signals c.args.widths.now c.loop-width.width-index c.loop-width.inputs
          c.push.new.self _ _
          c.loop-width.invariant.laid here refl c.in_ok-register.ensures.stands c.in_ok-push.ensures.ok;
      wired = λ many fit.
          let own = fit c.loop-width.width-index _ here in
          behind_then IsInnerInput c.args.wires.now.signals c.loop-width.wires.signals c.input.new.self.signals
          (stands_grow c.loop-width.wires.signals c.input.new.self.signals _ _ _ c.in_ok-register.ensures.stands) (c.loop-width.invariant.wired many fit)
          (input_numbered c.loop-width.wires.signals c.input.new.self.signals c.args.role _ _ c.in_ok-register.ensures.laid many own.0 own.1);
    }

pub loop-width-init : goal.loop-width-init
loop-width-init c = record {
  laid = lays_none Input c.args.wires.now.signals c.args.widths.now c.new-inputs.result c.new-inputs.ensures;
  wired = λ many fit. behind_none IsInnerInput c.args.wires.now.signals;
}
