use Rattle.std.proofs.Common.{◌≡◌, false}
use Rattle.netlist.specs.declared.netlist.Source.TheVariants.{Input}
use Rattle.operator_wires.specs.Built.{is_single}
use Rattle.thread_slots.specs.Slots.{LaysAll}
use Rattle.thread_slots.specs.Wired.{AreFit, Behind, IsInnerInput}
use Rattle.thread_slots.proofs.inputs.lay_many.Given as goal

abbrev pub invariant-loop-width : goal.invariant-loop-width
invariant-loop-width l = record {
  laid : LaysAll Input l.fn.wires.signals l.wires.signals l.widths l.width-index l.inputs;
  wired : is_single l.role ≡ false → AreFit l.widths → Behind IsInnerInput l.fn.wires.signals l.wires.signals;
}
