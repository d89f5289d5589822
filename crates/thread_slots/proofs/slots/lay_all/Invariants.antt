use Rattle.std.proofs.Common.{◌≡◌, ℕ, false}
use Rattle.netlist.specs.declared.netlist.Source.TheVariants as source
use Rattle.operator_wires.specs.Built.{is_single}
use Rattle.thread_slots.specs.Slots.{LaysAll}
use Rattle.thread_slots.specs.Wired.{AreFit, Behind, IsSlotRegister}
use Rattle.thread_slots.proofs.slots.lay_all.Given as goal

abbrev pub invariant-loop-width : goal.invariant-loop-width
invariant-loop-width l = record {
  laid : LaysAll (source.Register 0) l.fn.wires.signals l.wires.signals l.widths l.width-index l.registers;
  wired : (inputs : ℕ) → is_single l.role ≡ false → AreFit l.widths → Behind (IsSlotRegister inputs) l.fn.wires.signals l.wires.signals;
}
