use Rattle.std.proofs.Common.{ℕ, length, map}
use Rattle.std.specs.Prelude.{string_bytes}
use Rattle.netlist.specs.declared.netlist.Source.TheVariants as source
use Rattle.thread_slots.specs.Naming.{AreNamed}
use Rattle.thread_slots.specs.Slots.{LaysAll}
use Rattle.thread_slots.specs.Wired.{AreFit, Behind, IsSlotRegister}
use Rattle.thread_slots.proofs.slots.lay_variables.Given as goal

abbrev pub invariant-loop-number : goal.invariant-loop-number
invariant-loop-number l = record {
  laid : LaysAll (source.Register 0) l.fn.wires.signals l.wires.signals l.widths l.number l.registers;
  named : AreNamed l.wires.signals (length l.fn.wires.signals) (map string_bytes l.names) l.number;
  wired : (inputs : ℕ) → AreFit l.widths → Behind (IsSlotRegister inputs) l.fn.wires.signals l.wires.signals;
}
