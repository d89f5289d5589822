use Rattle.operator_wires.specs.Gives.{Grows}
use Rattle.thread_slots.specs.Cells.{PutsFirst}
use Rattle.thread_slots.specs.Stores.{AddsStores}
use Rattle.thread_slots.proofs.stores.store_all.Given as goal

abbrev pub invariant-loop-number : goal.invariant-loop-number
invariant-loop-number l = record {
  grows : Grows l.fn.wires.signals l.wires.signals;
  puts : PutsFirst l.fn.wires.signals l.wires.signals l.registers l.end.at l.end.states l.fn.stores l.stores l.code l.values l.block.operations l.plan.starts l.number;
  wired : AddsStores l.fn.wires.signals l.wires.signals l.code l.registers l.values l.end.at l.end.states l.fn.stores l.stores;
}
