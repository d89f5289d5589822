use Rattle.thread_states.specs.Cells.{StoresFirst}
use Rattle.thread_states.specs.Stores.{StagesKeepStores}
use Rattle.thread_states.specs.Stages.{WalksFirst}
use Rattle.thread_states.proofs.stages.take_stages.Given as goal

abbrev pub invariant-loop-number : goal.invariant-loop-number
invariant-loop-number l = record {
  walks : WalksFirst l.globals l.code l.registers l.told l.planned l.fn.wires.signals l.wires.signals l.fn.chains l.chains l.number;
  puts : StoresFirst l.globals l.code l.registers l.planned l.fn.wires.signals l.wires.signals l.fn.stores l.stores l.number;
  stores : StagesKeepStores l.code l.registers l.planned l.told.barred l.number l.fn.wires.signals l.wires.signals l.fn.chains l.fn.stores l.stores;
}
