use Rattle.loop_datapath.specs.Chains.{KeepsCopies}
use Rattle.loop_datapath.specs.Wired.{KeepsCopyLinks}
use Rattle.loop_datapath.proofs.chains.keep_copies.Given as goal

abbrev pub invariant-loop-copy : goal.invariant-loop-copy
invariant-loop-copy l = record {
  shows : KeepsCopies l.fn.wires.signals l.wires.signals l.registers l.chain l.word l.here l.fn.nexts l.nexts l.copy;
  wired : KeepsCopyLinks l.fn.wires.signals l.wires.signals l.registers l.word l.here l.fn.nexts l.nexts;
}
