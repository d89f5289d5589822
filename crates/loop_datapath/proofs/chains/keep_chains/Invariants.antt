use Rattle.loop_datapath.specs.Chains.{KeepsChains}
use Rattle.loop_datapath.specs.Wired.{KeepsChainLinks}
use Rattle.loop_datapath.proofs.chains.keep_chains.Given as goal

abbrev pub invariant-loop-number : goal.invariant-loop-number
invariant-loop-number l = record {
  shows : KeepsChains l.fn.wires.signals l.wires.signals l.registers l.times l.states l.fn.nexts l.nexts l.words l.number;
  wired : KeepsChainLinks l.fn.wires.signals l.wires.signals l.registers l.words l.states l.fn.nexts l.nexts;
}
