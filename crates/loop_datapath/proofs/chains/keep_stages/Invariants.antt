use Rattle.std.proofs.Common.{◌≤◌, max}
use Rattle.loop_datapath.specs.Chains.{KeepsStages}
use Rattle.loop_datapath.specs.Wired.{KeepsStageLinks}
use Rattle.loop_datapath.proofs.chains.keep_stages.Given as goal

abbrev pub invariant-loop-stage : goal.invariant-loop-stage
invariant-loop-stage l = record {
  some : 1 ≤ l.stage;
  most : l.stage ≤ max 1 l.times.stages;
  shows : KeepsStages l.fn.wires.signals l.wires.signals l.registers l.times l.comparison l.bits l.states l.fn.nexts l.nexts l.stage;
  wired : KeepsStageLinks l.fn.wires.signals l.wires.signals l.registers l.times l.bits l.states l.fn.nexts l.nexts;
}
