use Rattle.std.proofs.Common.{◌≤◌, max}
use Rattle.loop_datapath.specs.StageBits.{ShowsInside}
use Rattle.loop_datapath.specs.Wired.{AreInsideBits}
use Rattle.loop_datapath.proofs.stage_bits.inside_bits.Given as goal

abbrev pub invariant-loop-stage : goal.invariant-loop-stage
invariant-loop-stage l = record {
  some : 1 ≤ l.stage;
  most : l.stage ≤ max 1 l.times.stages;
  shows : ShowsInside l.fn.wires.signals l.wires.signals l.registers l.times l.running l.rounds l.stage l.inside;
  wired : AreInsideBits l.fn.wires.signals l.wires.signals l.registers l.times l.running l.rounds l.inside;
}
