use Rattle.std.proofs.Common.{◌≡◌, ◌<◌, ◌^◌, drop}
use Rattle.hls_ints.specs.Words.{word}
use Rattle.circuit.specs.Readings.{joined}
use Rattle.circuit.specs.Rows.{EachOf}
use Rattle.sim_values.specs.Flat.{flat_of, reading, IsWide}
use Rattle.sim_values.proofs.value.joined_at.Given as goal

abbrev pub invariant-loop-part : goal.invariant-loop-part
invariant-loop-part l = record {
  left : word 64 (joined l.module (reading l.spot (flat_of l.now)) l.parts 0)
      ≡ word 64 (joined l.module (reading l.spot (flat_of l.now)) (drop l.part-index l.parts) l.above);
  below : l.above < 2 ^ 64;
  wide : EachOf (IsWide l.module) (drop l.part-index l.parts);
}
