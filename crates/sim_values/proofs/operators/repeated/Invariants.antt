use Rattle.std.proofs.Common.{◌≡◌}
use Rattle.hls_ints.specs.Words.{word}
use Rattle.circuit.specs.Readings.{repeated}
use Rattle.sim_values.proofs.operators.repeated.Given as goal

abbrev pub invariant-loop-copy : goal.invariant-loop-copy
invariant-loop-copy l = l.above ≡ word 64 (repeated l._copy l.width l.number)
