use Rattle.std.proofs.Common.{length, ◌-◌, ◌≤◌}
use Rattle.std.specs.Io.KnownBytes.{Consumes}
use Rattle.hls_io.proofs.whole.read_all.Given as goal

abbrev pub invariant-pieces : goal.invariant-pieces
invariant-pieces g l = record {
  within : length l.bytes ≤ l.max;
  taken : Consumes (g.S.Source.left l.initial.source) (g.S.Source.left l.source) l.bytes;
  later : g.S.Source.faults l.initial.source ≤ g.S.Source.faults l.source;
}

abbrev pub decreases-pieces : goal.decreases-pieces
decreases-pieces g l = l.max - length l.bytes
