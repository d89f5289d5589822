use Rattle.std.proofs.Common.{◌≤◌}
use Rattle.std.specs.Io.KnownBytes.{Keeps}
use Rattle.hls_io.proofs.standard.StdSinkSink.write.Given as goal

abbrev pub invariant-tries : goal.invariant-tries
invariant-tries g l = record {
  kept : Keeps (g.W.Write.contents l.initial.self-inside.inner) (g.W.Write.contents l.self-inside.inner);
  later : l.initial.self-inside.faults ≤ l.self-inside.faults;
}
