use Rattle.std.proofs.Common.{◌≤◌}
use Rattle.std.specs.Io.KnownBytes.{Keeps}
use Rattle.hls_io.proofs.standard.StdSourceSource.read.Given as goal

abbrev pub invariant-tries : goal.invariant-tries
invariant-tries g l = record {
  kept : Keeps (g.R.Read.remaining l.initial.self-inside.inner) (g.R.Read.remaining l.self-inside.inner);
  later : l.initial.self-inside.faults ≤ l.self-inside.faults;
}
