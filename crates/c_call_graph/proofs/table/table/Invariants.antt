use Rattle.std.proofs.Common.{◌≡◌}
use Rattle.c_call_graph.specs.Graphs.{table}
use Rattle.c_call_graph.proofs.table.table.Given as goal

abbrev pub invariant-loop-function : goal.invariant-loop-function
invariant-loop-function l = l.table ≡ table l.calls l.function
