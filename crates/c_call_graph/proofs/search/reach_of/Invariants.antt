use Rattle.std.proofs.Common.{◌≡◌}
use Rattle.c_call_graph.specs.Graphs.{all_marks, table}
use Rattle.c_call_graph.proofs.search.reach_of.Given as goal

abbrev pub invariant-loop-root : goal.invariant-loop-root
invariant-loop-root l = l.rows ≡ all_marks (table l.calls l.functions) l.root
