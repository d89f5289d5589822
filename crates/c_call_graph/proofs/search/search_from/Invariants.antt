use Rattle.std.proofs.Common.{◌≡◌}
use Rattle.c_call_graph.specs.Graphs.{turns}
use Rattle.c_call_graph.proofs.search.search_from.Given as goal

abbrev pub invariant-loop-index : goal.invariant-loop-index
invariant-loop-index l = l.search ≡ turns l.rows l.root l.index
