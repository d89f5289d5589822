use Rattle.std.proofs.Common.{◌≡◌, take}
use Rattle.c_call_graph.specs.Graphs.{callees}
use Rattle.c_call_graph.proofs.table.callees.Given as goal

abbrev pub invariant-loop-call : goal.invariant-loop-call
invariant-loop-call l = l.callees ≡ callees (take l.call-index l.calls) l.function
