use Rattle.std.proofs.Common.{◌≡◌, take}
use Rattle.c_call_graph.specs.Graphs.{following}
use Rattle.c_call_graph.proofs.search.Search.follow.Given as goal

abbrev pub invariant-loop-callee : goal.invariant-loop-callee
invariant-loop-callee l = l.self ≡ following l.initial.self (take l.callee-index l.callees)
