use Rattle.std.proofs.Common.{◌≡◌, take}
use Rattle.op_graph.specs.Graph.{nodes_of}
use Rattle.op_graph.proofs.node.nodes.Given as goal

abbrev pub invariant-loop-number : goal.invariant-loop-number
invariant-loop-number l = l.nodes.items ≡ nodes_of (take l.number l.operations)
