use Rattle.std.proofs.Common.{◌≡◌, ℕ, ◌<◌, length}
use Rattle.interval_pack.specs.Packing.{at}
use Rattle.op_graph.specs.Graph.{done}
use Rattle.register_binding.specs.Registers.{is_marked, life_end}
use Rattle.register_binding.proofs.lives.lives_of.Given as goal

abbrev pub invariant-loop-i : goal.invariant-loop-i
invariant-loop-i l = record {
  count : length l.lives.items ≡ l.i;
  each : (i : ℕ) → i < l.i → at l.lives.items i ≡ record { start = done l.nodes l.starts i; end = life_end l.nodes l.starts (is_marked l.at_end) i };
}
