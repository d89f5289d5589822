use Rattle.std.proofs.Common.{◌≤◌, length}
use Rattle.sim_loops.specs.Search.{AreBehind}
use Rattle.sim_loops.proofs.InstancePath.{AreLeft}
use Rattle.sim_loops.proofs.find.path_of.Given as goal

abbrev pub invariant-loop-turn : goal.invariant-loop-turn
invariant-loop-turn l = record {
  left : AreLeft l.children l.place l.path l.inner;
  count : l.count ≤ length l.children;
  behind : AreBehind l.children l.count l.inner;
}
