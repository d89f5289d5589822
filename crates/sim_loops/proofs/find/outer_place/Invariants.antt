use Rattle.std.proofs.Common.{◌-◌}
use Rattle.sim_loops.specs.Search.{AreBehind}
use Rattle.sim_loops.proofs.find.outer_place.Given as goal

abbrev pub invariant-loop-behind : goal.invariant-loop-behind
invariant-loop-behind l = AreBehind l.children (l.count - l.behind) l.place
