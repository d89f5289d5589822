use Rattle.std.proofs.Common.{◌≡◌, ◌++◌, drop}
use Rattle.sim_values.specs.Tree.{kinds_of}
use Rattle.sim_values.proofs.tree.push_kinds.Given as goal

abbrev pub invariant-loop-instance : goal.invariant-loop-instance
invariant-loop-instance l = l.initial.kinds.items ++ kinds_of l.instances ≡ l.kinds.items ++ kinds_of (drop l.instance-index l.instances)
