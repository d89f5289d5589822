use Rattle.std.proofs.Common.{◌≡◌, take, sum_by}
use Rattle.sim_values.specs.Sizes.{capped, size_in}
use Rattle.sim_values.proofs.sizes.inner_size.Given as goal

abbrev pub invariant-loop-instance : goal.invariant-loop-instance
invariant-loop-instance l = l.total ≡ capped (sum_by (size_in l.sizes) (take l.instance-index l.instances))
