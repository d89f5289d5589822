use Rattle.std.proofs.Common.{◌≡◌, take}
use Rattle.sim_values.specs.Sizes.{sizes_of}
use Rattle.sim_values.proofs.sizes.module_sizes.Given as goal

abbrev pub invariant-loop-module : goal.invariant-loop-module
invariant-loop-module l = l.sizes.items ≡ sizes_of (take l.module-index l.modules)
