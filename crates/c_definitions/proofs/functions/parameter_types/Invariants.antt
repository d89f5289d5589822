use Rattle.std.proofs.Common.{◌≡◌, map, take}
use Rattle.c_resolution.specs.Functions as spec
use Rattle.c_definitions.proofs.functions.parameter_types.Given as goal

abbrev pub invariant-loop-parameter : goal.invariant-loop-parameter
invariant-loop-parameter l = l.types ≡ map spec.parameter_type (take l.parameter-index l.parameters)
