use Rattle.std.proofs.Common.{◌≡◌, map, take}
use Rattle.netlist.specs.NetlistOf.{module_names}
use Rattle.net_names.specs.Names.{first_output}
use Rattle.net_names.specs.Tables.{names_of}
use Rattle.net_names.proofs.kinds.Kinds.of.Given as goal

abbrev pub invariant-loop-module : goal.invariant-loop-module
invariant-loop-module l =
    (names_of l.names ≡ module_names (take l.module-index l.modules)) × (l.first_outputs ≡ map first_output (take l.module-index l.modules))
