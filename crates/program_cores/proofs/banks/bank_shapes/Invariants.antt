use Rattle.std.proofs.Common.{◌≡◌, map, take}
use Rattle.bank_partition.specs.Shapes.{shape_of}
use Rattle.program_cores.specs.Banks.{core_shapes}
use Rattle.program_cores.proofs.banks.bank_shapes.Given as goal

abbrev pub invariant-loop-bank : goal.invariant-loop-bank
invariant-loop-bank l = l.cores ≡ core_shapes l.fn.threads (map shape_of (take l.bank-index l.banks))
